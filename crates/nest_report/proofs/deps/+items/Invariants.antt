use Rattle.std.proofs.Common.{◌≡◌, ◌++◌, drop}
use Rattle.std.specs.List.{flat_map}
use Rattle.nest_syntax.specs.declared.tree.Arm.{Arm}
use Rattle.nest_report.specs.Deps.{item_lines}
use Rattle.nest_report.proofs.deps.+items.Given as goal

-- what is written and the lines of what is left are all lines
abbrev pub invariant-add_items-loop-stmt : goal.invariant-add_items-loop-stmt
invariant-add_items-loop-stmt l = l.text.items ++ flat_map (item_lines l.checked) (drop l.stmt-index l.stmts) ≡ l.fn.text.items ++ flat_map (item_lines l.checked) l.stmts

abbrev pub invariant-add_arms-loop-arm : goal.invariant-add_arms-loop-arm
invariant-add_arms-loop-arm l = l.text.items ++ flat_map (λ (a : Arm). flat_map (item_lines l.checked) a.body) (drop l.arm-index l.arms) ≡ l.fn.text.items ++ flat_map (λ (a : Arm). flat_map (item_lines l.checked) a.body) l.arms
