use Rattle.std.proofs.Common.{◌≡◌, drop}
use Rattle.std.specs.List.{flat_map}
use Rattle.nest_check.specs.Through.{through}
use Rattle.nest_syntax.specs.Shape.{items, items_in_arm}
use Rattle.nest_check.specs.Noted.{passed}
use Rattle.nest_check.proofs.items.+pass.Given as goal

abbrev pub invariant-pass_arms-loop-arm : goal.invariant-pass_arms-loop-arm
invariant-pass_arms-loop-arm l = through passed l.sizes (flat_map items_in_arm (drop l.arm-index l.arms)) ≡ through passed l.fn.sizes (flat_map items_in_arm l.arms)

abbrev pub invariant-pass_items-loop-stmt : goal.invariant-pass_items-loop-stmt
invariant-pass_items-loop-stmt l = through passed l.sizes (flat_map items (drop l.stmt-index l.stmts)) ≡ through passed l.fn.sizes (flat_map items l.stmts)
