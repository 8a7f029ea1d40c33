use Rattle.std.proofs.Common.{◌≡◌, ◌++◌, true, map, drop}
use Rattle.std.specs.List.{concat}
use Rattle.nest_syntax.specs.Locals.{given_in_arm, names_given}
use Rattle.dep_graph.proofs.given.+give.Given as goal

abbrev pub invariant-add_block-loop-stmt : goal.invariant-add_block-loop-stmt
invariant-add_block-loop-stmt l = l.names.items ++ names_given true (drop l.stmt-index l.stmts) ≡ l.fn.names.items ++ names_given true l.stmts

abbrev pub invariant-add_arms-loop-arm : goal.invariant-add_arms-loop-arm
invariant-add_arms-loop-arm l = l.names.items ++ concat (map (given_in_arm true) (drop l.arm-index l.arms)) ≡ l.fn.names.items ++ concat (map (given_in_arm true) l.arms)
