use Rattle.std.proofs.Common.{◌≡◌, ◌++◌, map, drop}
use Rattle.std.specs.List.{flat_map}
use Rattle.data_local.specs.Loops.{loops, loops_in_arm}
use Rattle.data_local.proofs.loops.+gather.Given as goal

abbrev pub invariant-add_loops-loop-stmt : goal.invariant-add_loops-loop-stmt
invariant-add_loops-loop-stmt l = map (λ x. x.now) l.found.items ++ flat_map loops (drop l.stmt-index l.stmts) ≡ map (λ x. x.now) l.fn.found.items ++ flat_map loops l.stmts

abbrev pub invariant-add_loops_of_arms-loop-arm : goal.invariant-add_loops_of_arms-loop-arm
invariant-add_loops_of_arms-loop-arm l = map (λ x. x.now) l.found.items ++ flat_map loops_in_arm (drop l.arm-index l.arms) ≡ map (λ x. x.now) l.fn.found.items ++ flat_map loops_in_arm l.arms
