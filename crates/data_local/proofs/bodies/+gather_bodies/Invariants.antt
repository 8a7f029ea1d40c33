use Rattle.std.proofs.Common.{◌≡◌, ◌++◌, map, drop}
use Rattle.std.specs.List.{flat_map}
use Rattle.nest_syntax.specs.declared.tree.Arm.{Arm}
use Rattle.data_local.specs.Bodies.{bodies_in_items}
use Rattle.data_local.proofs.bodies.+gather_bodies.Given as goal

abbrev pub invariant-add_bodies-loop-stmt : goal.invariant-add_bodies-loop-stmt
invariant-add_bodies-loop-stmt l = map (λ x. x.now) l.found.items ++ bodies_in_items (drop l.stmt-index l.stmts) ≡ map (λ x. x.now) l.fn.found.items ++ bodies_in_items l.stmts

abbrev pub invariant-add_bodies_of_arms-loop-arm : goal.invariant-add_bodies_of_arms-loop-arm
invariant-add_bodies_of_arms-loop-arm l = map (λ x. x.now) l.found.items ++ flat_map (λ (arm : Arm). bodies_in_items arm.body) (drop l.arm-index l.arms) ≡ map (λ x. x.now) l.fn.found.items ++ flat_map (λ (arm : Arm). bodies_in_items arm.body) l.arms
