use Rattle.std.proofs.Common.{◌≡◌, map, drop}
use Rattle.std.specs.List.{flat_map}
use Rattle.nest_syntax.specs.Shape.{items, items_in_arm}
use Rattle.nest_check.specs.Through.{through}
use Rattle.task_code.specs.Bodies.{told, with_invoked}
use Rattle.task_code.proofs.bodies.+gather.Given as goal

abbrev pub invariant-add_items-loop-stmt : goal.invariant-add_items-loop-stmt
invariant-add_items-loop-stmt l = through with_invoked (map told l.found.items) (flat_map items (drop l.stmt-index l.stmts)) ≡ through with_invoked (map told l.fn.found.items) (flat_map items l.stmts)

abbrev pub invariant-add_arms-loop-arm : goal.invariant-add_arms-loop-arm
invariant-add_arms-loop-arm l = through with_invoked (map told l.found.items) (flat_map items_in_arm (drop l.arm-index l.arms)) ≡ through with_invoked (map told l.fn.found.items) (flat_map items_in_arm l.arms)
