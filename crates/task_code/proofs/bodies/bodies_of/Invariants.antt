use Rattle.std.proofs.Common.{◌≡◌, [], map, drop}
use Rattle.std.specs.List.{flat_map}
use Rattle.nest_syntax.specs.declared.tree.Loop.{Loop}
use Rattle.nest_syntax.specs.Shape.{items_of}
use Rattle.nest_check.specs.Through.{through}
use Rattle.task_code.specs.Bodies.{told, with_invoked}
use Rattle.task_code.proofs.bodies.bodies_of.Given as goal

abbrev pub invariant-loop-region : goal.invariant-loop-region
invariant-loop-region l = through with_invoked (map told l.found.items) (flat_map (λ (region : Loop). items_of region.body) (drop l.region-index l.region-items)) ≡ through with_invoked [] (flat_map (λ (region : Loop). items_of region.body) l.region-items)
