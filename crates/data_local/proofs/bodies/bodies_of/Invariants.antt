use Rattle.std.proofs.Common.{◌≡◌, ◌++◌, map, drop}
use Rattle.std.specs.List.{flat_map}
use Rattle.nest_syntax.specs.declared.tree.Loop.{Loop}
use Rattle.data_local.specs.Bodies.{bodies_in_items}
use Rattle.data_local.proofs.bodies.bodies_of.Given as goal

abbrev pub invariant-loop-region : goal.invariant-loop-region
invariant-loop-region l = map (λ x. x.now) l.found.items ++ flat_map (λ (region : Loop). bodies_in_items region.body) (drop l.region-index l.region-items) ≡ flat_map (λ (region : Loop). bodies_in_items region.body) l.region-items
