use Rattle.std.proofs.Common.{◌≡◌, ◌++◌, ◌∷◌, map, drop}
use Rattle.std.specs.List.{flat_map}
use Rattle.nest_syntax.specs.declared.tree.Loop.{Loop}
use Rattle.data_local.specs.Loops.{line_of, loops_in}
use Rattle.data_local.proofs.loops.loops_of.Given as goal

abbrev pub invariant-loop-region : goal.invariant-loop-region
invariant-loop-region l = map (λ x. x.now) l.found.items ++ flat_map (λ (region : Loop). region ∷ loops_in region.body) (drop l.region-index l.region-items) ≡ flat_map (λ (region : Loop). region ∷ loops_in region.body) l.region-items
