use Rattle.std.proofs.Common.{ℕ, ◌<◌, ◌≤◌}
use Rattle.nest_profile.specs.Nearest.{MeetApart}
use Rattle.nest_profile.proofs.nearest.nearest.Given as goal

abbrev pub invariant-loop-distance : goal.invariant-loop-distance
invariant-loop-distance g l = (1 ≤ l.distance) × ((d : ℕ) → 0 < d → MeetApart g.G.Signature.sizes_of g.G.Signature.holds l.rows l.count d → l.distance ≤ d)
