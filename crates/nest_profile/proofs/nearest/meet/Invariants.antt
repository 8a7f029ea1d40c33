use Rattle.std.proofs.Common.{◌≤◌}
use Rattle.nest_profile.specs.Nearest.{Meet}
use Rattle.nest_profile.proofs.nearest.meet.Given as goal

abbrev pub invariant-loop-worker : goal.invariant-loop-worker
invariant-loop-worker g l = (m : Meet g.G.Signature.sizes_of g.G.Signature.holds l.early.signs.items l.late.signs.items) → l.worker ≤ m.worker
