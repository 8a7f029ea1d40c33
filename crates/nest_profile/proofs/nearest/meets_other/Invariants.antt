use Rattle.std.proofs.Common.{◌≤◌}
use Rattle.nest_profile.specs.Nearest.{MeetsOther}
use Rattle.nest_profile.proofs.nearest.meets_other.Given as goal

abbrev pub invariant-loop-worker : goal.invariant-loop-worker
invariant-loop-worker g l = (m : MeetsOther g.G.Signature.sizes_of g.G.Signature.holds l.sign l.own l.others.signs.items) → l.worker ≤ m.worker
