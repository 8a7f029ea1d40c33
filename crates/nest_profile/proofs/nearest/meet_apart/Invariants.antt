use Rattle.std.proofs.Common.{◌≤◌, ◌+◌}
use Rattle.nest_profile.specs.Nearest.{MeetApart}
use Rattle.nest_profile.proofs.nearest.meet_apart.Given as goal

abbrev pub invariant-loop-late : goal.invariant-loop-late
invariant-loop-late g l = (m : MeetApart g.G.Signature.sizes_of g.G.Signature.holds l.rows l.count l.distance) → l.late ≤ m.epoch + l.distance
