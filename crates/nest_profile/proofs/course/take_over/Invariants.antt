use Rattle.std.proofs.Common.{◌≡◌, take, length}
use Rattle.nest_profile.proofs.course.take_over.Given as goal

abbrev pub invariant-loop-name : goal.invariant-loop-name
invariant-loop-name l = (take l.name l.target ≡ take l.name l.source) × (length l.target ≡ l.names)
