use Rattle.std.proofs.Common.{length, ◌-◌}
use Rattle.nest_lex.proofs.Searching.{Searched}
use Rattle.nest_lex.proofs.divide.first_marker.Given as goal

abbrev pub invariant-loop-start : goal.invariant-loop-start
invariant-loop-start l = Searched l.bytes l.from l.start

abbrev pub decreases-loop-start : goal.decreases-loop-start
decreases-loop-start l = length l.bytes - l.start
