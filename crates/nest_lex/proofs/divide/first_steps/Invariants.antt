use Rattle.std.proofs.Common.{length, ◌-◌}
use Rattle.nest_lex.proofs.Searching.{SearchedSteps}
use Rattle.nest_lex.proofs.divide.first_steps.Given as goal

abbrev pub invariant-loop-line : goal.invariant-loop-line
invariant-loop-line l = SearchedSteps l.bytes l.from l.start

abbrev pub decreases-loop-line : goal.decreases-loop-line
decreases-loop-line l = length l.bytes - l.start
