use Rattle.nest_mean.specs.CourseParts.{setting_in}
use Rattle.nest_mean.proofs.Rounds.{IsIterated}
use Rattle.nest_mean.proofs.iterations.run_iterations.Given as goal

abbrev pub invariant-loop-k : goal.invariant-loop-k
invariant-loop-k l = IsIterated (setting_in l.job) l.invoked l.low l.count l.fn.run l.k l.run
