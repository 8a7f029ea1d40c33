use Rattle.nest_mean.specs.CourseParts.{items_in, setting_in}
use Rattle.nest_mean.proofs.Rounds.{IsTurned}
use Rattle.nest_mean.proofs.courses.run_region_turns.Given as goal

abbrev pub invariant-loop-k : goal.invariant-loop-k
invariant-loop-k l = IsTurned (setting_in l.job) (items_in (setting_in l.job) l.region.body) l.region l.low l.count l.fn.run l.k l.run
