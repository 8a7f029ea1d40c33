use Rattle.nest_mean.specs.Nest.{IsWellFormed}
use Rattle.nest_mean.proofs.jobs.Job.new.Goals as goal

pub invariant_of-result : goal.invariant_of-result
unfolding IsWellFormed
invariant_of-result c =
    let told = c.program-program.ensures in
    record { formed = (told.named, told.keeps); sizes = c.requires; few_decls = told.few_decls; few_bodies = told.few_bodies }
