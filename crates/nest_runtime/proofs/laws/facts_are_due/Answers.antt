use Rattle.nest_runtime.proofs.Due.{facts_are_due}
use Rattle.nest_runtime.proofs.laws.facts_are_due.Goals as goal

pub returns : goal.returns
returns c = facts_are_due c.histories_end_as_job.ensures
