use Rattle.domore_core.proofs.Histories.{ends_as_job}
use Rattle.domore_core.proofs.laws.histories_end_as_job.Goals as goal

pub returns : goal.returns
returns c = ends_as_job
