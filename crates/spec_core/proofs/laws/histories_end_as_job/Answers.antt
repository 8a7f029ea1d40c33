use Rattle.spec_core.proofs.Histories.{end_as_job}
use Rattle.spec_core.proofs.laws.histories_end_as_job.Goals as goal

pub returns : goal.returns
returns g c = end_as_job _
