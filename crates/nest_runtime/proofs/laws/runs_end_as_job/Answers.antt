use Rattle.nest_runtime.proofs.Due.{runs_end_as_job}
use Rattle.nest_runtime.proofs.laws.runs_end_as_job.Goals as goal

pub returns : goal.returns
returns c = runs_end_as_job c.histories_end_as_job.ensures c.histories_speculate.ensures c.histories_speculate-2.ensures
