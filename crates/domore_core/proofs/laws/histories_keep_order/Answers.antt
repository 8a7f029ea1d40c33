use Rattle.domore_core.proofs.Histories.{keeps_job_order}
use Rattle.domore_core.proofs.laws.histories_keep_order.Goals as goal

pub returns : goal.returns
returns c = keeps_job_order
