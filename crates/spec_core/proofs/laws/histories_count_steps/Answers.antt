use Rattle.spec_core.proofs.Histories.{count_steps}
use Rattle.spec_core.proofs.laws.histories_count_steps.Goals as goal

pub returns : goal.returns
returns g c = count_steps _
