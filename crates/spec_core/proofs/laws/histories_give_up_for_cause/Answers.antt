use Rattle.spec_core.proofs.Histories.{give_up_for_cause}
use Rattle.spec_core.proofs.laws.histories_give_up_for_cause.Goals as goal

pub returns : goal.returns
returns g c = give_up_for_cause _
