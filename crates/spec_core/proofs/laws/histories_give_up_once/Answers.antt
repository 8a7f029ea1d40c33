use Rattle.spec_core.proofs.Histories.{give_up_once}
use Rattle.spec_core.proofs.laws.histories_give_up_once.Goals as goal

pub returns : goal.returns
returns g c = give_up_once _
