use Rattle.spec_core.proofs.Histories.{give_up_for_trap}
use Rattle.spec_core.proofs.laws.histories_give_up_for_trap.Goals as goal

pub returns : goal.returns
returns g c = give_up_for_trap _
