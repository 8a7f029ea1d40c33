use Rattle.domore_machine.proofs.Runs.{keeps_order}
use Rattle.domore_machine.proofs.histories_keep_order.Goals as goal

pub returns : goal.returns
returns g c = λ m nest what start setup history s leads. keeps_order _ _ _ m nest what start setup history s leads
