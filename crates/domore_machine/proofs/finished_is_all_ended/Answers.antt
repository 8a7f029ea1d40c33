use Rattle.domore_machine.proofs.Ended.{finishes}
use Rattle.domore_machine.proofs.finished_is_all_ended.Goals as goal

pub returns : goal.returns
returns g c = λ m nest what start setup history s leads. finishes _ _ _ m nest what start setup history s leads
