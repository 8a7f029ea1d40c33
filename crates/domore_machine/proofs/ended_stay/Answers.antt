use Rattle.domore_machine.proofs.Ended.{stay}
use Rattle.domore_machine.proofs.ended_stay.Goals as goal

pub returns : goal.returns
returns g c = λ m nest what start setup history s t actor other leads ended step. stay _ _ _ m nest what start setup history s t actor other leads ended step
