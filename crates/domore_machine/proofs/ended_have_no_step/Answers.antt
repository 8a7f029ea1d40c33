use Rattle.domore_machine.proofs.Ended.{no_step}
use Rattle.domore_machine.proofs.ended_have_no_step.Goals as goal

pub returns : goal.returns
returns g c = λ m s actor ended. no_step _ _ _ m s actor ended
