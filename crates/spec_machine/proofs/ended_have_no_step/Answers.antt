use Rattle.spec_machine.proofs.Runs.{ended_no_step}
use Rattle.spec_machine.proofs.ended_have_no_step.Goals as goal

pub returns : goal.returns
returns g c = λ m s actor ended. ended_no_step _ _ _ _ m s actor ended
