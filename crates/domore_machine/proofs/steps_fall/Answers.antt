use Rattle.domore_machine.proofs.Falls.{falls}
use Rattle.domore_machine.proofs.steps_fall.Goals as goal

pub returns : goal.returns
returns g c = λ m nest what start setup history s t actor leads step. falls _ _ _ m nest what start setup history s t actor leads step
