use Rattle.spec_machine.proofs.Falls.{falls}
use Rattle.spec_machine.proofs.steps_fall.Goals as goal

pub returns : goal.returns
returns g c = λ m nest what start noted setup history s t actor leads e. falls _ _ _ _ m nest what start noted setup history s t actor leads e
