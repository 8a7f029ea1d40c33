use Rattle.spec_machine.proofs.Within.{opening_within}
use Rattle.spec_machine.proofs.opening_is_within_bound.Goals as goal

pub returns : goal.returns
returns g c = λ m nest what start noted cost setup costs. opening_within _ _ _ _ m nest what start noted cost setup costs
