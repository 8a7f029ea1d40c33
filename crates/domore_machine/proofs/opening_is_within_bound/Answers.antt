use Rattle.domore_machine.proofs.Falls.{opening_within}
use Rattle.domore_machine.proofs.opening_is_within_bound.Goals as goal

pub returns : goal.returns
returns g c = λ m nest what start cost setup costs. opening_within _ _ _ m nest what start cost setup costs
