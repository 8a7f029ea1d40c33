use Rattle.spec_machine.proofs.Falls.{is_bounded}
use Rattle.spec_machine.proofs.histories_are_bounded.Goals as goal

pub returns : goal.returns
returns g c = λ m nest what start noted setup history s leads. is_bounded _ _ _ _ m nest what start noted setup history s leads
