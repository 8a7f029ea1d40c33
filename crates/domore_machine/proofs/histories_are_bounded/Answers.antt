use Rattle.domore_machine.proofs.Falls.{is_bounded}
use Rattle.domore_machine.proofs.histories_are_bounded.Goals as goal

pub returns : goal.returns
returns g c = λ m nest what start setup history s leads. is_bounded _ _ _ m nest what start setup history s leads
