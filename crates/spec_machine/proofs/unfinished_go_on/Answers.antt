use Rattle.spec_machine.proofs.Progress.{unfinished_goes}
use Rattle.spec_machine.proofs.unfinished_go_on.Goals as goal

pub returns : goal.returns
returns g c = λ m nest what start noted setup history s leads unfinished. unfinished_goes _ _ _ _ m nest what start noted setup history s leads unfinished
