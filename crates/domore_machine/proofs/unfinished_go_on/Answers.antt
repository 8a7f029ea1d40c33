use Rattle.domore_machine.proofs.Progress.{goes_on}
use Rattle.domore_machine.proofs.unfinished_go_on.Goals as goal

pub returns : goal.returns
returns g c = λ m nest what start setup history s leads unfinished. goes_on _ _ _ m nest what start setup history s leads unfinished
