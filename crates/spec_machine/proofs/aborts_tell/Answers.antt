use Rattle.spec_machine.proofs.Runs.{aborts}
use Rattle.spec_machine.proofs.aborts_tell.Goals as goal

pub returns : goal.returns
returns g c = λ m nest what start noted setup history s cause leads is. aborts _ _ _ _ m nest what start noted setup history s cause leads is
