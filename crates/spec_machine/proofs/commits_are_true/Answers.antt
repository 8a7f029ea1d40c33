use Rattle.spec_machine.proofs.Runs.{commits}
use Rattle.spec_machine.proofs.commits_are_true.Goals as goal

pub returns : goal.returns
returns g c = λ m nest what start noted setup history s actor leads is. commits _ _ _ _ m nest what start noted setup history s actor leads is
