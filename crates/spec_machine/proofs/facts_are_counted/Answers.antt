use Rattle.spec_machine.proofs.Runs.{counts}
use Rattle.spec_machine.proofs.facts_are_counted.Goals as goal

pub returns : goal.returns
returns g c = λ m nest start history s leads. counts _ _ _ _ m nest start history s leads
