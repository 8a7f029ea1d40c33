use Rattle.spec_machine.proofs.Runs.{ends}
use Rattle.spec_machine.proofs.histories_end_as_nest.Goals as goal

pub returns : goal.returns
returns g c = λ m nest what start noted setup history complete. ends _ _ _ _ m nest what start noted setup history complete
