use Rattle.domore_machine.proofs.Runs.{ends_as}
use Rattle.domore_machine.proofs.histories_end_as_nest.Goals as goal

pub returns : goal.returns
returns g c = λ m nest what start setup history complete. ends_as _ _ _ m nest what start setup history complete
