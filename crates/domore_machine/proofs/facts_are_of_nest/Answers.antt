use Rattle.domore_machine.proofs.Runs.{counts_as}
use Rattle.domore_machine.proofs.facts_are_of_nest.Goals as goal

pub returns : goal.returns
returns g c = λ m nest what start setup history complete words done. counts_as _ _ _ m nest what start setup history complete words done
