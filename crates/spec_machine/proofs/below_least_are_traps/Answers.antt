use Rattle.spec_machine.proofs.Runs.{below_least_traps}
use Rattle.spec_machine.proofs.below_least_are_traps.Goals as goal

pub returns : goal.returns
returns g c = λ m nest what start noted claims size setup held below history s rollback leads among. below_least_traps _ _ _ _ m nest what start noted claims size setup held below history s rollback leads among
