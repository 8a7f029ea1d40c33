use Rattle.spec_machine.proofs.Runs.{causes}
use Rattle.spec_machine.proofs.rollbacks_are_caused.Goals as goal

pub returns : goal.returns
returns g c = λ m nest what start noted claims size setup held history s rollback leads among. causes _ _ _ _ m nest what start noted claims size setup held history s rollback leads among
