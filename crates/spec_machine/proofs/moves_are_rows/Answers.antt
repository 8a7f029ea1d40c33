use Rattle.spec_machine.proofs.Progress.{moves_are_rows}
use Rattle.spec_machine.proofs.moves_are_rows.Goals as goal

pub returns : goal.returns
returns g c = λ m nest what start noted setup history s actor move leads. moves_are_rows _ _ _ _ m nest what start noted setup history s actor move leads
