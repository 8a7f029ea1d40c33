use Rattle.spec_machine.proofs.Runs.{once}
use Rattle.spec_machine.proofs.segments_are_restored_once.Goals as goal

pub returns : goal.returns
returns g c = λ m nest what start noted setup history s leads. once _ _ _ _ m nest what start noted setup history s leads
