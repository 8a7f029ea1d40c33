use Rattle.spec_machine.proofs.Runs.{keeps_invariant}
use Rattle.spec_machine.proofs.histories_keep_invariant.Goals as goal

pub returns : goal.returns
returns g c = λ m nest what start noted setup history s leads. keeps_invariant _ _ _ _ m nest what start noted setup history s leads
