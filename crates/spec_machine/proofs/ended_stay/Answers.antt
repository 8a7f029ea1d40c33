use Rattle.spec_machine.proofs.Runs.{ended_stay}
use Rattle.spec_machine.proofs.ended_stay.Goals as goal

pub returns : goal.returns
returns g c = λ m s t actor other ended stepped. ended_stay _ _ _ _ m s t actor other ended stepped
