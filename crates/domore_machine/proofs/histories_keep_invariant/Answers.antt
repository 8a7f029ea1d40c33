use Rattle.domore_machine.proofs.Runs.{invariant_holds}
use Rattle.domore_machine.proofs.histories_keep_invariant.Goals as goal

pub returns : goal.returns
returns g c = λ m nest what start setup history s leads. invariant_holds m nest what start setup history s leads
