use Rattle.domore_machine.proofs.Runs.{is_next}
use Rattle.domore_machine.proofs.handed_out_is_next.Goals as goal

pub returns : goal.returns
returns g c = λ m nest what start setup history s leads b rest none is. is_next _ _ _ m nest what start setup history s leads b rest none is
