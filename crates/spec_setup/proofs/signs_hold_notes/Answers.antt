use Rattle.spec_setup.proofs.Signs.{signs_hold}
use Rattle.spec_setup.proofs.signs_hold_notes.Goals as goal

pub returns : goal.returns
returns c = signs_hold
