use Rattle.nest_setup.proofs.Right.{setups_right}
use Rattle.nest_setup.proofs.setups_are_right.Goals as goal

pub returns : goal.returns
returns c = setups_right
