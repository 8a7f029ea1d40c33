use Rattle.nest_setup.proofs.Costs.{setups_keep}
use Rattle.nest_setup.proofs.setups_keep_nests.Goals as goal

pub returns : goal.returns
returns c = setups_keep
