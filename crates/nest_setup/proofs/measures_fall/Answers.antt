use Rattle.nest_setup.proofs.Costs.{measures_fall}
use Rattle.nest_setup.proofs.measures_fall.Goals as goal

pub returns : goal.returns
returns c = measures_fall
