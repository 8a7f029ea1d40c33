use Rattle.nest_setup.proofs.Walked.{walks_fit}
use Rattle.nest_setup.proofs.walks_fit.Goals as goal

pub returns : goal.returns
returns c = walks_fit
