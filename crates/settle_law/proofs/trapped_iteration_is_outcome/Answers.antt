use Rattle.settle_law.proofs.Nests.{trapped_iteration}
use Rattle.settle_law.proofs.trapped_iteration_is_outcome.Goals as goal

pub returns : goal.returns
returns c = trapped_iteration
