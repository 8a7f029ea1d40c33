use Rattle.settle_law.proofs.Nests.{reached_is_after}
use Rattle.settle_law.proofs.reached_is_after.Goals as goal

pub returns : goal.returns
returns c = reached_is_after
