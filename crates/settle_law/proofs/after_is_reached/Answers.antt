use Rattle.settle_law.proofs.Nests.{after_is_reached}
use Rattle.settle_law.proofs.after_is_reached.Goals as goal

pub returns : goal.returns
returns c = after_is_reached
