use Rattle.settle_law.proofs.Law.{wholes}
use Rattle.settle_law.proofs.finished_parts_are_whole.Goals as goal

pub returns : goal.returns
returns c = wholes
