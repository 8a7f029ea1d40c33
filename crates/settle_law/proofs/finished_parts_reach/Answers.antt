use Rattle.settle_law.proofs.Law.{reaches}
use Rattle.settle_law.proofs.finished_parts_reach.Goals as goal

pub returns : goal.returns
returns c = reaches
