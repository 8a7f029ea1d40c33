use Rattle.settle_law.proofs.Law.{settles}
use Rattle.settle_law.proofs.finished_parts_settle.Goals as goal

pub returns : goal.returns
returns c = settles
