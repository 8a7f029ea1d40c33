use Rattle.settle_law.proofs.Reading.{within}
use Rattle.settle_law.proofs.reads_within_are_within.Goals as goal

pub returns : goal.returns
returns c = within
