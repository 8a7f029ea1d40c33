use Rattle.settle_law.proofs.Reading.{reads_are_made}
use Rattle.settle_law.proofs.reads_are_made.Goals as goal

pub returns : goal.returns
returns c = reads_are_made
