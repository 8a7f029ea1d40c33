use Rattle.settle_law.proofs.Reading.{apart_reads}
use Rattle.settle_law.proofs.reads_apart_are_apart.Goals as goal

pub returns : goal.returns
returns c = apart_reads
