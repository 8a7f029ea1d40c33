use Rattle.settle_law.proofs.Reading.{made_is_read}
use Rattle.settle_law.proofs.made_is_read.Goals as goal

pub returns : goal.returns
returns c = made_is_read
