use Rattle.settle_law.proofs.Law.{traps}
use Rattle.settle_law.proofs.trapped_part_is_textual.Goals as goal

pub returns : goal.returns
returns c = traps
