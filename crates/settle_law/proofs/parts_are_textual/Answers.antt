use Rattle.settle_law.proofs.Law.{parts}
use Rattle.settle_law.proofs.parts_are_textual.Goals as goal

pub returns : goal.returns
returns c = parts
