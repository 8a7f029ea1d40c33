use Rattle.settle_law.proofs.Turns.{keeps-from_tells}
use Rattle.settle_law.proofs.telling_turns_keep.Goals as goal

pub returns : goal.returns
returns c = keeps-from_tells
