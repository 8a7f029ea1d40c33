use Rattle.settle_law.proofs.Turns.{turn_is_tree}
use Rattle.settle_law.proofs.turn_is_tree.Goals as goal

pub returns : goal.returns
returns c = turn_is_tree
