use Rattle.settle_law.proofs.Turns.{accesses_are_tree}
use Rattle.settle_law.proofs.accesses_are_tree.Goals as goal

pub returns : goal.returns
returns c = accesses_are_tree
