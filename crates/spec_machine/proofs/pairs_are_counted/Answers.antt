use Rattle.spec_machine.proofs.Pairs.{counted}
use Rattle.spec_machine.proofs.pairs_are_counted.Goals as goal

pub returns : goal.returns
returns c = counted
