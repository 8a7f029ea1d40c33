use Rattle.settle_law.proofs.Tasks.{at_stop}
use Rattle.settle_law.proofs.stops_tell.Goals as goal

pub returns : goal.returns
returns g c = λ sys tree made piece left. at_stop sys tree made piece left
