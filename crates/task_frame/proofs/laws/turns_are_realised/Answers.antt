use Rattle.task_frame.proofs.Realised.{realised}
use Rattle.task_frame.proofs.laws.turns_are_realised.Goals as goal

pub returns : goal.returns
returns c = realised
