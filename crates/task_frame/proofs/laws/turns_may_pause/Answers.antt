use Rattle.task_frame.proofs.Realised.{may_pause}
use Rattle.task_frame.proofs.laws.turns_may_pause.Goals as goal

pub returns : goal.returns
returns c = may_pause
