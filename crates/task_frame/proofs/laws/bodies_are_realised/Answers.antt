use Rattle.task_frame.proofs.Bodies.{bodies_realised}
use Rattle.task_frame.proofs.laws.bodies_are_realised.Goals as goal

pub returns : goal.returns
returns c = bodies_realised
