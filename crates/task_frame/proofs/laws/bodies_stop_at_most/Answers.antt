use Rattle.task_frame.proofs.Bodies.{bodies_stop}
use Rattle.task_frame.proofs.laws.bodies_stop_at_most.Goals as goal

pub returns : goal.returns
returns c = bodies_stop
