use Rattle.sched_cursor.proofs.Inside.{bodies_inside}
use Rattle.sched_cursor.proofs.laws.bodies_inside.Goals as goal

pub returns : goal.returns
returns c = bodies_inside
