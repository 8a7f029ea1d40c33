use Rattle.task_frame.proofs.Stops.{stops_inside}
use Rattle.task_frame.proofs.laws.stops_are_inside.Goals as goal

pub returns : goal.returns
returns c = stops_inside
