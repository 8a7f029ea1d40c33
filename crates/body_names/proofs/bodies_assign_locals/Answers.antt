use Rattle.body_names.proofs.Assigned.{bodies_assign}
use Rattle.body_names.proofs.bodies_assign_locals.Goals as goal

pub returns : goal.returns
returns c = bodies_assign
