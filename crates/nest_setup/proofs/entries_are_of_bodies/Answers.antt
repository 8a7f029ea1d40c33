use Rattle.nest_setup.proofs.Right.{entries_of_bodies}
use Rattle.nest_setup.proofs.entries_are_of_bodies.Goals as goal

pub returns : goal.returns
returns c = entries_of_bodies
