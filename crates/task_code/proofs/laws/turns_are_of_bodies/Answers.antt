use Rattle.task_code.proofs.Entries.{turns_of_bodies}
use Rattle.task_code.proofs.laws.turns_are_of_bodies.Goals as goal

pub returns : goal.returns
returns c = turns_of_bodies
