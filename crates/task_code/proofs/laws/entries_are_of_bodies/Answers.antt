use Rattle.task_code.proofs.Entries.{entries_of_bodies}
use Rattle.task_code.proofs.laws.entries_are_of_bodies.Goals as goal

pub returns : goal.returns
returns c = entries_of_bodies
