use Rattle.task_code.proofs.Entries.{entries_count}
use Rattle.task_code.proofs.laws.entries_count.Goals as goal

pub returns : goal.returns
returns c = entries_count
