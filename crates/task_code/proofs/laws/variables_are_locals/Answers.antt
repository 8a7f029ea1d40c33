use Rattle.task_code.proofs.Entries.{variable_local}
use Rattle.task_code.proofs.laws.variables_are_locals.Goals as goal

pub returns : goal.returns
returns c = variable_local
