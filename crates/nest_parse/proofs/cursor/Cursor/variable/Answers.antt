use Rattle.nest_parse.proofs.Steps.{no_variable}
use Rattle.nest_parse.proofs.cursor.Cursor.variable.Goals as goal

pub returns-in_default-clause-reads : goal.returns-in_default-clause-reads
returns-in_default-clause-reads c = no_variable c.in_default.ensures
