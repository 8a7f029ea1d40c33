use Rattle.nest_parse.proofs.Steps.{no_name}
use Rattle.nest_parse.proofs.cursor.Cursor.name.Goals as goal

pub returns-in_default-clause-reads : goal.returns-in_default-clause-reads
returns-in_default-clause-reads c = no_name c.in_default.ensures
