use Rattle.nest_parse.proofs.Steps.{no_this, other_name}
use Rattle.nest_parse.proofs.cursor.Cursor.same_name.Goals as goal

pub returns-in_default-clause-reads : goal.returns-in_default-clause-reads
returns-in_default-clause-reads c = no_this c.in_default.ensures

pub returns-then-found-name-clause-reads : goal.returns-then-found-name-clause-reads
returns-then-found-name-clause-reads c = other_name c.in-Some.ensures c.if-found-name.true
