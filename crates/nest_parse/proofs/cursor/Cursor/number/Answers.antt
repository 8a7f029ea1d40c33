use Rattle.nest_parse.proofs.Steps.{no_number, great_number}
use Rattle.nest_parse.proofs.cursor.Cursor.number.Goals as goal

pub returns-in_default-clause-reads : goal.returns-in_default-clause-reads
returns-in_default-clause-reads c = no_number c.in_default.ensures

pub returns-then-found-gt-GREATEST-clause-reads : goal.returns-then-found-gt-GREATEST-clause-reads
returns-then-found-gt-GREATEST-clause-reads c = great_number c.in-Some.ensures c.if-found-gt-GREATEST.true
