use Rattle.std.proofs.Common.{sym}
use Rattle.nest_parse.proofs.Steps.{no_assignment, other_assignment}
use Rattle.nest_parse.proofs.cursor.Cursor.assignment.Goals as goal

pub returns-in_default-clause-reads : goal.returns-in_default-clause-reads
returns-in_default-clause-reads c = no_assignment (sym c.in_default.ensures)

pub returns-in_default-assignment-clause-reads : goal.returns-in_default-assignment-clause-reads
returns-in_default-assignment-clause-reads c = other_assignment (sym c.in-Some.ensures) (sym c.in_default-assignment.ensures)
