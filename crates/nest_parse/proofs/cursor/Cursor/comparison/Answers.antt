use Rattle.std.proofs.Common.{sym}
use Rattle.nest_parse.proofs.Steps.{no_comparison, other_comparison}
use Rattle.nest_parse.proofs.cursor.Cursor.comparison.Goals as goal

pub returns-in_default-clause-reads : goal.returns-in_default-clause-reads
returns-in_default-clause-reads c = no_comparison (sym c.in_default.ensures)

pub returns-in_default-comparison-clause-reads : goal.returns-in_default-comparison-clause-reads
returns-in_default-comparison-clause-reads c = other_comparison (sym c.in-Some.ensures) (sym c.in_default-comparison.ensures)
