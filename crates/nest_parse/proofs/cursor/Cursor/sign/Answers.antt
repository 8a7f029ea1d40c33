use Rattle.std.proofs.Common.{false}
use Rattle.std.specs.Prelude.{IsTrue}
use Rattle.nest_parse.proofs.Steps.{no_mark, other_mark}
use Rattle.nest_parse.proofs.cursor.Cursor.sign.Goals as goal

pub returns-in_default-clause-reads : goal.returns-in_default-clause-reads
returns-in_default-clause-reads c = no_mark c.in_default.ensures

pub returns-then-not-is_same_mark-clause-reads : goal.returns-then-not-is_same_mark-clause-reads
returns-then-not-is_same_mark-clause-reads c = other_mark c.in-Some.ensures (λ e. let h : IsTrue false = c.if-not-is_same_mark.ensures.1 e in cc)
