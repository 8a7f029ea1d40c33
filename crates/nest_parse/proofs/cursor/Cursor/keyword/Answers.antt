use Rattle.std.proofs.Common.{false}
use Rattle.std.specs.Prelude.{IsTrue}
use Rattle.nest_parse.proofs.Steps.{no_word, other_word}
use Rattle.nest_parse.proofs.cursor.Cursor.keyword.Goals as goal

pub returns-in_default-clause-reads : goal.returns-in_default-clause-reads
returns-in_default-clause-reads c = no_word c.in_default.ensures

pub returns-then-not-is_same_keyword-clause-reads : goal.returns-then-not-is_same_keyword-clause-reads
returns-then-not-is_same_keyword-clause-reads c = other_word c.in-Some.ensures (λ e. let h : IsTrue false = c.if-not-is_same_keyword.ensures.1 e in cc)
