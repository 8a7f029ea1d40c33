use Rattle.std.proofs.Common.{false}
use Rattle.std.specs.Prelude.{IsTrue}
use Rattle.nest_parse.proofs.Steps.{not_a_keyword, wrong_keyword}
use Rattle.nest_parse.proofs.cursor.Cursor.pass_keyword.Goals as goal

pub returns-in_default-clause-takes : goal.returns-in_default-clause-takes
returns-in_default-clause-takes c = not_a_keyword c.args.word c.in_default.ensures

pub returns-then-not-is_same_keyword-clause-takes : goal.returns-then-not-is_same_keyword-clause-takes
returns-then-not-is_same_keyword-clause-takes c = wrong_keyword c.in-Some.ensures (λ e. let h : IsTrue false = c.if-not-is_same_keyword.ensures.1 e in cc)
