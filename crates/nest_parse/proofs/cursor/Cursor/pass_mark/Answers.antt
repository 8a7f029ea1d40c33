use Rattle.std.proofs.Common.{false}
use Rattle.std.specs.Prelude.{IsTrue}
use Rattle.nest_parse.proofs.Steps.{not_a_mark, wrong_mark}
use Rattle.nest_parse.proofs.cursor.Cursor.pass_mark.Goals as goal

pub returns-in_default-clause-takes : goal.returns-in_default-clause-takes
returns-in_default-clause-takes c = not_a_mark c.args.mark c.in_default.ensures

pub returns-then-not-is_same_mark-clause-takes : goal.returns-then-not-is_same_mark-clause-takes
returns-then-not-is_same_mark-clause-takes c = wrong_mark c.in-Some.ensures (λ e. let h : IsTrue false = c.if-not-is_same_mark.ensures.1 e in cc)
