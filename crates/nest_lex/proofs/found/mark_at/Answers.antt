use Rattle.std.proofs.Common.{refl, arith}
use Rattle.nest_lex.proofs.Marks.{no_mark, longest_here}
use Rattle.nest_lex.proofs.found.mark_at.Goals as goal

pub returns-in_err-mark : goal.returns-in_err-mark
returns-in_err-mark c = rw c.from_residual.ensures (no_mark _ _ _ c.requires refl c.in_err-mark.ensures)

pub returns-in-None : goal.returns-in-None
returns-in-None c = longest_here _ _ _ _ _ (omega arith) c.loop-next-test.true c.loop-next.invariant refl c.in-None.ensures
