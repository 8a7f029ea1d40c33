use Rattle.nest_lex.proofs.Searching.{Searched}
use Rattle.nest_lex.proofs.Dividing.{searched_more}
use Rattle.std.proofs.Common.{sym, subst, ℕ}
use Rattle.nest_lex.proofs.divide.first_marker.Goals as goal

pub loop-start-preserved : goal.loop-start-preserved
loop-start-preserved c =
    subst (λ (n : ℕ). Searched c.args.bytes.now c.args.from n) (sym c.line_behind-start.ensures)
    (searched_more _ _ _ _ c.loop-start.invariant c.loop-start-test.true c.line_end-stop.ensures c.in-None.ensures)
