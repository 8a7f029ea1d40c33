use Rattle.std.proofs.Common.{sym, subst, ℕ}
use Rattle.nest_lex.proofs.Searching.{SearchedSteps}
use Rattle.nest_lex.proofs.Dividing.{steps_found, steps_more, steps_none}
use Rattle.nest_lex.proofs.divide.first_steps.Goals as goal

pub returns-in-Steps : goal.returns-in-Steps
returns-in-Steps c = steps_found _ _ _ _ c.loop-line.invariant c.in-Some.ensures c.in-Steps.is

pub loop-line-preserved : goal.loop-line-preserved
loop-line-preserved c =
    subst (λ (n : ℕ). SearchedSteps c.args.bytes.now c.args.from n) (sym c.line_behind-start.ensures)
    (steps_more _ _ _ _ c.loop-line.invariant c.in-Some.ensures c.in-Data.is)

pub returns : goal.returns
returns c = steps_none _ _ _ c.loop-line.invariant c.in_default.ensures
