use Rattle.std.proofs.Common.{length, sym, ap, ◌∙◌}
use Rattle.nest_mean.proofs.Kept.{length-declared}
use Rattle.nest_mean.proofs.run.RunScalars.first.Goals as goal

pub invariant_of-result : goal.invariant_of-result
invariant_of-result c = ap length c.in_ok-aside.ensures ∙ ap length (sym c.in_ok-present.ensures) ∙ sym (length-declared c.as_slice.result.now _) ∙ ap length (sym c.declare_scalars.ensures)
