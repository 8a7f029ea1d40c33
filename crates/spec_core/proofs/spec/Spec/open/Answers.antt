use Rattle.std.proofs.Common.{[], refl, sym, subst}
use Rattle.progress_board.specs.Options.{IsInRange}
use Rattle.nest_mean.specs.Nest.{Nest, CanRun}
use Rattle.task_code.specs.CodeOf.{IsCodeOf}
use Rattle.spec_core.specs.Kept.{engine_of}
use Rattle.spec_core.proofs.spec.Spec.open.Goals as goal

pub invariant_of-result : goal.invariant_of-result
invariant_of-result g c = record {
  legal = record {
    runs = subst CanRun (sym c.in_ok-plan.ensures.job) c.open_plan.ensures.runs;
    allowed = subst IsInRange (sym c.in_ok-plan.ensures.options) c.requires.allowed;
    first = engine_of c.in_ok-plan.plan c.in_ok-table.table;
    opened = record {
      same_job = refl;
      same_options = refl;
      opened = record { code_is = subst (λ (j : Nest). IsCodeOf j.program c.in_ok-plan.plan.code) (sym c.in_ok-plan.ensures.job) c.in_ok-plan.ensures.code; inside = c.in_ok-plan.ensures.inside; cursor_is = c.in_ok-table.ensures.sound.desk.cursor_is; at_opening = c.in_ok-table.ensures.state };
    };
    reached = record { history = []; ran = refl };
  };
  plan_is = c.in_ok-plan.ensures.plan;
  sound = c.in_ok-table.ensures.sound;
}

pub returns : goal.returns
returns g c = record {
  same_job = c.in_ok-plan.ensures.job;
  same_options = c.in_ok-plan.ensures.options;
  opened = record { code_is = subst (λ (j : Nest). IsCodeOf j.program c.in_ok-plan.plan.code) (sym c.in_ok-plan.ensures.job) c.in_ok-plan.ensures.code; inside = c.in_ok-plan.ensures.inside; cursor_is = c.in_ok-table.ensures.sound.desk.cursor_is; at_opening = c.in_ok-table.ensures.state };
}
