use Rattle.std.proofs.Common.{subst}
use Rattle.lone_crew.specs.declared.refused.StepRefused.{StepRefused}
use Rattle.nest_runtime.specs.Jobs.{RefusesSteps}
use Rattle.cross_top.proofs.Textual.{steps_due, step_due}
use Rattle.cross_top.proofs.replay.replay_steps.Goals as goal

pub returns-in-Ok : goal.returns-in-Ok
returns-in-Ok c =
    steps_due c.told.result c.args.job c.args.call.now c.args.steps.now c.in-Ok.ran.facts c.in-Ok.ran.history.items c.in-Ok.ensures.run c.in_ok-copy.copy c.in_ok-copy.ensures c.told.ensures

pub returns-in-Err-Step : goal.returns-in-Err-Step
returns-in-Err-Step c =
    let refuses = subst (λ (e : StepRefused). RefusesSteps c.args.job c.args.call.now.options c.args.steps.now e) c.in-Err-Step.field-0-is c.in-Err-Step.ensures.refused in
    step_due c.refused_at.result c.args.job c.args.call.now c.args.steps.now c.in-Err-Step.number refuses c.refused_at.ensures
