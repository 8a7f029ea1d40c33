use Rattle.std.proofs.Common.{refl, sym}
use Rattle.nest_mean.specs.CourseParts.{setting_in}
use Rattle.nest_mean.proofs.Rounds.{iterates}
use Rattle.nest_mean.proofs.iterations.run_iteration.Goals as goal

pub returns : goal.returns
returns c =
    rw (sym c.run.view_is)
    (iterates (setting_in c.args.job.now) _ _ _ _ _ _ (rw c.checked.ensures.same at c.run_body-ended.ensures.turn) c.run_body-ended.ensures.sizes (record { many = c.run_body-ended.ensures.names; others = c.run_body-ended.ensures.others }) refl c.count_iteration.ensures.answer c.count_iteration.ensures.count)
