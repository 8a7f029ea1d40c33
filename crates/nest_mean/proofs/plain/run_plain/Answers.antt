use Rattle.std.proofs.Common.{ap, ◌∙◌}
use Rattle.nest_syntax.specs.declared.tree.Program.{Program}
use Rattle.nest_mean.proofs.Whole.{is_ready, run_is_done, run_traps}
use Rattle.nest_mean.proofs.plain.run_plain.Goals as goal

pub run_regions-requires : goal.run_regions-requires
run_regions-requires c = is_ready c.args.job.now _ c.in_ok-run.ensures.scalars c.in_ok-run.ensures.number c.in_ok-run.ensures.words _ (c.as_slice.ensures ∙ ap (λ (p : Program). p.regions) (c.program.ensures.same ∙ c.checked.ensures.same)) c.checked.ensures.runs

pub returns-in-Ok : goal.returns-in-Ok
returns-in-Ok c = run_is_done c.args.job.now _ c.in_ok-run.ensures.scalars c.in_ok-run.ensures.number c.in_ok-run.ensures.words _ (c.as_slice.ensures ∙ ap (λ (p : Program). p.regions) (c.program.ensures.same ∙ c.checked.ensures.same)) _ c.in-Ok.ensures

pub returns-in-Err : goal.returns-in-Err
returns-in-Err c = run_traps c.args.job.now _ c.in_ok-run.ensures.scalars c.in_ok-run.ensures.number c.in_ok-run.ensures.words _ (c.as_slice.ensures ∙ ap (λ (p : Program). p.regions) (c.program.ensures.same ∙ c.checked.ensures.same)) _ _ c.in-Err.ensures
