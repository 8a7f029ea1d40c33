use Rattle.std.proofs.Common.{map, ap, subst, ◌∙◌}
use Rattle.nest_syntax.specs.declared.tree.Program.{Program}
use Rattle.nest_syntax.specs.Arrays.{Array, arrays_of}
use Rattle.task_code.specs.CodeOf.{IsCodeOf}
use Rattle.task_frame.proofs.Stops.{stops_inside}
use Rattle.spec_core.specs.Shared.{shared_in}
use Rattle.spec_core.proofs.Opened.{is_plan}
use Rattle.spec_core.proofs.opening.open_plan.Goals as goal

pub returns-clause-inside : goal.returns-clause-inside
returns-clause-inside c = stops_inside c.args.job.program c.in_ok-code.code (subst (λ (p : Program). IsCodeOf p c.in_ok-code.code) c.checked.ensures.same c.in_ok-code.ensures)

pub returns-clause-plan : goal.returns-clause-plan
returns-clause-plan c = is_plan _ c.requires
    (subst (λ (p : Program). IsCodeOf p c.in_ok-code.code) c.checked.ensures.same c.in_ok-code.ensures)
    (c.in_ok-shared.ensures ∙ ap shared_in c.checked-2.ensures.same)
    (c.in_ok-consts.ensures ∙ ap (λ (p : Program). map (λ (a : Array). a.fixed) (arrays_of p.decls)) c.checked-3.ensures.same)
