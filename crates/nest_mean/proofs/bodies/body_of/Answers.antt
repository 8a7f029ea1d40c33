use Rattle.std.proofs.Common.{sym, ap, ◌∙◌}
use Rattle.nest_syntax.specs.declared.tree.Program.{Program}
use Rattle.nest_mean.proofs.Numbers.{body_is, too_many, body_is_none}
use Rattle.nest_mean.proofs.bodies.body_of.Goals as goal

pub returns-in-Ok : goal.returns-in-Ok
returns-in-Ok c =
    let regions = c.as_slice.ensures ∙ ap (λ (p : Program). p.regions) c.program.ensures.same in
    sym (body_is c.args.checked.now c.as_slice.result.now c.args.body _ regions c.in-Ok.ensures)

pub returns-in-Err : goal.returns-in-Err
returns-in-Err c =
    let regions = c.as_slice.ensures ∙ ap (λ (p : Program). p.regions) c.program.ensures.same in
    c.no_statements.ensures ∙ sym (body_is_none c.args.checked.now c.args.body (too_many c.args.checked.now c.as_slice.result.now c.args.body _ regions c.in-Err.ensures))
