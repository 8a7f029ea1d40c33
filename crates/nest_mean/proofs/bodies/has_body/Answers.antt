use Rattle.std.proofs.Common.{refl, ap, ◌∙◌, arith}
use Rattle.nest_syntax.specs.declared.tree.Program.{Program}
use Rattle.nest_mean.proofs.Numbers.{is_there, too_many}
use Rattle.nest_mean.proofs.bodies.has_body.Goals as goal

pub returns-in-Ok : goal.returns-in-Ok
returns-in-Ok c =
    let regions = c.as_slice.ensures ∙ ap (λ (p : Program). p.regions) c.program.ensures.same in
    (λ yes. is_there c.args.checked.now c.as_slice.result.now c.args.body _ regions c.in-Ok.ensures, λ there. refl)

pub returns-in-Err : goal.returns-in-Err
returns-in-Err c =
    let regions = c.as_slice.ensures ∙ ap (λ (p : Program). p.regions) c.program.ensures.same in
    let over = too_many c.args.checked.now c.as_slice.result.now c.args.body _ regions c.in-Err.ensures in
    (λ no. cc, λ there. absurd (omega (arith, over, there)))
