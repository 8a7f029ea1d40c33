use Rattle.std.proofs.Common.{map, sym, ap, ◌∙◌}
use Rattle.std.proofs.lemmas.List.{take_all}
use Rattle.nest_syntax.specs.Shape.{invoked_by}
use Rattle.task_code.specs.Bodies.{told}
use Rattle.spec_core.specs.Shared.{is_shared}
use Rattle.spec_core.proofs.Clearing.{map_twice}
use Rattle.spec_core.proofs.shared.shared_bodies.Goals as goal

pub returns : goal.returns
returns c =
    let program = c.args.checked.now in
    let items = c.deref-body-items.result.now in
    c.loop-body.invariant ∙ ap (map (λ b. is_shared program (told b))) (take_all c.loop-body.body-index items c.loop-body-test.false ∙ c.deref-body-items.ensures.value)
    ∙ sym (map_twice told (is_shared program) c.in_ok-found.found.items) ∙ ap (map (is_shared program)) c.in_ok-found.ensures ∙ ap (λ p. map (is_shared program) (invoked_by p)) c.program.ensures.same
