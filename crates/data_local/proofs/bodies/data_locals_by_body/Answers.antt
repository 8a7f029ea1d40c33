use Rattle.std.proofs.Common.{◌≡◌, List, map, take, ap, ◌∙◌, subst}
use Rattle.std.proofs.lemmas.List.{take_all}
use Rattle.nest_syntax.specs.Arrays.{Array, arrays_of}
use Rattle.nest_syntax.specs.Shape.{bodies_of}
use Rattle.data_local.specs.Givings.{Giving, givings}
use Rattle.data_local.specs.Written.{TellsWritten}
use Rattle.data_local.proofs.BodyNodes.{Kept, kept_next, all_kept, map_then}
use Rattle.data_local.proofs.bodies.data_locals_by_body.Goals as goal

pub loop-body-preserved : goal.loop-body-preserved
loop-body-preserved c =
    let arrays : List Array = arrays_of c.args.program.now.decls in
    let tells : TellsWritten arrays c.in_ok-written.written = (rw c.as_slice.ensures at c.in_ok-written.ensures) in
    kept_next arrays (λ x. givings x.now) _ _ c.loop-body-test.true c.body-item.result c.body-item.is _ _ _ c.in_ok-push.ensures.items (c.in_ok-data_locals_of.ensures arrays tells) c.loop-body.invariant

pub returns : goal.returns
returns c =
    let all : map (λ x. givings x.now) (take c.loop-body.body-index c.deref-body-items.result.now) ≡ map givings (bodies_of c.args.program.now) =
    ap (map (λ x. givings x.now)) (take_all _ _ c.loop-body-test.false ∙ c.deref-body-items.ensures.value) ∙ map_then (λ x. x.now) givings c.in_ok-bodies.bodies.items ∙ ap (map givings) c.in_ok-bodies.ensures in
    all_kept (arrays_of c.args.program.now.decls) (bodies_of c.args.program.now) _
    (subst (λ (gs : List (List Giving)). Kept (arrays_of c.args.program.now.decls) gs c.loop-body.lists.items) all c.loop-body.invariant)
