use Rattle.std.proofs.Common.{[], ◌∷◌, ◌++◌, map, refl, sym, ap, ◌∙◌}
use Rattle.std.specs.List.{flat_map}
use Rattle.std.proofs.lemmas.List.{map-append}
use Rattle.nest_syntax.specs.declared.tree.Arm.{Arm}
use Rattle.nest_syntax.specs.declared.tree.Stmt.{Stmt}
use Rattle.data_local.specs.Bodies.{bodies_in_item, bodies_in_items}
use Rattle.data_local.proofs.Gathers.{adds_none, adds_two, adds_alike, gathers_more, gathers_end}
use Rattle.data_local.proofs.BodyNodes.{bodies-declare, bodies-assign, bodies-write, bodies-if, bodies-loop}
use Rattle.data_local.proofs.bodies.+gather_bodies.Goals as goal

pub add_bodies_of-returns-in-Declare : goal.add_bodies_of-returns-in-Declare
add_bodies_of-returns-in-Declare t c = adds_none _ _ (ap bodies_in_item c.in-Declare.is ∙ bodies-declare c.in-Declare.line c.in-Declare.name c.in-Declare.value)

pub add_bodies_of-returns-in-Assign : goal.add_bodies_of-returns-in-Assign
add_bodies_of-returns-in-Assign t c = adds_none _ _ (ap bodies_in_item c.in-Assign.is ∙ bodies-assign c.in-Assign.line c.in-Assign.name c.in-Assign.op c.in-Assign.value)

pub add_bodies_of-returns-in_ok-push-in-Write : goal.add_bodies_of-returns-in_ok-push-in-Write
add_bodies_of-returns-in_ok-push-in-Write t c =
    adds_alike _ _ ((c.args.stmt.now ∷ []) ∷ []) _
    (ap bodies_in_item c.in-Write.is ∙ bodies-write c.in-Write.line c.in-Write.array c.in-Write.place c.in-Write.op c.in-Write.value ∙ ap (λ (s : Stmt). (s ∷ []) ∷ []) (sym c.in-Write.is))
    (ap (map (λ x. x.now)) c.in_ok-push-in-Write.ensures.items ∙ map-append (λ x. x.now) c.args.found.now.items _ ∙ ap (λ body. map (λ x. x.now) c.args.found.now.items ++ body ∷ []) c.from_ref.ensures.value)

pub add_bodies_of-returns-in_ok-add_bodies-in-If : goal.add_bodies_of-returns-in_ok-add_bodies-in-If
add_bodies_of-returns-in_ok-add_bodies-in-If t c =
    adds_two _ _ _ (flat_map (λ (arm : Arm). bodies_in_items arm.body) c.in-If.arms) (bodies_in_items c.in-If.other) _
    (ap bodies_in_item c.in-If.is ∙ bodies-if c.in-If.arms c.in-If.other)
    (rw c.as_slice.ensures at c.in_ok-add_bodies_of_arms-in-If.ensures) (rw c.as_slice-in-If.ensures at c.in_ok-add_bodies-in-If.ensures)

pub add_bodies_of-returns-in_ok-push-in-Loop : goal.add_bodies_of-returns-in_ok-push-in-Loop
add_bodies_of-returns-in_ok-push-in-Loop t c =
    adds_alike _ _ (c.in-Loop.invoked.body ∷ []) _ (ap bodies_in_item c.in-Loop.is ∙ bodies-loop c.in-Loop.invoked)
    (ap (map (λ x. x.now)) c.in_ok-push-in-Loop.ensures.items ∙ map-append (λ x. x.now) c.args.found.now.items _ ∙ ap (λ body. map (λ x. x.now) c.args.found.now.items ++ body ∷ []) c.as_slice-in-Loop.ensures)

pub add_bodies-loop-stmt-preserved : goal.add_bodies-loop-stmt-preserved
add_bodies-loop-stmt-preserved t c =
    gathers_more bodies_in_item _ _ c.loop-stmt-test.true c.stmt-item.result c.stmt-item.is _ _ _ _ c.loop-stmt.invariant c.in_ok-add_bodies_of.ensures refl

pub add_bodies-returns : goal.add_bodies-returns
add_bodies-returns t c = gathers_end bodies_in_item _ _ c.loop-stmt-test.false _ _ c.loop-stmt.invariant

pub add_bodies_of_arms-loop-arm-preserved : goal.add_bodies_of_arms-loop-arm-preserved
add_bodies_of_arms-loop-arm-preserved t c =
    gathers_more (λ (arm : Arm). bodies_in_items arm.body) _ _ c.loop-arm-test.true c.arm-item.result c.arm-item.is _ _ _ _ c.loop-arm.invariant
    (rw c.as_slice.ensures at c.in_ok-add_bodies.ensures) refl

pub add_bodies_of_arms-returns : goal.add_bodies_of_arms-returns
add_bodies_of_arms-returns t c = gathers_end (λ (arm : Arm). bodies_in_items arm.body) _ _ c.loop-arm-test.false _ _ c.loop-arm.invariant
