use Rattle.std.proofs.Common.{◌≡◌, [], ◌∷◌, Ok, Err, sym, ap, ◌∙◌, subst}
use Rattle.std.specs.List.{flat_map}
use Rattle.std.specs.Result.{MatchResult}
use Rattle.nest_mean.specs.Numbered.{at_number, bodies_in_item, bodies_in_items, bodies_in_arm}
use Rattle.nest_mean.proofs.Numbers.{stands_in_front, stands_behind, is_found, is_behind, arm_bodies, declare_bodies, assign_bodies, write_bodies, loop_bodies, if_bodies}
use Rattle.nest_mean.proofs.numbered.+find.Goals as goal

pub body_in_arms-returns-in-Ok : goal.body_in_arms-returns-in-Ok
body_in_arms-returns-in-Ok t c =
    is_found bodies_in_arm _ _ _ _ c.loop-arm-test.true c.arm-item.result c.arm-item.is c.loop-arm.invariant _
    (ap (λ bs. at_number bs c.loop-arm.number) (arm_bodies c.arm-item.result) ∙ (rw c.as_slice.ensures at c.in-Ok.ensures))

pub body_in_arms-loop-arm-preserved : goal.body_in_arms-loop-arm-preserved
body_in_arms-loop-arm-preserved t c =
    is_behind bodies_in_arm _ _ _ _ c.loop-arm-test.true c.arm-item.result c.arm-item.is c.loop-arm.invariant _
    (ap (λ bs. at_number bs c.loop-arm.number) (arm_bodies c.arm-item.result) ∙ (rw c.as_slice.ensures at c.in-Err.ensures))

pub body_in_item-returns-in-Declare : goal.body_in_item-returns-in-Declare
body_in_item-returns-in-Declare t c = rw c.in-Declare.is (ap (λ bs. at_number bs c.args.number) (declare_bodies _ _ _))

pub body_in_item-returns-in-Assign : goal.body_in_item-returns-in-Assign
body_in_item-returns-in-Assign t c = rw c.in-Assign.is (ap (λ bs. at_number bs c.args.number) (assign_bodies _ _ _ _))

pub body_in_item-returns-in-Write : goal.body_in_item-returns-in-Write
body_in_item-returns-in-Write t c =
    let only : bodies_in_item c.args.item.now ≡ (c.args.item.now ∷ []) ∷ [] = ap bodies_in_item c.in-Write.is ∙ write_bodies _ _ _ _ _ ∙ ap (λ s. (s ∷ []) ∷ []) (sym c.in-Write.is) in
    subst (λ bodies. MatchResult c.only_body.result (λ body. at_number bodies c.args.number ≡ Ok body.now) (λ left. at_number bodies c.args.number ≡ Err left)) (sym only) (rw c.from_ref.ensures.value at c.only_body.ensures)

pub body_in_item-returns-in-Loop : goal.body_in_item-returns-in-Loop
body_in_item-returns-in-Loop t c =
    let only : bodies_in_item c.args.item.now ≡ c.in-Loop.invoked.body ∷ [] = ap bodies_in_item c.in-Loop.is ∙ loop_bodies c.in-Loop.invoked in
    subst (λ bodies. MatchResult c.only_body-in-Loop.result (λ body. at_number bodies c.args.number ≡ Ok body.now) (λ left. at_number bodies c.args.number ≡ Err left)) (sym only) (rw c.as_slice.ensures at c.only_body-in-Loop.ensures)

pub body_in_item-returns-in-Ok : goal.body_in_item-returns-in-Ok
body_in_item-returns-in-Ok t c = rw c.in-If.is (ap (λ bs. at_number bs c.args.number) (if_bodies c.in-If.arms c.in-If.other) ∙ stands_in_front (flat_map bodies_in_arm c.in-If.arms) (bodies_in_items c.in-If.other) c.args.number _ (rw c.as_slice-in-If.ensures at c.in-Ok.ensures))

pub body_in_item-returns-in-Err : goal.body_in_item-returns-in-Err
body_in_item-returns-in-Err t c =
    let behind : at_number (bodies_in_item c.args.item.now) c.args.number ≡ at_number (bodies_in_items c.in-If.other) c.in-Err.left =
    ap (λ bodies. at_number bodies c.args.number) (ap bodies_in_item c.in-If.is ∙ if_bodies c.in-If.arms c.in-If.other) ∙ stands_behind (flat_map bodies_in_arm c.in-If.arms) (bodies_in_items c.in-If.other) c.args.number _ (rw c.as_slice-in-If.ensures at c.in-Err.ensures) in
    subst (λ found. MatchResult c.body_in_items.result (λ body. found ≡ Ok body.now) (λ left. found ≡ Err left)) (sym behind) (rw c.as_slice-in-Err.ensures at c.body_in_items.ensures)

pub body_in_items-returns-in-Ok : goal.body_in_items-returns-in-Ok
body_in_items-returns-in-Ok t c = is_found bodies_in_item _ _ _ _ c.loop-item-test.true c.item-item.result c.item-item.is c.loop-item.invariant _ c.in-Ok.ensures

pub body_in_items-loop-item-preserved : goal.body_in_items-loop-item-preserved
body_in_items-loop-item-preserved t c = is_behind bodies_in_item _ _ _ _ c.loop-item-test.true c.item-item.result c.item-item.is c.loop-item.invariant _ c.in-Err.ensures
