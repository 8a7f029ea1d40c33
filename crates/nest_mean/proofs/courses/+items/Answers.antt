use Rattle.std.proofs.Common.{rules, ◌≡◌, true, false, to_z, of_z, w64, sym, ap, ◌∙◌}
use Rattle.std.proofs.lemmas.Int.{to_z-of_z}
use Rattle.std.proofs.lemmas.Result.{err_from_is_err_and}
use Rattle.nest_syntax.specs.declared.tree.Stmt.TheFolds.{the_lemmas}
use Rattle.nest_syntax.specs.Words.{is_zero, most_turns}
use Rattle.nest_syntax.specs.Course.{item_of}
use Rattle.nest_mean.specs.CourseParts.{setting_in}
use Rattle.nest_mean.proofs.Walk.{ahead_begins, listed_ready, listed_passes, listed_ends, listed_over, item_assign, item_declare, item_write, arms_begin, arms_over, arm_is_passed, arm_fails, arm_ready, arm_is_taken, arm_ends, if_fails, if_is_taken, if_goes_on, if_arms_ready, if_other_ready, write_ready, invocation_ready, item_invokes}
use Rattle.nest_mean.proofs.courses.+items.Goals as goal

pub run_items-loop-item-init : goal.run_items-loop-item-init
run_items-loop-item-init t c = ahead_begins _ _ _ _

pub run_items-run_item-requires : goal.run_items-run_item-requires
run_items-run_item-requires t c = (
  search (rules, the_lemmas),
  listed_ready (setting_in c.args.job.now) (item_of (setting_in c.args.job.now)) c.args.items.now most_turns c.loop-item.item-index c.loop-item-test.true c.item-item.result c.item-item.is _ _ c.loop-item.invariant _ c.requires,
)

pub run_item-run_write-requires : goal.run_item-run_write-requires
run_item-run_write-requires t c = write_ready _ _ _ _ _ _ _ _ (rw c.in-Write.is at c.requires)

pub run_item-run_item_arms-requires : goal.run_item-run_item_arms-requires
run_item-run_item_arms-requires t c = (search (rules, the_lemmas), rw c.as_slice.ensures (if_arms_ready _ c.in-If.arms c.in-If.other _ c.args.run.now _ (rw c.in-If.is at c.requires)))

pub run_item-returns-in_err-run_item_arms-in-If : goal.run_item-returns-in_err-run_item_arms-in-If
run_item-returns-in_err-run_item_arms-in-If t c =
    let p = err_from_is_err_and c.from_residual.result c.from_residual.ensures.1 in
    rw (p.1, p.2, c.in-If.is) (if_fails _ _ _ _ _ _ (rw c.as_slice.ensures at c.in_err-run_item_arms-in-If.ensures))

pub run_item-returns-then-branch : goal.run_item-returns-then-branch
run_item-returns-then-branch t c = rw c.in-If.is (if_is_taken _ _ _ _ _ (rw (c.as_slice.ensures, c.if-branch.true) at c.in_ok-run_item_arms-in-If.ensures))

pub run_item-run_items-requires : goal.run_item-run_items-requires
run_item-run_items-requires t c = (search (rules, the_lemmas), rw c.as_slice-in-If.ensures (if_other_ready _ _ _ _ _ _ (rw c.in-If.is at c.requires) _ (rw c.as_slice.ensures at c.run_item_arms.ensures)))

pub run_item-run_invocation-requires : goal.run_item-run_invocation-requires
run_item-run_invocation-requires t c = invocation_ready _ _ _ _ (rw c.in-Loop.is at c.requires)

pub run_item-returns-in-Declare : goal.run_item-returns-in-Declare
run_item-returns-in-Declare t c = rw c.in-Declare.is (item_declare _ _ _ _ _ _ _ c.change_scheduled.ensures)

pub run_item-returns-in-Assign : goal.run_item-returns-in-Assign
run_item-returns-in-Assign t c = rw c.in-Assign.is (item_assign _ _ _ _ _ _ _ _ c.change_scheduled-in-Assign.ensures)

pub run_item-returns-in-Write : goal.run_item-returns-in-Write
run_item-returns-in-Write t c = rw c.in-Write.is (item_write _ _ _ _ _ _ _ _ _ (rw c.in-Write.is at c.run_write.ensures))

pub run_item-returns-else-branch : goal.run_item-returns-else-branch
run_item-returns-else-branch t c = rw c.in-If.is (if_goes_on _ _ _ _ _ _ _ (rw (c.as_slice.ensures, c.if-branch.false) at c.in_ok-run_item_arms-in-If.ensures) (rw c.as_slice-in-If.ensures at c.run_items.ensures))

pub run_item-returns-in-Loop : goal.run_item-returns-in-Loop
run_item-returns-in-Loop t c = rw c.in-Loop.is (item_invokes _ _ _ _ _ c.run_invocation.ensures)

pub run_items-returns-in_err-run_item : goal.run_items-returns-in_err-run_item
run_items-returns-in_err-run_item t c =
    let p = err_from_is_err_and c.from_residual.result c.from_residual.ensures.1 in
    rw (p.1, p.2) (listed_ends (setting_in c.args.job.now) (item_of (setting_in c.args.job.now)) c.args.items.now most_turns c.loop-item.item-index c.loop-item-test.true c.item-item.result c.item-item.is _ _ c.loop-item.invariant _ _ c.in_err-run_item.ensures)

pub run_items-loop-item-preserved : goal.run_items-loop-item-preserved
run_items-loop-item-preserved t c = listed_passes (setting_in c.args.job.now) (item_of (setting_in c.args.job.now)) c.args.items.now most_turns c.loop-item.item-index c.loop-item-test.true c.item-item.result c.item-item.is _ _ c.loop-item.invariant _ c.in_ok-run_item.ensures

pub run_items-returns : goal.run_items-returns
run_items-returns t c = listed_over (setting_in c.args.job.now) (item_of (setting_in c.args.job.now)) c.args.items.now most_turns c.loop-item.item-index c.loop-item-test.false _ _ c.loop-item.invariant

pub run_item_arms-loop-arm-init : goal.run_item_arms-loop-arm-init
run_item_arms-loop-arm-init t c = arms_begin _ _ _

pub run_item_arms-run_items-requires : goal.run_item_arms-run_items-requires
run_item_arms-run_items-requires t c = (search (rules, the_lemmas), rw c.as_slice.ensures (arm_ready _ _ _ _ c.loop-arm-test.true c.arm-item.result c.arm-item.is _ c.loop-arm.invariant _ c.requires))

pub run_item_arms-returns-in_err-run_items-in-Ok : goal.run_item_arms-returns-in_err-run_items-in-Ok
run_item_arms-returns-in_err-run_items-in-Ok t c =
    let test : to_z w64 (of_z w64 c.in-Ok.test) ≡ c.in-Ok.test = to_z-of_z w64 c.in-Ok.test (search rules) in
    let not_zero : is_zero c.in-Ok.test ≡ false = ap is_zero (sym test) ∙ sym c.is_zero.ensures ∙ c.if-not-is_zero.true in
    let p = err_from_is_err_and c.from_residual.result c.from_residual.ensures.1 in
    rw (p.1, p.2) (arm_ends _ _ _ _ c.loop-arm-test.true c.arm-item.result c.arm-item.is _ c.loop-arm.invariant c.in-Ok.test c.in-Ok.ensures not_zero _ _ (rw c.as_slice.ensures at c.in_err-run_items-in-Ok.ensures))

pub run_item_arms-returns-then-not-is_zero : goal.run_item_arms-returns-then-not-is_zero
run_item_arms-returns-then-not-is_zero t c =
    let test : to_z w64 (of_z w64 c.in-Ok.test) ≡ c.in-Ok.test = to_z-of_z w64 c.in-Ok.test (search rules) in
    let not_zero : is_zero c.in-Ok.test ≡ false = ap is_zero (sym test) ∙ sym c.is_zero.ensures ∙ c.if-not-is_zero.true in
    arm_is_taken _ _ _ _ c.loop-arm-test.true c.arm-item.result c.arm-item.is _ c.loop-arm.invariant c.in-Ok.test c.in-Ok.ensures not_zero _ (rw c.as_slice.ensures at c.in_ok-run_items-in-Ok.ensures)

pub run_item_arms-returns-in-Err : goal.run_item_arms-returns-in-Err
run_item_arms-returns-in-Err t c = rw c.scheduler_trap.ensures (arm_fails _ _ _ _ c.loop-arm-test.true c.arm-item.result c.arm-item.is _ c.loop-arm.invariant c.in-Err.cause c.in-Err.ensures)

pub run_item_arms-loop-arm-preserved : goal.run_item_arms-loop-arm-preserved
run_item_arms-loop-arm-preserved t c =
    let test : to_z w64 (of_z w64 c.in-Ok.test) ≡ c.in-Ok.test = to_z-of_z w64 c.in-Ok.test (search rules) in
    let zero : is_zero c.in-Ok.test ≡ true = ap is_zero (sym test) ∙ sym c.is_zero.ensures ∙ c.if-not-is_zero.false in
    arm_is_passed _ _ _ _ c.loop-arm-test.true c.arm-item.result c.arm-item.is _ c.loop-arm.invariant c.in-Ok.test c.in-Ok.ensures zero

pub run_item_arms-returns : goal.run_item_arms-returns
run_item_arms-returns t c = arms_over _ _ _ _ _ c.loop-arm-test.false c.loop-arm.invariant
