use Rattle.std.proofs.Common.{sym, ap, ◌∙◌}
use Rattle.std.specs.List.{flat_map}
use Rattle.nest_check.specs.Through.{through}
use Rattle.nest_syntax.specs.Shape.{Declares}
use Rattle.nest_check.specs.Entries.{statements, statements_of, statements_in_arm}
use Rattle.nest_check.specs.Noted.{entered}
use Rattle.nest_check.proofs.Lists.{flat_more, flat_end}
use Rattle.nest_check.proofs.EntryNodes.{statements_in_arm-is, statements_in_loop-is, statements-if}
use Rattle.nest_check.proofs.Room.{first_passed, if_passed}
use Rattle.nest_check.proofs.entries.+count.Goals as goal

pub count_arms-loop-arm-preserved : goal.count_arms-loop-arm-preserved
count_arms-loop-arm-preserved t c =
    flat_more _ _ _ _ c.loop-arm-test.true c.arm-item.result c.arm-item.is _ _ _ c.loop-arm.invariant
    ((rw c.as_slice.ensures at c.in_ok-count_block.ensures) ∙ ap (through (entered 17) c.loop-arm.tally) (sym (statements_in_arm-is c.arm-item.result)))

pub count_arms-returns : goal.count_arms-returns
count_arms-returns t c = flat_end _ _ _ _ c.loop-arm-test.false _ _ c.loop-arm.invariant

pub count_block-loop-stmt-preserved : goal.count_block-loop-stmt-preserved
count_block-loop-stmt-preserved t c = flat_more _ _ _ _ c.loop-stmt-test.true c.stmt-item.result c.stmt-item.is _ _ _ c.loop-stmt.invariant c.in_ok-count_stmt.ensures

pub count_block-returns : goal.count_block-returns
count_block-returns t c = flat_end _ _ _ _ c.loop-stmt-test.false _ _ c.loop-stmt.invariant

pub count_stmt-returns-in_ok-count_arms-in-If : goal.count_stmt-returns-in_ok-count_arms-in-If
count_stmt-returns-in_ok-count_arms-in-If t c =
    if_passed (entered 17) c.count_block.result _ _ _ _ (flat_map statements_in_arm c.in-If.arms) (statements_of c.in-If.other) (ap statements c.in-If.is ∙ statements-if c.in-If.arms c.in-If.other) c.count-in-If.ensures (rw c.as_slice.ensures at c.in_ok-count_arms-in-If.ensures)
    (rw c.as_slice-in-If.ensures at c.count_block.ensures)

pub count_loop-returns : goal.count_loop-returns
count_loop-returns t c = first_passed (entered 17) c.count_block.result _ _ _ (Declares (c.args.inner.now.name, c.args.inner.now.line)) (statements_of c.args.inner.now.body) (statements_in_loop-is c.args.inner.now) c.in_ok-declare.ensures (rw c.as_slice.ensures at c.count_block.ensures)
