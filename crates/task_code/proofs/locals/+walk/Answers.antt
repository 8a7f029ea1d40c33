use Rattle.std.proofs.Common.{◌≡◌, [], ◌∷◌, refl, sym, ap, ◌∙◌}
use Rattle.std.specs.List.{flat_map}
use Rattle.nest_syntax.specs.Shape.{Declares}
use Rattle.nest_check.specs.Through.{through}
use Rattle.nest_check.specs.Entries.{statements, statements_of, statements_in_arm, statements_in_loop}
use Rattle.nest_check.proofs.Lists.{flat_more, flat_end}
use Rattle.nest_check.proofs.EntryNodes.{statements_in_arm-is, statements_in_loop-is, statements-if}
use Rattle.task_code.specs.Bodies.{with_entry}
use Rattle.task_code.proofs.Whole.{on_ok, through_both}
use Rattle.task_code.proofs.locals.+walk.Goals as goal

pub note_arms-loop-arm-preserved : goal.note_arms-loop-arm-preserved
note_arms-loop-arm-preserved t c =
    flat_more with_entry statements_in_arm _ _ c.loop-arm-test.true c.arm-item.result c.arm-item.is _ _ _ c.loop-arm.invariant
    ((rw c.as_slice.ensures at c.in_ok-note_block.ensures) ∙ ap (through with_entry c.loop-arm.names.items) (sym (statements_in_arm-is c.arm-item.result)))

pub note_arms-returns : goal.note_arms-returns
note_arms-returns t c = flat_end with_entry statements_in_arm _ _ c.loop-arm-test.false _ _ c.loop-arm.invariant

pub note_block-loop-stmt-preserved : goal.note_block-loop-stmt-preserved
note_block-loop-stmt-preserved t c = flat_more with_entry statements _ _ c.loop-stmt-test.true c.stmt-item.result c.stmt-item.is _ _ _ c.loop-stmt.invariant c.in_ok-note_stmt.ensures

pub note_block-returns : goal.note_block-returns
note_block-returns t c = flat_end with_entry statements _ _ c.loop-stmt-test.false _ _ c.loop-stmt.invariant

pub note_stmt-returns-in_ok-note_arms-in-If : goal.note_stmt-returns-in_ok-note_arms-in-If
note_stmt-returns-in_ok-note_arms-in-If t c =
    on_ok c.note_block.result _ _ (rw c.as_slice-in-If.ensures at c.note_block.ensures)
    (λ is. through_both with_entry c.args.names.now.items _ _ (flat_map statements_in_arm c.in-If.arms) (statements_of c.in-If.other) (statements c.args.stmt.now)
    (ap (through with_entry c.args.names.now.items) (ap statements c.in-If.is ∙ statements-if c.in-If.arms c.in-If.other)) (rw c.as_slice.ensures at c.in_ok-note_arms-in-If.ensures) is)

pub note_loop-returns : goal.note_loop-returns
note_loop-returns t c =
    on_ok c.note_block.result _ _ (rw c.as_slice.ensures at c.note_block.ensures)
    (λ is. through_both with_entry c.args.names.now.items _ _ (Declares (c.args.inner.now.name, c.args.inner.now.line) ∷ []) (statements_of c.args.inner.now.body) (statements_in_loop c.args.inner.now)
    (ap (through with_entry c.args.names.now.items) (statements_in_loop-is c.args.inner.now)) c.in_ok-note.ensures is)
