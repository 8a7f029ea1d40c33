use Rattle.std.proofs.Common.{refl, ap, ◌∙◌}
use Rattle.std.specs.List.{flat_map}
use Rattle.nest_syntax.specs.declared.tree.Arm.{Arm}
use Rattle.data_local.proofs.Gathers.{adds_none, adds_two, adds_alike, gathers_more, gathers_end}
use Rattle.nest_check.proofs.NamedParts.{on_ok}
use Rattle.nest_report.specs.Deps.{item_lines}
use Rattle.nest_report.proofs.Lines.{block_lines, lines-declare, lines-assign, lines-write, lines-loop, lines-if}
use Rattle.nest_report.proofs.deps.+items.Goals as goal

pub add_items-loop-stmt-preserved : goal.add_items-loop-stmt-preserved
add_items-loop-stmt-preserved t c = gathers_more (item_lines c.args.checked.now) _ _ c.loop-stmt-test.true c.stmt-item.result c.stmt-item.is _ _ _ _ c.loop-stmt.invariant c.in_ok-add_item.ensures refl

pub add_items-returns : goal.add_items-returns
add_items-returns t c = gathers_end (item_lines c.args.checked.now) _ _ c.loop-stmt-test.false _ _ c.loop-stmt.invariant

pub add_arms-loop-arm-preserved : goal.add_arms-loop-arm-preserved
add_arms-loop-arm-preserved t c =
    gathers_more (λ (a : Arm). block_lines c.args.checked.now a.body) _ _ c.loop-arm-test.true c.arm-item.result c.arm-item.is _ _ _ _ c.loop-arm.invariant
    (rw c.as_slice.ensures at c.in_ok-add_items.ensures) refl

pub add_arms-returns : goal.add_arms-returns
add_arms-returns t c = gathers_end (λ (a : Arm). block_lines c.args.checked.now a.body) _ _ c.loop-arm-test.false _ _ c.loop-arm.invariant

pub add_item-returns-in-Declare : goal.add_item-returns-in-Declare
add_item-returns-in-Declare t c = adds_none _ _ (ap (item_lines c.args.checked.now) c.in-Declare.is ∙ lines-declare c.args.checked.now c.in-Declare.line c.in-Declare.name c.in-Declare.value)

pub add_item-returns-in-Assign : goal.add_item-returns-in-Assign
add_item-returns-in-Assign t c = adds_none _ _ (ap (item_lines c.args.checked.now) c.in-Assign.is ∙ lines-assign c.args.checked.now c.in-Assign.line c.in-Assign.name c.in-Assign.op c.in-Assign.value)

pub add_item-returns-in-Write : goal.add_item-returns-in-Write
add_item-returns-in-Write t c = adds_none _ _ (ap (item_lines c.args.checked.now) c.in-Write.is ∙ lines-write c.args.checked.now c.in-Write.line c.in-Write.array c.in-Write.place c.in-Write.op c.in-Write.value)

pub add_item-returns-in_ok-add_arms-in-If : goal.add_item-returns-in_ok-add_arms-in-If
add_item-returns-in_ok-add_arms-in-If t c =
    on_ok c.add_items.result (λ last. adds_two _ _ _ _ _ _ (ap (item_lines c.args.checked.now) c.in-If.is ∙ lines-if c.args.checked.now c.in-If.arms c.in-If.other)
    (rw c.as_slice.ensures at c.in_ok-add_arms-in-If.ensures) (rw c.as_slice-in-If.ensures at last))
    c.add_items.ensures

pub add_item-returns-in-Loop : goal.add_item-returns-in-Loop
add_item-returns-in-Loop t c =
    on_ok c.add_loop.result (λ last. adds_alike _ _ _ _ (ap (item_lines c.args.checked.now) c.in-Loop.is ∙ lines-loop c.args.checked.now c.in-Loop.nest) last) c.add_loop.ensures
