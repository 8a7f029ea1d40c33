use Rattle.std.proofs.Common.{◌≡◌, sym, ap, ◌∙◌, subst}
use Rattle.std.specs.Prelude.{OnOk}
use Rattle.std.specs.List.{flat_map}
use Rattle.nest_check.specs.Through.{through}
use Rattle.nest_syntax.specs.Shape.{items, items_of, items_in_arm}
use Rattle.nest_check.specs.Noted.{passed}
use Rattle.nest_check.proofs.Lists.{flat_more, flat_end}
use Rattle.nest_check.proofs.Room.{if_passed}
use Rattle.nest_syntax.proofs.Shapes.{items_in_arm-is, items-declare, items-assign, items-write, items-loop, items-if}
use Rattle.nest_check.proofs.EntryNodes.{write_passed}
use Rattle.nest_check.proofs.items.+pass.Goals as goal

pub pass_arms-loop-arm-preserved : goal.pass_arms-loop-arm-preserved
pass_arms-loop-arm-preserved t c =
    flat_more _ _ _ _ c.loop-arm-test.true c.arm-item.result c.arm-item.is _ _ _ c.loop-arm.invariant
    ((rw c.as_slice.ensures at c.in_ok-pass_items.ensures) ∙ ap (through passed c.loop-arm.sizes) (sym (items_in_arm-is c.arm-item.result)))

pub pass_arms-returns : goal.pass_arms-returns
pass_arms-returns t c = flat_end _ _ _ _ c.loop-arm-test.false _ _ c.loop-arm.invariant

pub pass_items-loop-stmt-preserved : goal.pass_items-loop-stmt-preserved
pass_items-loop-stmt-preserved t c = flat_more _ _ _ _ c.loop-stmt-test.true c.stmt-item.result c.stmt-item.is _ _ _ c.loop-stmt.invariant c.in_ok-pass_item.ensures

pub pass_items-returns : goal.pass_items-returns
pass_items-returns t c = flat_end _ _ _ _ c.loop-stmt-test.false _ _ c.loop-stmt.invariant

pub pass_item-returns-in-Declare : goal.pass_item-returns-in-Declare
pass_item-returns-in-Declare t c =
    subst (λ es. OnOk c.declare.result (c.declare.new.self ≡ through passed c.args.sizes.now es)) (sym (ap items c.in-Declare.is ∙ items-declare c.in-Declare.line c.in-Declare.name c.in-Declare.value)) c.declare.ensures

pub pass_item-returns-in-Assign : goal.pass_item-returns-in-Assign
pass_item-returns-in-Assign t c = c.count.ensures ∙ ap (through passed c.args.sizes.now) (sym (ap items c.in-Assign.is ∙ items-assign c.in-Assign.line c.in-Assign.name c.in-Assign.op c.in-Assign.value))

pub pass_item-returns-in-Write : goal.pass_item-returns-in-Write
pass_item-returns-in-Write t c =
    c.count-in-Write.ensures ∙ write_passed c.args.sizes.now c.in-Write.line c.in-Write.array c.in-Write.place c.in-Write.op c.in-Write.value
    ∙ ap (through passed c.args.sizes.now) (sym (ap items c.in-Write.is ∙ items-write c.in-Write.line c.in-Write.array c.in-Write.place c.in-Write.op c.in-Write.value))

pub pass_item-returns-in-Loop : goal.pass_item-returns-in-Loop
pass_item-returns-in-Loop t c =
    subst (λ es. OnOk c.invoke.result (c.invoke.new.self ≡ through passed c.args.sizes.now es)) (sym (ap items c.in-Loop.is ∙ items-loop c.in-Loop.invoked)) c.invoke.ensures

pub pass_item-returns-in_ok-pass_arms-in-If : goal.pass_item-returns-in_ok-pass_arms-in-If
pass_item-returns-in_ok-pass_arms-in-If t c =
    if_passed passed c.pass_items.result _ _ _ _ (flat_map items_in_arm c.in-If.arms) (items_of c.in-If.other) (ap items c.in-If.is ∙ items-if c.in-If.arms c.in-If.other) c.count-in-If.ensures (rw c.as_slice.ensures at c.in_ok-pass_arms-in-If.ensures) (rw c.as_slice-in-If.ensures at c.pass_items.ensures)
