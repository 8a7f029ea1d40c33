use Rattle.std.proofs.Common.{◌≡◌, Some, None, [], ◌∷◌, ◌++◌, map, refl, sym, ap, ◌∙◌}
use Rattle.std.specs.List.{flat_map}
use Rattle.std.proofs.lemmas.List.{map-append}
use Rattle.nest_syntax.specs.declared.tree.Stmt.{Stmt}
use Rattle.nest_syntax.specs.Shape.{Body, body_of_write, items, items_of, items_in_arm}
use Rattle.nest_syntax.proofs.Shapes.{items-declare, items-assign, items-write, items-if, items-loop, items_in_arm-is}
use Rattle.nest_check.specs.Through.{through}
use Rattle.nest_check.proofs.Lists.{flat_more, flat_end}
use Rattle.task_code.specs.Bodies.{told, with_invoked}
use Rattle.task_code.proofs.Whole.{on_ok, through_both}
use Rattle.task_code.proofs.bodies.+gather.Goals as goal

pub add_item-returns-in-Declare : goal.add_item-returns-in-Declare
add_item-returns-in-Declare t c = ap (through with_invoked (map told c.args.found.now.items)) (sym (ap items c.in-Declare.is ∙ items-declare c.in-Declare.line c.in-Declare.name c.in-Declare.value))

pub add_item-returns-in-Assign : goal.add_item-returns-in-Assign
add_item-returns-in-Assign t c = ap (through with_invoked (map told c.args.found.now.items)) (sym (ap items c.in-Assign.is ∙ items-assign c.in-Assign.line c.in-Assign.name c.in-Assign.op c.in-Assign.value))

pub add_item-returns-in_ok-push-in-Write : goal.add_item-returns-in_ok-push-in-Write
add_item-returns-in_ok-push-in-Write t c =
    ap (map told) c.in_ok-push-in-Write.ensures.items ∙ map-append told c.args.found.now.items _
    ∙ ap (λ ss. map told c.args.found.now.items ++ record { line = c.in-Write.line; header = None; stmts = ss } ∷ []) (c.from_ref.ensures.value ∙ ap (λ s. s ∷ []) c.in-Write.is)
    ∙ ap (through with_invoked (map told c.args.found.now.items)) (sym (ap items c.in-Write.is ∙ items-write c.in-Write.line c.in-Write.array c.in-Write.place c.in-Write.op c.in-Write.value))

pub add_item-returns-in_ok-push-in-Loop : goal.add_item-returns-in_ok-push-in-Loop
add_item-returns-in_ok-push-in-Loop t c =
    ap (map told) c.in_ok-push-in-Loop.ensures.items ∙ map-append told c.args.found.now.items _
    ∙ ap (λ ss. map told c.args.found.now.items ++ record { line = c.in-Loop.invoked.line; header = Some c.in-Loop.invoked; stmts = ss } ∷ []) c.as_slice-in-Loop.ensures
    ∙ ap (through with_invoked (map told c.args.found.now.items)) (sym (ap items c.in-Loop.is ∙ items-loop c.in-Loop.invoked))

pub add_item-returns-in_ok-add_arms-in-If : goal.add_item-returns-in_ok-add_arms-in-If
add_item-returns-in_ok-add_arms-in-If t c =
    on_ok c.add_items.result _ _ (rw c.as_slice-in-If.ensures at c.add_items.ensures)
    (λ is. through_both with_invoked (map told c.args.found.now.items) _ _ (flat_map items_in_arm c.in-If.arms) (items_of c.in-If.other) (items c.args.stmt.now)
    (ap (through with_invoked (map told c.args.found.now.items)) (ap items c.in-If.is ∙ items-if c.in-If.arms c.in-If.other)) (rw c.as_slice.ensures at c.in_ok-add_arms-in-If.ensures) is)

pub add_items-loop-stmt-preserved : goal.add_items-loop-stmt-preserved
add_items-loop-stmt-preserved t c = flat_more with_invoked items _ _ c.loop-stmt-test.true c.stmt-item.result c.stmt-item.is _ _ _ c.loop-stmt.invariant c.in_ok-add_item.ensures

pub add_items-returns : goal.add_items-returns
add_items-returns t c = flat_end with_invoked items _ _ c.loop-stmt-test.false _ _ c.loop-stmt.invariant

pub add_arms-loop-arm-preserved : goal.add_arms-loop-arm-preserved
add_arms-loop-arm-preserved t c =
    flat_more with_invoked items_in_arm _ _ c.loop-arm-test.true c.arm-item.result c.arm-item.is _ _ _ c.loop-arm.invariant
    ((rw c.as_slice.ensures at c.in_ok-add_items.ensures) ∙ ap (through with_invoked (map told c.loop-arm.found.items)) (sym (items_in_arm-is c.arm-item.result)))

pub add_arms-returns : goal.add_arms-returns
add_arms-returns t c = flat_end with_invoked items_in_arm _ _ c.loop-arm-test.false _ _ c.loop-arm.invariant
