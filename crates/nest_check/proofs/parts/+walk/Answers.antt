use Rattle.std.proofs.Common.{suc, ◌∷◌, map, sym, ap, ◌∙◌}
use Rattle.nest_syntax.specs.declared.tree.Loop.{Loop}
use Rattle.nest_check.specs.Through.{through}
use Rattle.nest_check.specs.Parts.{AnExpression, all_at, parts}
use Rattle.nest_check.specs.Noted.{noted}
use Rattle.nest_check.proofs.Lists.{parts_more, parts_end}
use Rattle.nest_check.proofs.PartNodes.{parts_in_arm-is, parts_in_loop-is, depth_below, loop_noted}
use Rattle.nest_check.proofs.parts.+walk.Goals as goal

pub walk_arms-loop-arm-preserved : goal.walk_arms-loop-arm-preserved
walk_arms-loop-arm-preserved t c = λ deep counts.
    parts_more _ _ _ _ _ c.loop-arm-test.true c.arm-item.result c.arm-item.is _ _ _ (c.loop-arm.invariant deep counts)
    ((rw c.as_slice.ensures at (c.walk_block.ensures deep counts))
    ∙ ap (λ s. through noted s (all_at (map parts c.arm-item.result.body) deep)) c.note_expression.ensures
    ∙ ap (through noted c.loop-arm.found) (sym (parts_in_arm-is c.arm-item.result deep)))

pub walk_arms-returns : goal.walk_arms-returns
walk_arms-returns t c = λ deep counts. parts_end _ _ _ _ _ c.loop-arm-test.false _ _ (c.loop-arm.invariant deep counts)

pub walk_block-loop-stmt-preserved : goal.walk_block-loop-stmt-preserved
walk_block-loop-stmt-preserved t c = λ deep counts. parts_more _ _ _ _ _ c.loop-stmt-test.true c.stmt-item.result c.stmt-item.is _ _ _ (c.loop-stmt.invariant deep counts) (c.walk_stmt.ensures deep counts)

pub walk_block-returns : goal.walk_block-returns
walk_block-returns t c = λ deep counts. parts_end _ _ _ _ _ c.loop-stmt-test.false _ _ (c.loop-stmt.invariant deep counts)

pub walk_loop-returns : goal.walk_loop-returns
walk_loop-returns t c = λ deep counts.
    let l : Loop = c.args.inner.now in
    (rw c.as_slice.ensures at (c.walk_block.ensures (suc deep) (c.saturating_add.ensures ∙ depth_below c.args.depth deep counts)))
    ∙ ap (λ s. through noted s (all_at (map parts l.body) (suc deep))) c.note_expression-2.ensures
    ∙ ap (λ s. through noted s (AnExpression l.line l.high ∷ all_at (map parts l.body) (suc deep))) c.note_expression.ensures
    ∙ ap (λ s. through noted s (AnExpression l.line l.low ∷ AnExpression l.line l.high ∷ all_at (map parts l.body) (suc deep))) (c.note_loop.ensures ∙ loop_noted c.args.found.now l.line l.step c.args.depth deep counts)
    ∙ ap (through noted c.args.found.now) (sym (parts_in_loop-is l deep))
