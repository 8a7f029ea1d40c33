use Rattle.std.proofs.Common.{map, sym, ap, ◌∙◌}
use Rattle.nest_mean.specs.Saved.{taken_over}
use Rattle.std.specs.List.{concat}
use Rattle.nest_syntax.specs.Locals.{names_given, given_in_arm}
use Rattle.nest_syntax.proofs.Equations.{given-if, given_in_arm-is}
use Rattle.nest_mean.proofs.Kept.{taken-append, takes_more, takes_all}
use Rattle.nest_mean.proofs.saved.+take.Goals as goal

pub take_over_arms-loop-arm-preserved : goal.take_over_arms-loop-arm-preserved
take_over_arms-loop-arm-preserved t c =
    takes_more _ _ _ _ c.loop-arm-test.true c.arm-item.result c.arm-item.is _ _ _ c.loop-arm.invariant
    ((rw c.as_slice.ensures at c.take_over_block.ensures) ∙ ap (λ names. taken_over names c.args.source.now c.loop-arm.target) (sym (given_in_arm-is c.args.assigned c.arm-item.result)))

pub take_over_arms-returns : goal.take_over_arms-returns
take_over_arms-returns t c = takes_all _ _ _ _ c.loop-arm-test.false _ _ c.loop-arm.invariant

pub take_over_block-loop-stmt-preserved : goal.take_over_block-loop-stmt-preserved
take_over_block-loop-stmt-preserved t c = takes_more _ _ _ _ c.loop-stmt-test.true c.stmt-item.result c.stmt-item.is _ _ _ c.loop-stmt.invariant c.take_over_stmt.ensures

pub take_over_block-returns : goal.take_over_block-returns
take_over_block-returns t c = takes_all _ _ _ _ c.loop-stmt-test.false _ _ c.loop-stmt.invariant

pub take_over_stmt-returns-in-If : goal.take_over_stmt-returns-in-If
take_over_stmt-returns-in-If t c =
    rw c.in-If.is
    ((rw c.as_slice-in-If.ensures at c.take_over_block.ensures) ∙ ap (taken_over (names_given c.args.assigned c.in-If.other) c.args.source.now) (rw c.as_slice.ensures at c.take_over_arms.ensures) ∙ sym (taken-append (concat (map (given_in_arm c.args.assigned) c.in-If.arms)) (names_given c.args.assigned c.in-If.other) c.args.source.now c.args.target.now)
    ∙ ap (λ names. taken_over names c.args.source.now c.args.target.now) (sym (given-if c.args.assigned c.in-If.arms c.in-If.other)))
