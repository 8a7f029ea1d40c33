use Rattle.std.proofs.Common.{sym, ap, ◌∙◌, subst}
use Rattle.nest_syntax.specs.Locals.{given, given_in_arm, names_given}
use Rattle.nest_mean.specs.Added.{Adds}
use Rattle.nest_syntax.proofs.Equations.{given_in_arm-is}
use Rattle.nest_mean.proofs.Added.{left_more}
use Rattle.nest_mean.proofs.few.+add.Goals as goal

pub add_arms-loop-arm-preserved : goal.add_arms-loop-arm-preserved
add_arms-loop-arm-preserved t c =
    left_more (given_in_arm c.args.assigned) c.args.arms.now c.loop-arm.arm-index c.loop-arm-test.true c.arm-item.result c.arm-item.is _ _ _ c.loop-arm.invariant
    (subst (λ added. Adds c.loop-arm.names.items c.add_block.new.names.items added) (ap (names_given c.args.assigned) c.as_slice.ensures ∙ sym (given_in_arm-is c.args.assigned c.arm-item.result)) c.in_ok-add_block.ensures)

pub add_block-loop-stmt-preserved : goal.add_block-loop-stmt-preserved
add_block-loop-stmt-preserved t c = left_more (given c.args.assigned) c.args.stmts.now c.loop-stmt.stmt-index c.loop-stmt-test.true c.stmt-item.result c.stmt-item.is _ _ _ c.loop-stmt.invariant c.in_ok-add_stmt.ensures
