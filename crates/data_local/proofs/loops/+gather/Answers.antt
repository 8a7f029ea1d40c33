use Rattle.std.proofs.Common.{sym, ap, ◌∙◌}
use Rattle.std.specs.List.{flat_map}
use Rattle.data_local.specs.Loops.{loops, loops_in, loops_in_arm}
use Rattle.data_local.proofs.Gathers.{adds_none, adds_two, adds_alike, gathers_more, loops-declare, loops-assign, loops-write, loops-if, loops-loop, loops_in_arm-is}
use Rattle.data_local.proofs.loops.+gather.Goals as goal

pub add_loops_of-returns-in-Declare : goal.add_loops_of-returns-in-Declare
add_loops_of-returns-in-Declare t c = adds_none _ _ (ap loops c.in-Declare.is ∙ loops-declare c.in-Declare.line c.in-Declare.name c.in-Declare.value)

pub add_loops_of-returns-in-Assign : goal.add_loops_of-returns-in-Assign
add_loops_of-returns-in-Assign t c = adds_none _ _ (ap loops c.in-Assign.is ∙ loops-assign c.in-Assign.line c.in-Assign.name c.in-Assign.op c.in-Assign.value)

pub add_loops_of-returns-in-Write : goal.add_loops_of-returns-in-Write
add_loops_of-returns-in-Write t c = adds_none _ _ (ap loops c.in-Write.is ∙ loops-write c.in-Write.line c.in-Write.array c.in-Write.place c.in-Write.op c.in-Write.value)

pub add_loops_of-returns-in_ok-add_loops-in-If : goal.add_loops_of-returns-in_ok-add_loops-in-If
add_loops_of-returns-in_ok-add_loops-in-If t c =
    adds_two _ _ _ (flat_map loops_in_arm c.in-If.arms) (loops_in c.in-If.other) _ (ap loops c.in-If.is ∙ loops-if c.in-If.arms c.in-If.other)
    (rw c.as_slice.ensures at c.in_ok-add_loops_of_arms-in-If.ensures) (rw c.as_slice-in-If.ensures at c.in_ok-add_loops-in-If.ensures)

pub add_loops_of-returns-in_ok-add_loop-in-Loop : goal.add_loops_of-returns-in_ok-add_loop-in-Loop
add_loops_of-returns-in_ok-add_loop-in-Loop t c = adds_alike _ _ _ _ (ap loops c.in-Loop.is ∙ loops-loop c.in-Loop.inner) c.in_ok-add_loop-in-Loop.ensures

pub add_loops_of_arms-loop-arm-preserved : goal.add_loops_of_arms-loop-arm-preserved
add_loops_of_arms-loop-arm-preserved t c =
    gathers_more loops_in_arm _ _ c.loop-arm-test.true c.arm-item.result c.arm-item.is _ _ _ (loops_in c.arm-item.result.body) c.loop-arm.invariant
    (rw c.as_slice.ensures at c.in_ok-add_loops.ensures) (sym (loops_in_arm-is c.arm-item.result))
