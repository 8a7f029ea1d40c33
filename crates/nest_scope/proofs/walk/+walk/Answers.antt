use Rattle.std.proofs.Common.{◌∙◌}
use Rattle.nest_scope.proofs.Nodes.{assign_noted, write_noted, if_noted, arm_noted, loop_noted}
use Rattle.nest_scope.proofs.Steps.{side_more, block_more}
use Rattle.nest_scope.proofs.walk.+walk.Goals as goal

pub walk_arms-loop-arm-preserved : goal.walk_arms-loop-arm-preserved
walk_arms-loop-arm-preserved t c = record {
  found = side_more _ _ _ c.loop-arm-test.true c.arm-item.result c.arm-item.is _ _ _ _ _ _ c.loop-arm.invariant.found
      (arm_noted c.args.level c.loop-arm.scope c.arm-item.result c.loop-arm.found c.read.new.found c.walk_block.new.found c.read.ensures (rw c.as_slice.ensures at c.in_ok-walk_block.ensures.found))
      c.in_ok-walk_block.ensures.scope;
  scope = c.in_ok-walk_block.ensures.scope ∙ c.loop-arm.invariant.scope;
}

pub walk_block-loop-stmt-preserved : goal.walk_block-loop-stmt-preserved
walk_block-loop-stmt-preserved t c = record {
  found = block_more _ _ _ c.loop-stmt-test.true c.stmt-item.result c.stmt-item.is _ _ _ _ _ _ c.loop-stmt.invariant.found c.in_ok-walk_stmt.ensures.found c.in_ok-walk_stmt.ensures.scope;
  scope = c.in_ok-walk_stmt.ensures.shadowed ∙ c.loop-stmt.invariant.scope;
}

pub walk_loop-returns-clause-found : goal.walk_loop-returns-clause-found
walk_loop-returns-clause-found t c =
    loop_noted c.args.level c.args.scope.now c.args.inside.now c.declare.new.self c.args.found.now c.note.new.found c.read.new.found c.read-2.new.found c.walk_block.new.found
    (rw c.variable.ensures at c.in_ok-declare.ensures.bound) c.note.ensures c.read.ensures c.read-2.ensures (rw (c.as_slice.ensures, c.inner.ensures) at c.in_ok-walk_block.ensures.found)

pub walk_stmt-returns-in-Assign-clause-found : goal.walk_stmt-returns-in-Assign-clause-found
walk_stmt-returns-in-Assign-clause-found t c =
    assign_noted c.args.level c.args.scope.now c.in-Assign.line c.in-Assign.name c.in-Assign.op c.in-Assign.value c.args.stmt.now c.args.found.now c.note-in-Assign.new.found c.read-in-Assign.new.found c.in-Assign.is
    c.note-in-Assign.ensures c.read-in-Assign.ensures

pub walk_stmt-returns-in-Write-clause-found : goal.walk_stmt-returns-in-Write-clause-found
walk_stmt-returns-in-Write-clause-found t c =
    write_noted c.args.level c.args.scope.now c.in-Write.line c.in-Write.array c.in-Write.place c.in-Write.op c.in-Write.value c.args.stmt.now c.args.found.now c.note-in-Write.new.found c.read-in-Write.new.found
    c.read-in-Write-2.new.found c.in-Write.is c.note-in-Write.ensures c.read-in-Write.ensures c.read-in-Write-2.ensures

pub walk_stmt-returns-in_ok-walk_arms-in-If-clause-found :
    goal.walk_stmt-returns-in_ok-walk_arms-in-If-clause-found
walk_stmt-returns-in_ok-walk_arms-in-If-clause-found t c =
    if_noted c.args.level c.args.scope.now c.in-If.arms c.in-If.other c.args.stmt.now c.args.found.now c.walk_arms.new.found c.walk_block.new.found c.walk_block.result c.in-If.is
    (rw c.as_slice.ensures at c.in_ok-walk_arms-in-If.ensures.found) (rw (c.as_slice-in-If.ensures, c.in_ok-walk_arms-in-If.ensures.scope) at c.walk_block.ensures.found)
