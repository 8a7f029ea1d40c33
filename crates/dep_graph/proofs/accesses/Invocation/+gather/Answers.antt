use Rattle.std.proofs.Common.{map, refl, ap, ◌∙◌, ◌++◌}
use Rattle.nest_syntax.specs.Words.{operation_of}
use Rattle.nest_check.proofs.NamedParts.{on_ok}
use Rattle.dep_graph.specs.Accesses.{accesses, arm_accesses, block_accesses, all_of, reads, changes}
use Rattle.dep_graph.proofs.Gathers.{adds_two, adds_three, gathers_end, gathers_two, arm_accesses-is, accesses-write, accesses-if}
use Rattle.dep_graph.proofs.accesses.Invocation.+gather.Goals as goal

pub add_block-returns : goal.add_block-returns
add_block-returns t c = gathers_end (accesses c.args.self.now.checked.now c.args.self.now.nest.now) c.args.around _ _ c.loop-stmt-test.false _ _ c.loop-stmt.invariant

pub add_arms-returns : goal.add_arms-returns
add_arms-returns t c = gathers_end (arm_accesses c.args.self.now.checked.now c.args.self.now.nest.now) c.args.around _ _ c.loop-arm-test.false _ _ c.loop-arm.invariant

pub add_stmt-returns-in_ok-add_reads-in-Write-2 : goal.add_stmt-returns-in_ok-add_reads-in-Write-2
add_stmt-returns-in_ok-add_reads-in-Write-2 t c =
    on_ok c.add_changes.result (λ last. adds_three _ _ _ _ _ _ _ _
    (ap (λ s. accesses c.args.self.now.checked.now c.args.self.now.nest.now s c.args.around) c.in-Write.is ∙ accesses-write c.args.self.now.checked.now c.args.self.now.nest.now c.args.around c.in-Write.line c.in-Write.array c.in-Write.place c.in-Write.op c.in-Write.value)
    c.in_ok-add_reads-in-Write.ensures c.in_ok-add_reads-in-Write-2.ensures last)
    c.add_changes.ensures

pub add_stmt-returns-in_ok-add_arms-in-If : goal.add_stmt-returns-in_ok-add_arms-in-If
add_stmt-returns-in_ok-add_arms-in-If t c =
    on_ok c.add_block.result (λ last. adds_two _ _ _ _ _ _
    (ap (λ s. accesses c.args.self.now.checked.now c.args.self.now.nest.now s c.args.around) c.in-If.is ∙ accesses-if c.args.self.now.checked.now c.args.self.now.nest.now c.args.around c.in-If.arms c.in-If.other)
    (rw c.as_slice.ensures at c.in_ok-add_arms-in-If.ensures) (rw c.as_slice-in-If.ensures at last))
    c.add_block.ensures

pub add_arms-loop-arm-preserved : goal.add_arms-loop-arm-preserved
add_arms-loop-arm-preserved t c =
    gathers_two (arm_accesses c.args.self.now.checked.now c.args.self.now.nest.now) c.args.around _ _ c.loop-arm-test.true c.arm-item.result c.arm-item.is _ _ _ _ _ _
    (ap (λ f. f c.args.around) (arm_accesses-is c.args.self.now.checked.now c.args.self.now.nest.now c.arm-item.result)) c.in_ok-add_reads.ensures (rw c.as_slice.ensures at c.in_ok-add_block.ensures) c.loop-arm.invariant
