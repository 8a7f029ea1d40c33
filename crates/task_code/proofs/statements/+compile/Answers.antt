use Rattle.std.proofs.Common.{rules, ◌≡◌, ◌-◌, ◌+◌, ◌<◌, ◌≤◌, length, map, drop, sym, subst, arith}
use Rattle.std.specs.Prelude.{IfOk}
use Rattle.nest_syntax.specs.declared.tree.Stmt.TheFolds.{the_lemmas}
use Rattle.nest_syntax.specs.Arrays.{arrays_of, sizes_of}
use Rattle.nest_syntax.specs.Turn.{Effect, sequence, effect, loop_effect, choose}
use Rattle.nest_syntax.proofs.Equations.{arm_effect}
use Rattle.task_hop.specs.declared.end.End.TheVariants as end
use Rattle.task_hop.specs.declared.end.Jump.TheVariants as jump
use Rattle.task_code.specs.declared.code.Instruction.TheVariants as instruction
use Rattle.task_code.specs.Compiled.{Emits, Carries}
use Rattle.task_code.specs.Sized.{IsSized, IsOfArray}
use Rattle.task_code.proofs.Emitted.{if_ok}
use Rattle.task_code.proofs.Sized.{sized_same, sized_then, sized_after, sized_filled, subscript_sized}
use Rattle.task_code.proofs.Readiness.{declare_ready, assign_ready, write_ready, if_ready, loop_stmt_ready, arm_parts_ready, loop_parts_ready}
use Rattle.task_code.proofs.Added.{ArmRuns, ArmsRun, block_more, arms_more, arm_code, if_code, declare_code, assign_code, write_code, patched_code, round_of, loop_code, loop_stmt_code}
use Rattle.task_code.proofs.statements.+compile.Goals as goal

pub compile_block-loop-i-preserved : goal.compile_block-loop-i-preserved
compile_block-loop-i-preserved t c =
    let program = c.args.layout.now.checked.now in
    let locals = c.args.layout.now.locals.now in
    let back : c.loop-i.i ≡ c.loop-i.i - 1 + 1 = omega arith in
    let inside : c.loop-i.i - 1 < length c.args.stmts.now = omega arith in
    let first : Emits c.loop-i.code.items c.compile_stmt.new.code.items (λ code. Carries program locals (effect (arrays_of program.decls) c.index-stmts-i.result) c.args.into c.loop-i.entry code c.in_ok-entry.entry) = c.in_ok-entry.ensures.code in
    record { code = block_more program locals c.args.into c.args.next _ _ _ c.args.stmts.now (c.loop-i.i - 1) c.loop-i.i c.index-stmts-i.result c.loop-i.entry c.in_ok-entry.entry back inside c.index-stmts-i.is c.loop-i.invariant.code first; sized = sized_then _ _ _ _ c.loop-i.invariant.sized c.in_ok-entry.ensures.sized }

pub compile_block-returns-clause-code : goal.compile_block-returns-clause-code
compile_block-returns-clause-code t c = let start : c.loop-i.i ≡ 0 = omega arith in rw start at c.loop-i.invariant.code

pub compile_arms-loop-i-preserved : goal.compile_arms-loop-i-preserved
compile_arms-loop-i-preserved t c =
    let program = c.args.layout.now.checked.now in
    let locals = c.args.layout.now.locals.now in
    let back : c.loop-i.i ≡ c.loop-i.i - 1 + 1 = omega arith in
    let inside : c.loop-i.i - 1 < length c.args.arms.now = omega arith in
    let first : Emits c.loop-i.code.items c.compile_arm.new.code.items (ArmRuns program locals c.args.into c.args.next c.index-arms-i.result c.loop-i.entry c.in_ok-entry.entry) = c.in_ok-entry.ensures.code in
    record { code = arms_more program locals c.args.into c.args.next _ _ _ c.args.arms.now (c.loop-i.i - 1) c.loop-i.i c.index-arms-i.result c.args.otherwise c.loop-i.entry c.in_ok-entry.entry back inside c.index-arms-i.is c.loop-i.invariant.code first; sized = sized_then _ _ _ _ c.loop-i.invariant.sized c.in_ok-entry.ensures.sized }

pub compile_arms-returns-clause-code : goal.compile_arms-returns-clause-code
compile_arms-returns-clause-code t c = let start : c.loop-i.i ≡ 0 = omega arith in rw start at c.loop-i.invariant.code

pub compile_arm-compile_block-requires : goal.compile_arm-compile_block-requires
compile_arm-compile_block-requires t c = (search (rules, the_lemmas), (c.requires.few, rw c.as_slice.ensures (arm_parts_ready c.args.layout.now.checked.now c.args.layout.now.locals.now c.args.into c.args.arm.now c.requires.ready).1))

pub compile_arm-returns-clause-code : goal.compile_arm-returns-clause-code
compile_arm-returns-clause-code t c =
    let program = c.args.layout.now.checked.now in
    let locals = c.args.layout.now.locals.now in
    let body : Emits c.args.code.now.items c.compile_block.new.code.items (λ code. Carries program locals (sequence (map (effect (arrays_of program.decls)) c.as_slice.result.now)) c.args.into c.args.next code c.in_ok-block.block) = c.in_ok-block.ensures.code in
    if_ok c.reckon.result _ _ c.reckon.ensures.code
    (λ entry does. arm_code program locals c.args.into c.args.next _ _ _ _ c.args.arm.now c.args.otherwise c.in_ok-block.block c.in_ok-test.test entry (rw c.as_slice.ensures at body)
    (rw (c.branch-value.ensures, c.operand-value.ensures, c.straight.ensures, c.straight-2.ensures) at c.in_ok-test.ensures.code) does)

pub compile_loop-compile_block-requires : goal.compile_loop-compile_block-requires
compile_loop-compile_block-requires t c = (search (rules, the_lemmas), (c.requires.few, rw c.as_slice.ensures (loop_parts_ready c.args.layout.now.checked.now c.args.layout.now.locals.now c.args.into c.args.inner.now c.requires.ready).body))

pub compile_loop-returns-clause-code : goal.compile_loop-returns-clause-code
compile_loop-returns-clause-code t c =
    let program = c.args.layout.now.checked.now in
    let locals = c.args.layout.now.locals.now in
    let parts = loop_parts_ready program locals c.args.into c.args.inner.now c.requires.ready in
    let body : Emits c.reserve.new.code.items c.compile_block.new.code.items (λ code. Carries program locals (sequence (map (effect (arrays_of program.decls)) c.as_slice.result.now)) (c.args.into + 2) c.in_ok-again.again code c.in_ok-body.body) = c.in_ok-body.ensures.code in
    let turns = patched_code c.args.code.now.items c.compile_block.new.code.items _ (instruction.End (end.Go (jump.Again (round_of program locals c.args.into c.args.next parts.few c.args.inner.now c.local.result c.local.ensures parts.positive c.in_ok-again.again c.in_ok-body.body 0 0 0)))) c.in_ok-again.again _
    c.in_ok-again.ensures.place (rw (c.in_ok-again.ensures.code, c.as_slice.ensures) at body) in
    if_ok c.reckon-2.result _ _ c.reckon-2.ensures.code
    (λ entry does. loop_code program locals c.args.into c.args.next parts.few c.args.inner.now c.local.result c.local.ensures parts.positive c.in_ok-again.again c.in_ok-body.body c.in_ok-header.header c.in_ok-high.high entry _ _ _ _ _
    turns (rw (c.operand.ensures, c.operand-2.ensures) at c.in_ok-header.ensures.code) c.in_ok-high.ensures.code does)

pub compile_stmt-compile_block-requires : goal.compile_stmt-compile_block-requires
compile_stmt-compile_block-requires t c = (
  search (rules, the_lemmas),
  (c.requires.few, rw c.as_slice.ensures (if_ready c.args.layout.now.checked.now c.args.layout.now.locals.now c.args.into c.in-If.arms c.in-If.other (rw c.in-If.is at c.requires.ready)).1),
)

pub compile_stmt-compile_arms-requires : goal.compile_stmt-compile_arms-requires
compile_stmt-compile_arms-requires t c = (
  search (rules, the_lemmas),
  (c.requires.few, rw c.as_slice-in-If.ensures (if_ready c.args.layout.now.checked.now c.args.layout.now.locals.now c.args.into c.in-If.arms c.in-If.other (rw c.in-If.is at c.requires.ready)).0),
)

pub compile_stmt-returns-in_ok-given-in-Declare-clause-code : goal.compile_stmt-returns-in_ok-given-in-Declare-clause-code
compile_stmt-returns-in_ok-given-in-Declare-clause-code t c =
    let program = c.args.layout.now.checked.now in
    let locals = c.args.layout.now.locals.now in
    let ready = declare_ready program locals c.args.into c.in-Declare.line c.in-Declare.name c.in-Declare.value (rw c.in-Declare.is at c.requires.ready) in
    rw c.in-Declare.is
    (if_ok c.reckon.result _ _ c.reckon.ensures.code
    (λ entry does. declare_code program locals c.args.into c.args.next ready.1 c.in-Declare.line c.in-Declare.name c.local.result c.local.ensures c.in-Declare.value c.in_ok-given-in-Declare.given entry _ _ _
    (rw c.operand-from.ensures at c.in_ok-given-in-Declare.ensures.code) does))

pub compile_stmt-returns-in_ok-given-in-Assign-clause-code : goal.compile_stmt-returns-in_ok-given-in-Assign-clause-code
compile_stmt-returns-in_ok-given-in-Assign-clause-code t c =
    let program = c.args.layout.now.checked.now in
    let locals = c.args.layout.now.locals.now in
    let ready = assign_ready program locals c.args.into c.in-Assign.line c.in-Assign.name c.in-Assign.op c.in-Assign.value (rw c.in-Assign.is at c.requires.ready) in
    rw c.in-Assign.is
    (if_ok c.reckon-in-Assign.result _ _ c.reckon-in-Assign.ensures.code
    (λ entry does. assign_code program locals c.args.into c.args.next ready.1 c.in-Assign.line c.in-Assign.name c.local-in-Assign.result c.local-in-Assign.ensures c.in-Assign.value c.in_ok-given-in-Assign.given entry _ _ _ c.in-Assign.op
    (rw c.operand-from-in-Assign.ensures at c.in_ok-given-in-Assign.ensures.code) does))

pub compile_stmt-returns-in_ok-right-in-Write-clause-code : goal.compile_stmt-returns-in_ok-right-in-Write-clause-code
compile_stmt-returns-in_ok-right-in-Write-clause-code t c =
    let program = c.args.layout.now.checked.now in
    let locals = c.args.layout.now.locals.now in
    let ready = write_ready program locals c.args.into c.in-Write.line c.in-Write.array c.in-Write.place c.in-Write.op c.in-Write.value (rw c.in-Write.is at c.requires.ready) in
    rw c.in-Write.is
    (if_ok c.reckon-in-Write-2.result _ _ c.reckon-in-Write-2.ensures.code
    (λ entry does. write_code program locals c.args.into c.args.next ready.0 _ _ _ _ c.in-Write.line c.in-Write.array c.in-Write.place c.in-Write.op c.in-Write.value c.in_ok-written-in-Write.written c.in_ok-right-in-Write.right entry
    (rw (c.subscript-to.ensures, c.operand.ensures, c.operand-from-in-Write.ensures) at c.in_ok-written-in-Write.ensures.code) c.in_ok-right-in-Write.ensures.code does))

pub compile_stmt-returns-in_ok-otherwise-in-If-clause-code : goal.compile_stmt-returns-in_ok-otherwise-in-If-clause-code
compile_stmt-returns-in_ok-otherwise-in-If-clause-code t c =
    let program = c.args.layout.now.checked.now in
    let locals = c.args.layout.now.locals.now in
    let other : Emits c.args.code.now.items c.compile_block.new.code.items (λ code. Carries program locals (sequence (map (effect (arrays_of program.decls)) c.as_slice.result.now)) c.args.into c.args.next code c.in_ok-otherwise-in-If.otherwise) = c.in_ok-otherwise-in-If.ensures.code in
    let arms : IfOk c.compile_arms.result (λ entry. Emits c.compile_block.new.code.items c.compile_arms.new.code.items (ArmsRun program locals c.args.into c.args.next c.as_slice-in-If.result.now c.in_ok-otherwise-in-If.otherwise entry)) = c.compile_arms.ensures.code in
    rw c.in-If.is
    (if_ok c.compile_arms.result _ _ (rw c.as_slice-in-If.ensures at arms)
    (λ entry runs. if_code program locals c.args.into c.args.next _ _ _ c.in-If.arms c.in-If.other c.in_ok-otherwise-in-If.otherwise entry (rw c.as_slice.ensures at other) runs))

pub compile_stmt-returns-in-Loop-clause-code : goal.compile_stmt-returns-in-Loop-clause-code
compile_stmt-returns-in-Loop-clause-code t c =
    let program = c.args.layout.now.checked.now in
    let locals = c.args.layout.now.locals.now in
    let runs : IfOk c.compile_loop.result (λ entry. Emits c.args.code.now.items c.compile_loop.new.code.items (λ code. Carries program locals (loop_effect (arrays_of program.decls) c.in-Loop.inner) c.args.into c.args.next code entry)) = c.compile_loop.ensures.code in
    rw c.in-Loop.is
    (if_ok c.compile_loop.result _ _ runs (λ entry run. loop_stmt_code program locals c.args.into c.args.next _ _ c.in-Loop.inner entry run))

pub compile_arm-returns-clause-sized : goal.compile_arm-returns-clause-sized
compile_arm-returns-clause-sized t c =
    sized_after _ c.reckon.result _ _ _ (sized_then _ _ _ _ c.in_ok-block.ensures.sized (c.in_ok-test.ensures.sized _ (subst (IsSized _) (sym c.branch-value.ensures) tt))) c.reckon.ensures.sized

pub compile_stmt-returns-in_ok-given-in-Declare-clause-sized : goal.compile_stmt-returns-in_ok-given-in-Declare-clause-sized
compile_stmt-returns-in_ok-given-in-Declare-clause-sized t c = sized_after _ c.reckon.result _ _ _ (c.in_ok-given-in-Declare.ensures.sized _) c.reckon.ensures.sized

pub compile_stmt-returns-in_ok-given-in-Assign-clause-sized : goal.compile_stmt-returns-in_ok-given-in-Assign-clause-sized
compile_stmt-returns-in_ok-given-in-Assign-clause-sized t c = sized_after _ c.reckon-in-Assign.result _ _ _ (c.in_ok-given-in-Assign.ensures.sized _) c.reckon-in-Assign.ensures.sized

pub compile_stmt-returns-in_ok-right-in-Write-clause-sized : goal.compile_stmt-returns-in_ok-right-in-Write-clause-sized
compile_stmt-returns-in_ok-right-in-Write-clause-sized t c =
    let to : IsOfArray (sizes_of (arrays_of c.args.layout.now.checked.now.decls)) c.subscript-to.result = subst (IsOfArray _) (sym c.subscript-to.ensures) (subscript_sized c.args.layout.now.checked.now c.in-Write.array _ c.in-Write.line) in
    sized_after _ c.reckon-in-Write-2.result _ _ _ (sized_then _ _ _ _ (c.in_ok-written-in-Write.ensures.sized _ to) c.in_ok-right-in-Write.ensures.sized) c.reckon-in-Write-2.ensures.sized

pub compile_stmt-returns-in_ok-otherwise-in-If-clause-sized : goal.compile_stmt-returns-in_ok-otherwise-in-If-clause-sized
compile_stmt-returns-in_ok-otherwise-in-If-clause-sized t c = sized_after _ c.compile_arms.result _ _ _ c.in_ok-otherwise-in-If.ensures.sized c.compile_arms.ensures.sized

pub compile_loop-returns-clause-sized : goal.compile_loop-returns-clause-sized
compile_loop-returns-clause-sized t c =
    sized_after _ c.reckon-2.result _ _ _ (sized_then _ _ _ _ (sized_then _ _ _ _ (sized_then _ _ _ _ (sized_then _ _ _ _ (c.in_ok-again.ensures.sized _) c.in_ok-body.ensures.sized)
    (sized_filled _ c.compile_block.new.code.items c.in_ok-again.again _ tt)) (c.in_ok-header.ensures.sized _ tt)) c.in_ok-high.ensures.sized) c.reckon-2.ensures.sized
