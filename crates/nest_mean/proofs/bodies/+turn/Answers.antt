use Rattle.std.proofs.Common.{rules, ◌≡◌, true, false, to_z, of_z, w64, sym, ap, ◌∙◌}
use Rattle.std.proofs.lemmas.Int.{to_z-of_z}
use Rattle.std.proofs.lemmas.Result.{err_from_is_err_and}
use Rattle.nest_syntax.specs.declared.tree.Stmt.TheFolds.{the_lemmas}
use Rattle.nest_syntax.specs.Words.{is_zero, variable}
use Rattle.nest_syntax.specs.Value.{with_scalar}
use Rattle.word_store.specs.Memory.{Memory}
use Rattle.nest_syntax.proofs.Equations.{given_in_loop-is}
use Rattle.nest_mean.proofs.Parts.{all_left, block_runs, block_stops, block_ends, turns_begin, turn_runs, turn_stops, turns_end, runs_declare}
use Rattle.nest_mean.proofs.Statements.{all_arms_left, arm_passes, arm_stops, arm_runs, arm_traps, arms_end, loop_stops_low, loop_stops_high, loop_traps, loop_runs, write_stops_place, write_stops_value, write_runs, if_stops, if_takes, if_other}
use Rattle.nest_mean.proofs.bodies.+turn.Goals as goal

pub run_arms-loop-arm-init : goal.run_arms-loop-arm-init
run_arms-loop-arm-init t c = all_arms_left _ _ _ _

pub run_arms-value_of-requires : goal.run_arms-value_of-requires
run_arms-value_of-requires t c = record { sizes = ap (λ (m : Memory). m.sizes) c.loop-arm.invariant.memory ∙ c.requires.sizes }

pub run_arms-returns-in_err-test : goal.run_arms-returns-in_err-test
run_arms-returns-in_err-test t c =
    let p = err_from_is_err_and c.from_residual.result c.from_residual.ensures.1 in
    rw (p.1, p.2) (arm_stops _ _ _ c.loop-arm-test.true c.arm-item.result c.arm-item.is _ _ _ _ _ c.loop-arm.invariant c.in_err-test.ensures)

pub run_arms-run_block-requires : goal.run_arms-run_block-requires
run_arms-run_block-requires t c = (search (rules, the_lemmas), ap (λ (m : Memory). m.sizes) c.loop-arm.invariant.memory ∙ c.requires.sizes)

pub run_block-loop-stmt-init : goal.run_block-loop-stmt-init
run_block-loop-stmt-init t c = all_left _ _ _ _ _

pub run_block-run_stmt-requires : goal.run_block-run_stmt-requires
run_block-run_stmt-requires t c = (search (rules, the_lemmas), c.loop-stmt.invariant.sizes ∙ c.requires.sizes)

pub run_block-returns-in_err-run_stmt : goal.run_block-returns-in_err-run_stmt
run_block-returns-in_err-run_stmt t c =
    let p = err_from_is_err_and c.from_residual.result c.from_residual.ensures.1 in
    rw (p.1, p.2) (block_stops _ _ _ c.loop-stmt-test.true c.stmt-item.result c.stmt-item.is _ _ _ _ _ _ _ c.loop-stmt.invariant c.in_err-run_stmt.ensures)

pub run_block-loop-stmt-preserved : goal.run_block-loop-stmt-preserved
run_block-loop-stmt-preserved t c = block_runs _ _ _ c.loop-stmt-test.true c.stmt-item.result c.stmt-item.is _ _ _ _ _ _ c.loop-stmt.invariant c.in_ok-run_stmt.ensures

pub run_block-returns : goal.run_block-returns
run_block-returns t c = block_ends _ _ _ _ _ _ _ c.loop-stmt-test.false c.loop-stmt.invariant

pub run_loop-returns-in_err-low : goal.run_loop-returns-in_err-low
run_loop-returns-in_err-low t c =
    let p = err_from_is_err_and c.from_residual.result c.from_residual.ensures.1 in
    rw (p.1, p.2) (loop_stops_low _ _ _ _ _ c.in_err-low.ensures)

pub run_loop-returns-in_err-high : goal.run_loop-returns-in_err-high
run_loop-returns-in_err-high t c =
    let p = err_from_is_err_and c.from_residual-in_err-high.result c.from_residual-in_err-high.ensures.1 in
    rw (p.1, p.2) (loop_stops_high _ _ _ _ _ c.in_ok-low.ensures _ c.in_err-high.ensures)

pub run_turns-loop-k-init : goal.run_turns-loop-k-init
run_turns-loop-k-init t c = turns_begin _ _ _ _ _ _ _

pub run_arms-returns-in_err-run_block : goal.run_arms-returns-in_err-run_block
run_arms-returns-in_err-run_block t c =
    let p = err_from_is_err_and c.from_residual-in_err-run_block.result c.from_residual-in_err-run_block.ensures.1 in
    let test : to_z w64 (of_z w64 c.in_ok-test.test) ≡ c.in_ok-test.test = to_z-of_z w64 c.in_ok-test.test (search rules) in
    let not_zero : is_zero c.in_ok-test.test ≡ false = ap is_zero (sym test) ∙ sym c.is_zero.ensures ∙ c.if-not-is_zero.true in
    rw (p.1, p.2)
    (arm_traps _ _ _ c.loop-arm-test.true c.arm-item.result c.arm-item.is c.in_ok-test.test _ _ _ _ c.loop-arm.invariant c.in_ok-test.ensures not_zero _ _ _ (rw c.as_slice.ensures at c.in_err-run_block.ensures))

pub run_arms-returns-then-not-is_zero : goal.run_arms-returns-then-not-is_zero
run_arms-returns-then-not-is_zero t c =
    let test : to_z w64 (of_z w64 c.in_ok-test.test) ≡ c.in_ok-test.test = to_z-of_z w64 c.in_ok-test.test (search rules) in
    let not_zero : is_zero c.in_ok-test.test ≡ false = ap is_zero (sym test) ∙ sym c.is_zero.ensures ∙ c.if-not-is_zero.true in
    arm_runs _ _ _ c.loop-arm-test.true c.arm-item.result c.arm-item.is c.in_ok-test.test _ _ _ _ c.loop-arm.invariant c.in_ok-test.ensures not_zero _ _ (rw c.as_slice.ensures at c.in_ok-run_block.ensures)

pub run_arms-loop-arm-preserved : goal.run_arms-loop-arm-preserved
run_arms-loop-arm-preserved t c =
    let test : to_z w64 (of_z w64 c.in_ok-test.test) ≡ c.in_ok-test.test = to_z-of_z w64 c.in_ok-test.test (search rules) in
    let zero : is_zero c.in_ok-test.test ≡ true = ap is_zero (sym test) ∙ sym c.is_zero.ensures ∙ c.if-not-is_zero.false in
    arm_passes _ _ _ c.loop-arm-test.true c.arm-item.result c.arm-item.is c.in_ok-test.test _ _ _ _ c.loop-arm.invariant c.in_ok-test.ensures zero

pub run_arms-returns : goal.run_arms-returns
run_arms-returns t c = arms_end _ _ _ _ _ _ _ c.loop-arm-test.false c.loop-arm.invariant

pub run_loop-returns-in-Ok : goal.run_loop-returns-in-Ok
run_loop-returns-in-Ok t c =
    let low : to_z w64 (of_z w64 c.in_ok-low.low) ≡ c.in_ok-low.low = to_z-of_z w64 c.in_ok-low.low (search rules) in
    let high : to_z w64 (of_z w64 c.in_ok-high.high) ≡ c.in_ok-high.high = to_z-of_z w64 c.in_ok-high.high (search rules) in
    loop_runs _ _ _ _ c.in_ok-low.low c.in_ok-low.ensures c.in_ok-high.high c.in_ok-high.ensures c.in-Ok.count _ _ _ (simp (low, high) at c.in-Ok.ensures.count) (simp low at c.run_turns.ensures)

pub run_loop-returns-in-Err : goal.run_loop-returns-in-Err
run_loop-returns-in-Err t c =
    let low : to_z w64 (of_z w64 c.in_ok-low.low) ≡ c.in_ok-low.low = to_z-of_z w64 c.in_ok-low.low (search rules) in
    let high : to_z w64 (of_z w64 c.in_ok-high.high) ≡ c.in_ok-high.high = to_z-of_z w64 c.in_ok-high.high (search rules) in
    loop_traps _ _ _ _ c.in_ok-low.low c.in_ok-low.ensures c.in_ok-high.high c.in_ok-high.ensures c.in-Err.cause (simp (low, high) at c.in-Err.ensures.count)

pub run_stmt-returns-in_err-at-in-Write : goal.run_stmt-returns-in_err-at-in-Write
run_stmt-returns-in_err-at-in-Write t c =
    let p = err_from_is_err_and c.from_residual.result c.from_residual.ensures.1 in
    rw (p.1, p.2, c.in-Write.is) (write_stops_place _ _ _ _ _ _ _ _ _ c.in_err-at-in-Write.ensures)

pub run_stmt-returns-in_err-right-in-Write : goal.run_stmt-returns-in_err-right-in-Write
run_stmt-returns-in_err-right-in-Write t c =
    let p = err_from_is_err_and c.from_residual-in_err-right-in-Write.result c.from_residual-in_err-right-in-Write.ensures.1 in
    rw (p.1, p.2, c.in-Write.is) (write_stops_value _ _ _ _ _ _ _ _ c.in_ok-at-in-Write.at c.in_ok-at-in-Write.ensures _ c.in_err-right-in-Write.ensures)

pub run_stmt-returns-in_err-run_arms-in-If : goal.run_stmt-returns-in_err-run_arms-in-If
run_stmt-returns-in_err-run_arms-in-If t c =
    let p = err_from_is_err_and c.from_residual-in_err-run_arms-in-If.result c.from_residual-in_err-run_arms-in-If.ensures.1 in
    rw (p.1, p.2, c.in-If.is) (if_stops _ _ _ _ _ _ _ _ (rw c.as_slice.ensures at c.in_err-run_arms-in-If.ensures))

pub run_stmt-returns-then-branch : goal.run_stmt-returns-then-branch
run_stmt-returns-then-branch t c = rw c.in-If.is (if_takes _ _ _ _ _ _ _ (rw (c.as_slice.ensures, c.if-branch.true) at c.in_ok-run_arms-in-If.ensures))

pub run_stmt-returns-in-Declare : goal.run_stmt-returns-in-Declare
run_stmt-returns-in-Declare t c = rw c.in-Declare.is (runs_declare _ _ _ _ _ _ _ _ _ c.change_scalar.ensures)

pub run_stmt-returns-in_ok-right-in-Write : goal.run_stmt-returns-in_ok-right-in-Write
run_stmt-returns-in_ok-right-in-Write t c =
    let at : to_z w64 (of_z w64 c.in_ok-at-in-Write.at) ≡ c.in_ok-at-in-Write.at = to_z-of_z w64 c.in_ok-at-in-Write.at (search rules) in
    let right : to_z w64 (of_z w64 c.in_ok-right-in-Write.right) ≡ c.in_ok-right-in-Write.right = to_z-of_z w64 c.in_ok-right-in-Write.right (search rules) in
    rw c.in-Write.is
    (write_runs _ _ _ _ _ _ _ _ c.in_ok-at-in-Write.at c.in_ok-at-in-Write.ensures c.in_ok-right-in-Write.right c.in_ok-right-in-Write.ensures _ _ (simp (at, right) at c.write_word.ensures.written) c.write_word.ensures.sizes)

pub run_stmt-returns-else-branch : goal.run_stmt-returns-else-branch
run_stmt-returns-else-branch t c =
    rw c.in-If.is
    (if_other _ _ _ _ _ _ _ _ _ _ (rw (c.as_slice.ensures, c.if-branch.false) at c.in_ok-run_arms-in-If.ensures) (rw c.as_slice-in-If.ensures at c.run_block.ensures))

pub run_turns-returns-in_err-run_block : goal.run_turns-returns-in_err-run_block
run_turns-returns-in_err-run_block t c =
    let p = err_from_is_err_and c.from_residual.result c.from_residual.ensures.1 in
    let low : to_z w64 (of_z w64 c.args.low) ≡ c.args.low = to_z-of_z w64 c.args.low c.ranges.low in
    let value : to_z w64 (of_z w64 c.value_in_turn.result) ≡ c.value_in_turn.result = to_z-of_z w64 c.value_in_turn.result (search rules) in
    let start : c.set.new.self ≡ with_scalar c.loop-k.scalars c.args.inner.now.name (variable c.args.low c.args.inner.now.step c.loop-k.k) =
    c.set.ensures ∙ ap (with_scalar c.loop-k.scalars c.args.inner.now.name) (value ∙ simp low at c.value_in_turn.ensures) in
    rw (p.1, p.2, given_in_loop-is true c.args.inner.now)
    (turn_stops _ _ _ _ _ _ _ _ _ _ _ c.loop-k.k c.loop-k-test.true (simp low at c.loop-k.invariant) _ (rw (c.as_slice.ensures, start) at c.in_err-run_block.ensures))

pub run_turns-loop-k-preserved : goal.run_turns-loop-k-preserved
run_turns-loop-k-preserved t c =
    let low : to_z w64 (of_z w64 c.args.low) ≡ c.args.low = to_z-of_z w64 c.args.low c.ranges.low in
    let value : to_z w64 (of_z w64 c.value_in_turn.result) ≡ c.value_in_turn.result = to_z-of_z w64 c.value_in_turn.result (search rules) in
    let start : c.set.new.self ≡ with_scalar c.loop-k.scalars c.args.inner.now.name (variable c.args.low c.args.inner.now.step c.loop-k.k) =
    c.set.ensures ∙ ap (with_scalar c.loop-k.scalars c.args.inner.now.name) (value ∙ simp low at c.value_in_turn.ensures) in
    simp low
    (turn_runs _ _ _ _ _ _ _ _ _ _ _ c.loop-k.k c.loop-k-test.true (simp low at c.loop-k.invariant) (rw (c.as_slice.ensures, start) at c.in_ok-run_block.ensures))

pub run_turns-returns : goal.run_turns-returns
run_turns-returns t c =
    let low : to_z w64 (of_z w64 c.args.low) ≡ c.args.low = to_z-of_z w64 c.args.low c.ranges.low in
    rw (given_in_loop-is true c.args.inner.now) (turns_end _ _ _ _ _ c.loop-k.k _ _ _ _ c.loop-k-test.false (simp low at c.loop-k.invariant))
