use Rattle.std.proofs.Common.{rules, ◌≡◌, refl, to_z, of_z, w64, sym, ap, ◌∙◌}
use Rattle.std.proofs.lemmas.Int.{to_z-of_z}
use Rattle.std.proofs.lemmas.Result.{err_from_is_err_and}
use Rattle.nest_syntax.specs.declared.tree.Stmt.TheFolds.{the_lemmas}
use Rattle.nest_syntax.specs.Words.{variable}
use Rattle.nest_syntax.specs.Value.{with_scalar}
use Rattle.claim_walk.specs.Walk.{ends, walk_block}
use Rattle.addr_slice.specs.Met.{setting}
use Rattle.addr_slice.proofs.Meeting.{all_left, block_goes, block_stops, block_ends, turns_begin, turn_goes, turn_stops, turns_end}
use Rattle.addr_slice.proofs.Walking.{low_traps, low_goes, high_traps, high_goes, count_traps, count_goes, low_stops, high_stops, bounds_go, does_declare, does_assign, does_write, does_if, does_loop}
use Rattle.addr_slice.proofs.Arms.{arms_begin, arm_stops, arm_taken, arm_traps, arm_passes, arms_end, if_decided, if_left}
use Rattle.addr_slice.proofs.slices.Walker.+walk.Goals as goal

pub walk_block-loop-stmt-init : goal.walk_block-loop-stmt-init
walk_block-loop-stmt-init t c = all_left _ _ _ _ _

pub walk_block-returns-in_err-walk_stmt : goal.walk_block-returns-in_err-walk_stmt
walk_block-returns-in_err-walk_stmt t c =
    let p = err_from_is_err_and c.from_residual.result c.from_residual.ensures.1 in
    rw (p.1, p.2) (block_stops _ _ _ _ c.loop-stmt-test.true c.stmt-item.result c.stmt-item.is _ _ _ _ _ _ c.loop-stmt.invariant _ _ _ _ c.in_err-walk_stmt.ensures)

pub walk_block-loop-stmt-preserved : goal.walk_block-loop-stmt-preserved
walk_block-loop-stmt-preserved t c = block_goes _ _ _ _ c.loop-stmt-test.true c.stmt-item.result c.stmt-item.is _ _ _ _ _ _ c.loop-stmt.invariant _ _ _ c.in_ok-walk_stmt.ensures

pub walk_block-returns : goal.walk_block-returns
walk_block-returns t c = block_ends _ _ _ _ _ _ _ _ _ _ c.loop-stmt-test.false c.loop-stmt.invariant

pub walk_stmt-returns-in-Declare : goal.walk_stmt-returns-in-Declare
walk_stmt-returns-in-Declare t c = rw c.in-Declare.is (does_declare _ _ _ _ _ _ _ _ _ _ _ _ c.walk_assign.ensures)

pub walk_stmt-returns-in-Assign : goal.walk_stmt-returns-in-Assign
walk_stmt-returns-in-Assign t c = rw c.in-Assign.is (does_assign _ _ _ _ _ _ _ _ _ _ _ _ _ c.walk_assign-in-Assign.ensures)

pub walk_stmt-returns-in-Write : goal.walk_stmt-returns-in-Write
walk_stmt-returns-in-Write t c = rw c.in-Write.is (does_write _ _ _ _ _ _ _ _ _ _ _ _ _ _ c.walk_write.ensures)

pub walk_stmt-walk_block-ended-requires : goal.walk_stmt-walk_block-ended-requires
walk_stmt-walk_block-ended-requires t c = (search (rules, the_lemmas), (c.requires.ready, (c.in-None.ensures ends).0 ∙ c.requires.room))

pub walk_stmt-returns-in-Some : goal.walk_stmt-returns-in-Some
walk_stmt-returns-in-Some t c = rw (c.in_branch.ensures, c.in-If.is) (does_if _ _ _ _ _ _ _ _ _ _ _ (if_decided _ _ _ _ c.as_slice.ensures _ _ _ c.try_arms.new.is_data _ _ _ c.in-Some.ended c.in-Some.ensures _))

pub walk_stmt-returns-in-None : goal.walk_stmt-returns-in-None
walk_stmt-returns-in-None t c = rw (c.in_branch-in-None.ensures, c.in-If.is) (does_if _ _ _ _ _ _ _ _ _ _ _ (if_left _ _ _ _ c.as_slice.ensures _ _ _ _ _ _ _ _ _ c.as_slice-in-None.ensures c.in-None.ensures _ _ _ _ c.walk_block-ended.ensures))

pub walk_stmt-returns-in-Loop : goal.walk_stmt-returns-in-Loop
walk_stmt-returns-in-Loop t c = rw c.in-Loop.is (does_loop _ _ _ _ _ _ _ _ _ _ c.walk_loop.ensures)

pub walk_turns-loop-k-init : goal.walk_turns-loop-k-init
walk_turns-loop-k-init t c = turns_begin _ (setting c.args.self.now.checked.now c.args.self.now.words.now c.args.self.now.split.now c.args.self.now.body) c.args.count _ _ _ _ _ _

pub walk_turns-returns : goal.walk_turns-returns
walk_turns-returns t c =
    let low : to_z w64 (of_z w64 c.args.low) ≡ c.args.low = to_z-of_z w64 c.args.low c.ranges.low in
    turns_end _ _ _ _ _ _ c.loop-k.k _ _ _ _ _ _ c.loop-k-test.false (simp low at c.loop-k.invariant)

pub walk_turns-returns-in_err-walk_block : goal.walk_turns-returns-in_err-walk_block
walk_turns-returns-in_err-walk_block t c =
    let p = err_from_is_err_and c.from_residual.result c.from_residual.ensures.1 in
    let low : to_z w64 (of_z w64 c.args.low) ≡ c.args.low = to_z-of_z w64 c.args.low c.ranges.low in
    let value : to_z w64 (of_z w64 c.value_in_turn.result) ≡ c.value_in_turn.result = to_z-of_z w64 c.value_in_turn.result (search rules) in
    let start : c.set.new.self ≡ with_scalar c.loop-k.scalars c.args.inner.now.name (variable c.args.low c.args.inner.now.step c.loop-k.k) = c.set.ensures ∙ ap (with_scalar c.loop-k.scalars c.args.inner.now.name) (value ∙ simp low at c.value_in_turn.ensures) in
    rw (p.1, p.2) (turn_stops _ _ _ _ _ _ c.loop-k.k c.loop-k-test.true _ _ _ _ _ _ (simp low at c.loop-k.invariant) _ _ _ _ (rw (c.as_slice.ensures, start) at c.in_err-walk_block.ensures))

pub walk_turns-loop-k-preserved : goal.walk_turns-loop-k-preserved
walk_turns-loop-k-preserved t c =
    let low : to_z w64 (of_z w64 c.args.low) ≡ c.args.low = to_z-of_z w64 c.args.low c.ranges.low in
    let value : to_z w64 (of_z w64 c.value_in_turn.result) ≡ c.value_in_turn.result = to_z-of_z w64 c.value_in_turn.result (search rules) in
    let start : c.set.new.self ≡ with_scalar c.loop-k.scalars c.args.inner.now.name (variable c.args.low c.args.inner.now.step c.loop-k.k) = c.set.ensures ∙ ap (with_scalar c.loop-k.scalars c.args.inner.now.name) (value ∙ simp low at c.value_in_turn.ensures) in
    simp low (turn_goes _ _ _ _ _ _ c.loop-k.k c.loop-k-test.true _ _ _ _ _ _ (simp low at c.loop-k.invariant) _ _ _ _ (rw (c.as_slice.ensures, start) at c.in_ok-walk_block.ensures) c.pass.ensures)

pub try_arms-loop-arm-init : goal.try_arms-loop-arm-init
try_arms-loop-arm-init t c = λ other. arms_begin _ _ _ other _ _ _ _ c.requires.none

pub try_arms-walk-requires-clause-room : goal.try_arms-walk-requires-clause-room
try_arms-walk-requires-clause-room t c = (c.loop-arm.invariant ends).room ∙ c.requires.room

pub try_arms-returns-in_default : goal.try_arms-returns-in_default
try_arms-returns-in_default t c = λ other. arm_stops _ _ _ other _ c.loop-arm-test.true c.arm-item.result c.arm-item.is _ _ _ _ _ _ _ (c.loop-arm.invariant other) _ _ _ c.in_default.ensures

pub walk_loop-returns-in_err-walk : goal.walk_loop-returns-in_err-walk
walk_loop-returns-in_err-walk t c =
    let p = err_from_is_err_and c.from_residual.result c.from_residual.ensures.1 in
    rw (p.1, p.2) (low_stops _ _ _ _ _ _ _ _ _ c.in_err-walk.ensures)

pub walk_loop-returns-in_err-walk-2 : goal.walk_loop-returns-in_err-walk-2
walk_loop-returns-in_err-walk-2 t c =
    let p = err_from_is_err_and c.from_residual-in_err-walk-2.result c.from_residual-in_err-walk-2.ensures.1 in
    rw (p.1, p.2) (high_stops _ _ _ _ _ _ _ _ c.in_ok-walk.ensures _ _ _ c.in_err-walk-2.ensures)

pub walk_loop-returns : goal.walk_loop-returns
walk_loop-returns t c = bounds_go _ _ _ _ _ _ _ _ c.in_ok-walk.ensures _ _ c.in_ok-walk-2.ensures _ _ _ _ c.walk_from_low.ensures

pub walk_from_low-returns-in-Ok : goal.walk_from_low-returns-in-Ok
walk_from_low-returns-in-Ok t c =
    let low : to_z w64 (of_z w64 c.in-Ok.low) ≡ c.in-Ok.low = to_z-of_z w64 c.in-Ok.low (search rules) in
    low_goes _ _ _ _ _ _ _ _ _ _ c.in-Ok.low c.in-Ok.ensures _ _ _ _ (simp low at c.walk_to_high.ensures)

pub walk_from_low-returns-in-Err : goal.walk_from_low-returns-in-Err
walk_from_low-returns-in-Err t c = low_traps _ _ _ _ _ _ _ _ _ _ c.in-Err.field-0 c.in-Err.ensures _

pub walk_between-returns-in-Ok : goal.walk_between-returns-in-Ok
walk_between-returns-in-Ok t c =
    let low : to_z w64 (of_z w64 c.args.low) ≡ c.args.low = to_z-of_z w64 c.args.low c.ranges.low in
    let high : to_z w64 (of_z w64 c.args.high) ≡ c.args.high = to_z-of_z w64 c.args.high c.ranges.high in
    count_goes _ _ _ _ _ _ _ _ _ _ c.in-Ok.count (simp (low, high) at c.in-Ok.ensures.count) _ c.pass.ensures _ _ _ _ (simp low at c.walk_turns.ensures)

pub walk_between-returns-in-Err : goal.walk_between-returns-in-Err
walk_between-returns-in-Err t c =
    let low : to_z w64 (of_z w64 c.args.low) ≡ c.args.low = to_z-of_z w64 c.args.low c.ranges.low in
    let high : to_z w64 (of_z w64 c.args.high) ≡ c.args.high = to_z-of_z w64 c.args.high c.ranges.high in
    count_traps _ c.args.inner.now.step c.args.inner.now.through c.args.inner.now.name (walk_block (setting c.args.self.now.checked.now c.args.self.now.words.now c.args.self.now.split.now c.args.self.now.body) c.args.inner.now.body) _ _ _ c.args.low c.args.high c.in-Err.field-0 (simp (low, high) at c.in-Err.ensures.count) _

pub walk_to_high-returns-in-Ok : goal.walk_to_high-returns-in-Ok
walk_to_high-returns-in-Ok t c =
    let low : to_z w64 (of_z w64 c.args.low) ≡ c.args.low = to_z-of_z w64 c.args.low c.ranges.low in
    let high : to_z w64 (of_z w64 c.in-Ok.high) ≡ c.in-Ok.high = to_z-of_z w64 c.in-Ok.high (search rules) in
    high_goes _ c.args.inner.now.step c.args.inner.now.through c.args.inner.now.name (walk_block (setting c.args.self.now.checked.now c.args.self.now.words.now c.args.self.now.split.now c.args.self.now.body) c.args.inner.now.body) c.args.scalars.now c.args.into.now c.args.cost.now c.args.low _ c.in-Ok.high c.in-Ok.ensures _ _ _ _
    (simp (low, high) at c.walk_between.ensures)

pub walk_to_high-returns-in-Err : goal.walk_to_high-returns-in-Err
walk_to_high-returns-in-Err t c = high_traps _ c.args.inner.now.step c.args.inner.now.through c.args.inner.now.name (walk_block (setting c.args.self.now.checked.now c.args.self.now.words.now c.args.self.now.split.now c.args.self.now.body) c.args.inner.now.body) _ _ _ _ _ c.in-Err.field-0 c.in-Err.ensures _

pub try_arms-walk_block-requires : goal.try_arms-walk_block-requires
try_arms-walk_block-requires t c = (search (rules, the_lemmas), (c.requires.ready, c.in-Ok.ensures.meets.room ∙ (c.loop-arm.invariant ends).room ∙ c.requires.room))

pub try_arms-pass_arm-requires : goal.try_arms-pass_arm-requires
try_arms-pass_arm-requires t c = (search (rules, the_lemmas), (c.requires.ready, c.in-Ok.ensures.meets.room ∙ (c.loop-arm.invariant ends).room ∙ c.requires.room))

pub try_arms-returns-in-Holds : goal.try_arms-returns-in-Holds
try_arms-returns-in-Holds t c = λ other. arm_taken _ _ _ other _ c.loop-arm-test.true c.arm-item.result c.arm-item.is _ _ _ _ _ _ _ (c.loop-arm.invariant other) _ _ c.in-Ok.ensures _ c.pass.ensures (sym c.in-Holds.is ∙ c.told-known.ensures) _ _ _ _ (rw c.as_slice.ensures at c.walk_block.ensures)

pub try_arms-returns-in-Traps : goal.try_arms-returns-in-Traps
try_arms-returns-in-Traps t c = λ other. arm_traps _ _ _ other _ c.loop-arm-test.true c.arm-item.result c.arm-item.is _ _ _ _ _ _ _ (c.loop-arm.invariant other) _ _ c.in-Ok.ensures _ c.pass.ensures (sym c.in-Traps.is ∙ c.told-known.ensures) _

pub try_arms-loop-arm-preserved : goal.try_arms-loop-arm-preserved
try_arms-loop-arm-preserved t c = λ other. arm_passes _ _ _ other _ c.loop-arm-test.true c.arm-item.result c.arm-item.is _ _ _ _ _ _ _ (c.loop-arm.invariant other) _ _ c.in-Ok.ensures _ c.pass.ensures _ c.told-known.ensures c.in_default-known.not-Holds c.in_default-known.not-Traps _ _ _ _ (rw c.as_slice-in_default-known.ensures at c.pass_arm.ensures)

pub try_arms-returns : goal.try_arms-returns
try_arms-returns t c = λ other. ((c.loop-arm.invariant other).room, λ ended known new n does. arms_end _ _ _ other _ _ _ _ _ _ _ _ c.loop-arm-test.false (c.loop-arm.invariant other) ended known new n does)

pub pass_arm-returns-in-Unknown : goal.pass_arm-returns-in-Unknown
pass_arm-returns-in-Unknown t c = rw c.in-Unknown.is (_, c.walk_block.ensures, refl)
