use Rattle.std.proofs.Common.{rules, ◌≡◌, arith, to_z, of_z, w64, ap, ◌∙◌}
use Rattle.std.proofs.lemmas.Int.{to_z-of_z}
use Rattle.std.proofs.lemmas.Result.{err_from_is_err_and}
use Rattle.nest_syntax.specs.Words.{variable}
use Rattle.nest_syntax.specs.Value.{with_scalar}
use Rattle.nest_mean.proofs.Rounds.{region_begins, turn_passes, turn_ends, region_ends, turn_ready}
use Rattle.nest_mean.proofs.courses.run_region_turns.Goals as goal

pub loop-k-init : goal.loop-k-init
loop-k-init c = region_begins _ _ _ _ _ _

pub run_items-requires : goal.run_items-requires
run_items-requires c = rw c.as_slice.ensures (turn_ready _ _ _ _ _ _ c.loop-k.k c.loop-k-test.true _ c.loop-k.invariant _ c.requires.ready _)

pub returns-in_err-run_items : goal.returns-in_err-run_items
returns-in_err-run_items c =
    let p = err_from_is_err_and c.from_residual.result c.from_residual.ensures.1 in
    let low : to_z w64 (of_z w64 c.args.low) ≡ c.args.low = to_z-of_z w64 c.args.low c.ranges.low in
    let value : to_z w64 (of_z w64 c.value_in_turn-value.result) ≡ c.value_in_turn-value.result = to_z-of_z w64 c.value_in_turn-value.result (search rules) in
    let start : c.set.new.self.present ≡ with_scalar c.loop-k.run.scalars.present c.args.region.now.name (variable c.args.low c.args.region.now.step c.loop-k.k) =
    c.set.ensures.present ∙ ap (with_scalar c.loop-k.run.scalars.present c.args.region.now.name) (value ∙ simp low at c.value_in_turn-value.ensures) in
    rw (p.1, p.2) (turn_ends _ _ _ _ _ _ c.loop-k.k c.loop-k-test.true _ (simp low at c.loop-k.invariant) c.set.new.self start _ _ (rw c.as_slice.ensures at c.in_err-run_items.ensures))

pub loop-k-preserved : goal.loop-k-preserved
loop-k-preserved c =
    let low : to_z w64 (of_z w64 c.args.low) ≡ c.args.low = to_z-of_z w64 c.args.low c.ranges.low in
    let value : to_z w64 (of_z w64 c.value_in_turn-value.result) ≡ c.value_in_turn-value.result = to_z-of_z w64 c.value_in_turn-value.result (search rules) in
    let start : c.set.new.self.present ≡ with_scalar c.loop-k.run.scalars.present c.args.region.now.name (variable c.args.low c.args.region.now.step c.loop-k.k) =
    c.set.ensures.present ∙ ap (with_scalar c.loop-k.run.scalars.present c.args.region.now.name) (value ∙ simp low at c.value_in_turn-value.ensures) in
    simp low (turn_passes _ _ _ _ _ _ c.loop-k.k c.loop-k-test.true _ (simp low at c.loop-k.invariant) c.set.new.self start _ (rw c.as_slice.ensures at c.in_ok-run_items.ensures))

pub returns : goal.returns
returns c =
    let low : to_z w64 (of_z w64 c.args.low) ≡ c.args.low = to_z-of_z w64 c.args.low c.ranges.low in
    region_ends _ _ _ _ _ _ c.loop-k.k _ (omega arith) (simp low at c.loop-k.invariant)
