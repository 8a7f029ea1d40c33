use Rattle.std.proofs.Common.{rules, ◌≡◌, to_z, of_z, w64, ap, ◌∙◌}
use Rattle.std.proofs.lemmas.Int.{to_z-of_z}
use Rattle.std.proofs.lemmas.Result.{err_from_is_err_and}
use Rattle.nest_syntax.specs.Words.{variable}
use Rattle.nest_syntax.specs.Value.{with_scalar}
use Rattle.nest_mean.proofs.Rounds.{iterations_begin, iteration_runs, iteration_stops, iterations_end, iteration_ready}
use Rattle.nest_mean.proofs.iterations.run_iterations.Goals as goal

pub loop-k-init : goal.loop-k-init
loop-k-init c = iterations_begin _ _ _ _ _ _ c.put_aside.ensures.present c.put_aside.ensures.saved

pub run_iteration-requires-clause-ready : goal.run_iteration-requires-clause-ready
run_iteration-requires-clause-ready c = iteration_ready _ _ _ _ _ c.loop-k.k c.loop-k-test.true _ c.loop-k.invariant _ c.requires.ready _

pub returns-in_err-run_iteration : goal.returns-in_err-run_iteration
returns-in_err-run_iteration c =
    let p = err_from_is_err_and c.from_residual.result c.from_residual.ensures.1 in
    let low : to_z w64 (of_z w64 c.args.low) ≡ c.args.low = to_z-of_z w64 c.args.low c.ranges.low in
    let value : to_z w64 (of_z w64 c.value_in_turn-value.result) ≡ c.value_in_turn-value.result = to_z-of_z w64 c.value_in_turn-value.result (search rules) in
    let start : c.set.new.self.present ≡ with_scalar c.loop-k.run.scalars.present c.args.invoked.now.name (variable c.args.low c.args.invoked.now.step c.loop-k.k) =
    c.set.ensures.present ∙ ap (with_scalar c.loop-k.run.scalars.present c.args.invoked.now.name) (value ∙ simp low at c.value_in_turn-value.ensures) in
    rw (p.1, p.2) (iteration_stops _ _ _ _ _ c.loop-k.k c.loop-k-test.true _ (simp low at c.loop-k.invariant) c.set.new.self start _ _ (rw c.as_slice-in-loop-k.ensures at c.in_err-run_iteration.ensures))

pub loop-k-preserved : goal.loop-k-preserved
loop-k-preserved c =
    let low : to_z w64 (of_z w64 c.args.low) ≡ c.args.low = to_z-of_z w64 c.args.low c.ranges.low in
    let value : to_z w64 (of_z w64 c.value_in_turn-value.result) ≡ c.value_in_turn-value.result = to_z-of_z w64 c.value_in_turn-value.result (search rules) in
    let start : c.set.new.self.present ≡ with_scalar c.loop-k.run.scalars.present c.args.invoked.now.name (variable c.args.low c.args.invoked.now.step c.loop-k.k) =
    c.set.ensures.present ∙ ap (with_scalar c.loop-k.run.scalars.present c.args.invoked.now.name) (value ∙ simp low at c.value_in_turn-value.ensures) in
    simp low
    (iteration_runs _ _ _ _ _ c.loop-k.k c.loop-k-test.true _ (simp low at c.loop-k.invariant) c.set.new.self start _ c.set.ensures.aside (rw c.as_slice-in-loop-k.ensures at c.in_ok-run_iteration.ensures) _ c.put_back.ensures.present c.put_back.ensures.aside)

pub returns : goal.returns
returns c =
    let low : to_z w64 (of_z w64 c.args.low) ≡ c.args.low = to_z-of_z w64 c.args.low c.ranges.low in
    iterations_end _ _ _ _ _ c.loop-k.k _ c.loop-k-test.false c.loop-k.auto.k-end (simp low at c.loop-k.invariant)
