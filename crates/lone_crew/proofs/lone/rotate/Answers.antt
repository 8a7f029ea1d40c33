use Rattle.std.proofs.lemmas.Result.{err_from_is_err_and}
use Rattle.std.proofs.Common.{◌≡◌, ℕ, ◌+◌, ◌<◌, ◌≤◌, [], suc, refl, ap, ◌∙◌, sym, subst, arith}
use Rattle.progress_board.specs.Actors.{actors_of, SomeEnabled}
use Rattle.progress_board.specs.Runs.{IsLegal}
use Rattle.progress_board.proofs.Rotation.{goes_nowhere, goes_round, stops_in_round}
use Rattle.progress_board.proofs.Measures.{round_goes_falls, some_left}
use Rattle.progress_board.proofs.Legal.{legal_step, stops}
use Rattle.lone_crew.proofs.lone.rotate.Goals as goal

pub rounds-init : goal.rounds-init
rounds-init g c = record {
  count = 0;
  goes = goes_nowhere g.M.Machine.step c.args.machine.now c.args.history.now.items;
  few = omega arith;
  kept = refl;
  capacity = omega arith;
}

pub rounds-smaller : goal.rounds-smaller
rounds-smaller g c =
    let m = g.M.Machine in
    let met = g.met.M.Machine g.world.𝓛 g.world.𝓜 g.world.𝓡 ((λ s x. x), (λ x. x), (λ x. x), λ x. x) in
    let kept = legal_step m.job_of m.options_of m.opens m.step met.keeps_job met.keeps_options in
    let count : actors_of (m.options_of c.rounds.machine) ≡ c.args.actors = ap actors_of c.rounds.invariant.kept ∙ sym c.requires in
    let some = subst (λ (n : ℕ). SomeEnabled m.step c.rounds.machine n) count (met.progress _ c.rounds-test.ensures.legal (sym c.rounds-test.ensures.says)) in
    let fell : m.measure c.round.new.machine + 1 ≤ m.measure c.rounds.machine =
    round_goes_falls m.step (IsLegal m.job_of m.options_of m.opens m.step) kept m.measure met.falls _ _ _ _ _ c.rounds-test.ensures.legal some c.in_ok-round.ensures.goes in
    omega arith

pub rounds-preserved : goal.rounds-preserved
rounds-preserved g c =
    let m = g.M.Machine in
    let met = g.met.M.Machine g.world.𝓛 g.world.𝓜 g.world.𝓡 ((λ s x. x), (λ x. x), (λ x. x), λ x. x) in
    let kept = legal_step m.job_of m.options_of m.opens m.step met.keeps_job met.keeps_options in
    let so_far = c.rounds.invariant in
    let count : actors_of (m.options_of c.rounds.machine) ≡ c.args.actors = ap actors_of so_far.kept ∙ sym c.requires in
    let some = subst (λ (n : ℕ). SomeEnabled m.step c.rounds.machine n) count (met.progress _ c.rounds-test.ensures.legal (sym c.rounds-test.ensures.says)) in
    let fell : m.measure c.round.new.machine + 1 ≤ m.measure c.rounds.machine =
    round_goes_falls m.step (IsLegal m.job_of m.options_of m.opens m.step) kept m.measure met.falls _ _ _ _ _ c.rounds-test.ensures.legal some c.in_ok-round.ensures.goes in
    record {
      count = suc so_far.count;
      goes = goes_round m.step _ _ _ c.args.actors so_far.count _ _ _ [] so_far.goes c.in_ok-round.ensures.goes;
      few = omega arith;
      kept = c.in_ok-round.ensures.kept ∙ so_far.kept;
      capacity = omega arith;
    }

pub returns-in_err-round-clause-stopped : goal.returns-in_err-round-clause-stopped
returns-in_err-round-clause-stopped g c =
    let m = g.M.Machine in
    let met = g.met.M.Machine g.world.𝓛 g.world.𝓜 g.world.𝓡 ((λ s x. x), (λ x. x), (λ x. x), λ x. x) in
    let kept = legal_step m.job_of m.options_of m.opens m.step met.keeps_job met.keeps_options in
    let so_far = c.rounds.invariant in
    let left : 0 < m.measure c.rounds.machine =
    some_left m.step (IsLegal m.job_of m.options_of m.opens m.step) kept m.measure met.falls _ _ c.rounds-test.ensures.legal (met.progress _ c.rounds-test.ensures.legal (sym c.rounds-test.ensures.says)) in
    let p = err_from_is_err_and c.from_residual.result c.from_residual.ensures.1 in
    rw p.1 (stops_in_round m.step _ _ _ c.args.actors so_far.count (m.measure c.args.machine.now) _ _ _ [] so_far.goes c.in_err-round.ensures.stopped (omega (arith, so_far.few)))

pub returns-clause-rotates : goal.returns-clause-rotates
returns-clause-rotates g c =
    let m = g.M.Machine in
    let met = g.met.M.Machine g.world.𝓛 g.world.𝓜 g.world.𝓡 ((λ s x. x), (λ x. x), (λ x. x), λ x. x) in
    let last = c.rounds.machine in
    let legal = c.rounds-test.ensures.legal in
    let over = (met.finishes last legal).0 (sym c.rounds-test.ensures.says) in
    record {
      count = c.rounds.invariant.count;
      goes = c.rounds.invariant.goes;
      few = omega (arith, c.rounds.invariant.few);
      stopped = stops m.step m.asked last (actors_of (m.options_of last)) (met.readies last) (λ a past. met.actors last a legal past) over;
    }
