use Rattle.std.proofs.lemmas.Result.{err_from_is_err_and}
use Rattle.std.proofs.Common.{◌≡◌, ℕ, ◌++◌, subst}
use Rattle.progress_board.specs.Runs.{IsLegal}
use Rattle.progress_board.specs.Rotation.{rotation}
use Rattle.progress_board.proofs.Runs.{agrees_more}
use Rattle.progress_board.proofs.Rotation.{agrees, stops_agrees, stops_more, stops_in_rounds}
use Rattle.progress_board.proofs.Measures.{agrees_le, goes_falls}
use Rattle.progress_board.proofs.Legal.{legal_step}
use Rattle.lone_crew.proofs.Making.{rotates_behind, rotates_agrees}
use Rattle.lone_crew.proofs.lone.lone_run.Goals as goal

pub returns-in_err-follow-clause-bound : goal.returns-in_err-follow-clause-bound
returns-in_err-follow-clause-bound g c =
    let m = g.M.Machine in
    let met = g.met.M.Machine g.world.𝓛 g.world.𝓜 g.world.𝓡 ((λ s x. x), (λ x. x), (λ x. x), λ x. x) in
    let kept = legal_step m.job_of m.options_of m.opens m.step met.keeps_job met.keeps_options in
    agrees_le m.step (IsLegal m.job_of m.options_of m.opens m.step) kept m.measure met.falls _ _ _ _ c.count_actors-actors.ensures.legal (stops_agrees m.step _ _ _ _ _ c.in_err-follow.ensures.stopped)

pub returns-in_err-follow-clause-agrees : goal.returns-in_err-follow-clause-agrees
returns-in_err-follow-clause-agrees g c = stops_agrees g.M.Machine.step _ _ _ _ _ c.in_err-follow.ensures.stopped

pub returns-in_err-follow-clause-stopped : goal.returns-in_err-follow-clause-stopped
returns-in_err-follow-clause-stopped g c =
    let p = err_from_is_err_and c.from_residual.result c.from_residual.ensures.1 in
    rw p.1 (stops_more g.M.Machine.step _ _ _ _ _ _ c.in_err-follow.ensures.stopped)

pub returns-in_err-rotate-clause-bound : goal.returns-in_err-rotate-clause-bound
returns-in_err-rotate-clause-bound g c =
    let m = g.M.Machine in
    let met = g.met.M.Machine g.world.𝓛 g.world.𝓜 g.world.𝓡 ((λ s x. x), (λ x. x), (λ x. x), λ x. x) in
    let kept = legal_step m.job_of m.options_of m.opens m.step met.keeps_job met.keeps_options in
    let made = agrees_more m.step _ _ _ _ _ _ (agrees m.step _ _ _ _ _ c.in_ok-follow.ensures.goes) (stops_agrees m.step _ _ _ _ _ c.in_err-rotate.ensures.stopped) in
    agrees_le m.step (IsLegal m.job_of m.options_of m.opens m.step) kept m.measure met.falls _ _ _ _ c.count_actors-actors.ensures.legal made

pub returns-in_err-rotate-clause-agrees : goal.returns-in_err-rotate-clause-agrees
returns-in_err-rotate-clause-agrees g c =
    let step = g.M.Machine.step in
    agrees_more step _ _ _ _ _ _ (agrees step _ _ _ _ _ c.in_ok-follow.ensures.goes) (stops_agrees step _ _ _ _ _ c.in_err-rotate.ensures.stopped)

pub returns-in_err-rotate-clause-stopped : goal.returns-in_err-rotate-clause-stopped
returns-in_err-rotate-clause-stopped g c =
    let m = g.M.Machine in
    let met = g.met.M.Machine g.world.𝓛 g.world.𝓜 g.world.𝓡 ((λ s x. x), (λ x. x), (λ x. x), λ x. x) in
    let kept = legal_step m.job_of m.options_of m.opens m.step met.keeps_job met.keeps_options in
    let less = goes_falls m.step (IsLegal m.job_of m.options_of m.opens m.step) kept m.measure met.falls _ _ _ _ _ c.count_actors-actors.ensures.legal c.in_ok-follow.ensures.goes in
    let p = err_from_is_err_and c.from_residual-in_err-rotate.result c.from_residual-in_err-rotate.ensures.1 in
    let stopped = stops_in_rounds m.step _ _ _ c.count_actors-actors.result _ (m.measure c.args.machine.now) _ _ _ c.args.schedule.now c.in_ok-follow.ensures.goes c.in_err-rotate.ensures.stopped less in
    rw (p.1, ← c.count_actors-actors.ensures.count) stopped

pub returns-clause-rotation : goal.returns-clause-rotation
returns-clause-rotation g c =
    let m = g.M.Machine in
    let met = g.met.M.Machine g.world.𝓛 g.world.𝓜 g.world.𝓡 ((λ s x. x), (λ x. x), (λ x. x), λ x. x) in
    let kept = legal_step m.job_of m.options_of m.opens m.step met.keeps_job met.keeps_options in
    let less = goes_falls m.step (IsLegal m.job_of m.options_of m.opens m.step) kept m.measure met.falls _ _ _ _ _ c.count_actors-actors.ensures.legal c.in_ok-follow.ensures.goes in
    let made = rotates_behind m.step m.measure _ _ _ c.count_actors-actors.result _ c.args.schedule.now _ _ c.in_ok-follow.ensures.goes c.in_ok-rotate.ensures.rotates less in
    subst (λ (n : ℕ). c.rotate.new.history.items ≡ c.args.history.now.items ++ rotation m.step m.measure c.args.machine.now n c.args.schedule.now) c.count_actors-actors.ensures.count made

pub returns-clause-agrees : goal.returns-clause-agrees
returns-clause-agrees g c = rotates_agrees g.M.Machine.step g.M.Machine.measure _ _ _ _ _ _ _ _ c.in_ok-follow.ensures.goes c.in_ok-rotate.ensures.rotates

pub returns-clause-bound : goal.returns-clause-bound
returns-clause-bound g c =
    let m = g.M.Machine in
    let met = g.met.M.Machine g.world.𝓛 g.world.𝓜 g.world.𝓡 ((λ s x. x), (λ x. x), (λ x. x), λ x. x) in
    let kept = legal_step m.job_of m.options_of m.opens m.step met.keeps_job met.keeps_options in
    agrees_le m.step (IsLegal m.job_of m.options_of m.opens m.step) kept m.measure met.falls _ _ _ _ c.count_actors-actors.ensures.legal
    (rotates_agrees m.step m.measure _ _ _ _ _ _ _ _ c.in_ok-follow.ensures.goes c.in_ok-rotate.ensures.rotates)
