use Rattle.std.proofs.lemmas.Result.{err_from_is_err_and}
use Rattle.std.proofs.Common.{◌≡◌, ℕ, ◌++◌, subst}
use Rattle.progress_board.specs.Runs.{IsLegal}
use Rattle.progress_board.specs.Rotation.{rotation}
use Rattle.progress_board.proofs.Runs.{agrees_more}
use Rattle.progress_board.proofs.Rotation.{agrees, stops_agrees, stops_in_rounds}
use Rattle.progress_board.proofs.Measures.{agrees_le, goes_falls}
use Rattle.progress_board.proofs.Legal.{legal_step}
use Rattle.lone_crew.proofs.Making.{taken_all, makes_goes, rotates_behind, rotates_agrees, refused_agrees, refused_more}
use Rattle.lone_crew.proofs.strict.strict_run.Goals as goal

pub returns-in_err-make_steps-clause-agrees : goal.returns-in_err-make_steps-clause-agrees
returns-in_err-make_steps-clause-agrees g c = refused_agrees g.M.Machine.step _ _ _ _ _ _ _ c.in_err-make_steps.ensures.refused

pub returns-in_err-make_steps-clause-refused : goal.returns-in_err-make_steps-clause-refused
returns-in_err-make_steps-clause-refused g c =
    let p = err_from_is_err_and c.from_residual.result c.from_residual.ensures.1 in
    rw (p.1, p.2) (refused_more g.M.Machine.step _ _ _ _ _ _ _ _ c.in_err-make_steps.ensures.refused)

pub returns-in_err-make_steps-clause-bound : goal.returns-in_err-make_steps-clause-bound
returns-in_err-make_steps-clause-bound g c =
    let m = g.M.Machine in
    let met = g.met.M.Machine g.world.𝓛 g.world.𝓜 g.world.𝓡 ((λ s x. x), (λ x. x), (λ x. x), λ x. x) in
    let kept = legal_step m.job_of m.options_of m.opens m.step met.keeps_job met.keeps_options in
    agrees_le m.step (IsLegal m.job_of m.options_of m.opens m.step) kept m.measure met.falls _ _ _ _ c.count_actors-actors.ensures.legal
    (refused_agrees m.step _ _ _ _ _ _ _ c.in_err-make_steps.ensures.refused)

pub returns-in_err-rotate-clause-agrees : goal.returns-in_err-rotate-clause-agrees
returns-in_err-rotate-clause-agrees g c =
    let step = g.M.Machine.step in
    agrees_more step _ _ _ _ _ _ (agrees step _ _ _ _ _ (makes_goes step _ _ _ _ _ c.in_ok-make_steps.ensures.made)) (stops_agrees step _ _ _ _ _ c.in_err-rotate.ensures.stopped)

pub returns-in_err-rotate-clause-refused : goal.returns-in_err-rotate-clause-refused
returns-in_err-rotate-clause-refused g c =
    let m = g.M.Machine in
    let met = g.met.M.Machine g.world.𝓛 g.world.𝓜 g.world.𝓡 ((λ s x. x), (λ x. x), (λ x. x), λ x. x) in
    let kept = legal_step m.job_of m.options_of m.opens m.step met.keeps_job met.keeps_options in
    let goes = makes_goes m.step _ _ _ _ _ c.in_ok-make_steps.ensures.made in
    let less = goes_falls m.step (IsLegal m.job_of m.options_of m.opens m.step) kept m.measure met.falls _ _ _ _ _ c.count_actors-actors.ensures.legal goes in
    let p = err_from_is_err_and c.from_residual-in_err-rotate.result c.from_residual-in_err-rotate.ensures.1 in
    let stopped = stops_in_rounds m.step _ _ _ c.count_actors-actors.result _ (m.measure c.args.machine.now) _ _ _ c.args.steps.now goes c.in_err-rotate.ensures.stopped less in
    rw (p.1, p.2, ← c.count_actors-actors.ensures.count) stopped

pub returns-in_err-rotate-clause-bound : goal.returns-in_err-rotate-clause-bound
returns-in_err-rotate-clause-bound g c =
    let m = g.M.Machine in
    let met = g.met.M.Machine g.world.𝓛 g.world.𝓜 g.world.𝓡 ((λ s x. x), (λ x. x), (λ x. x), λ x. x) in
    let kept = legal_step m.job_of m.options_of m.opens m.step met.keeps_job met.keeps_options in
    let made = agrees_more m.step _ _ _ _ _ _ (agrees m.step _ _ _ _ _ (makes_goes m.step _ _ _ _ _ c.in_ok-make_steps.ensures.made)) (stops_agrees m.step _ _ _ _ _ c.in_err-rotate.ensures.stopped) in
    agrees_le m.step (IsLegal m.job_of m.options_of m.opens m.step) kept m.measure met.falls _ _ _ _ c.count_actors-actors.ensures.legal made

pub returns-clause-enabled : goal.returns-clause-enabled
returns-clause-enabled g c = (taken_all g.M.Machine.step _ _ c.args.steps.now c.in_ok-make_steps.ensures.made.ran).0

pub returns-clause-rotation : goal.returns-clause-rotation
returns-clause-rotation g c =
    let m = g.M.Machine in
    let met = g.met.M.Machine g.world.𝓛 g.world.𝓜 g.world.𝓡 ((λ s x. x), (λ x. x), (λ x. x), λ x. x) in
    let kept = legal_step m.job_of m.options_of m.opens m.step met.keeps_job met.keeps_options in
    let goes = makes_goes m.step _ _ _ _ _ c.in_ok-make_steps.ensures.made in
    let less = goes_falls m.step (IsLegal m.job_of m.options_of m.opens m.step) kept m.measure met.falls _ _ _ _ _ c.count_actors-actors.ensures.legal goes in
    let made = rotates_behind m.step m.measure _ _ _ c.count_actors-actors.result _ c.args.steps.now _ _ goes c.in_ok-rotate.ensures.rotates less in
    subst (λ (n : ℕ). c.rotate.new.history.items ≡ c.args.history.now.items ++ rotation m.step m.measure c.args.machine.now n c.args.steps.now) c.count_actors-actors.ensures.count made

pub returns-clause-agrees : goal.returns-clause-agrees
returns-clause-agrees g c = rotates_agrees g.M.Machine.step g.M.Machine.measure _ _ _ _ _ _ _ _ (makes_goes g.M.Machine.step _ _ _ _ _ c.in_ok-make_steps.ensures.made) c.in_ok-rotate.ensures.rotates

pub returns-clause-bound : goal.returns-clause-bound
returns-clause-bound g c =
    let m = g.M.Machine in
    let met = g.met.M.Machine g.world.𝓛 g.world.𝓜 g.world.𝓡 ((λ s x. x), (λ x. x), (λ x. x), λ x. x) in
    let kept = legal_step m.job_of m.options_of m.opens m.step met.keeps_job met.keeps_options in
    agrees_le m.step (IsLegal m.job_of m.options_of m.opens m.step) kept m.measure met.falls _ _ _ _ c.count_actors-actors.ensures.legal
    (rotates_agrees m.step m.measure _ _ _ _ _ _ _ _ (makes_goes m.step _ _ _ _ _ c.in_ok-make_steps.ensures.made) c.in_ok-rotate.ensures.rotates)
