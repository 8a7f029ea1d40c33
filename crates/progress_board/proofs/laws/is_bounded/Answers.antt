use Rattle.std.proofs.Common.{arith, ◌+◌, ◌≤◌, length}
use Rattle.progress_board.specs.Runs.{IsLegal}
use Rattle.progress_board.proofs.Legal.{legal_opening, legal_step}
use Rattle.progress_board.proofs.Measures.{run_le}
use Rattle.progress_board.proofs.laws.is_bounded.Goals as goal

pub returns : goal.returns
returns g c = λ job options first last history runs allowed opened ran.
    let m = g.M.Machine in
    let met = g.met.M.Machine g.world.𝓛 g.world.𝓜 g.world.𝓡 ((λ s x. x), (λ x. x), (λ x. x), λ x. x) in
    let start = legal_opening m.job_of m.options_of m.opens m.step job options first opened (met.opens_job job options first opened) (met.opens_options job options first opened) runs allowed in
    let most : length history + m.measure last ≤ m.measure first =
    run_le m.step (IsLegal m.job_of m.options_of m.opens m.step)
    (legal_step m.job_of m.options_of m.opens m.step met.keeps_job met.keeps_options)
    m.measure met.falls first last history start ran in
    omega arith
