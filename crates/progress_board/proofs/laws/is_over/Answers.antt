use Rattle.std.proofs.Common.{Some}
use Rattle.progress_board.specs.Actors.{actors_of}
use Rattle.progress_board.proofs.Runs.{run_behind}
use Rattle.progress_board.proofs.Legal.{legal_opening, legal_run, stops, no_more}
use Rattle.progress_board.proofs.laws.is_over.Goals as goal

pub returns : goal.returns
returns g c = λ job options first last history more runs allowed opened complete ran.
    let m = g.M.Machine in
    let met = g.met.M.Machine g.world.𝓛 g.world.𝓜 g.world.𝓡 ((λ s x. x), (λ x. x), (λ x. x), λ x. x) in
    let start = legal_opening m.job_of m.options_of m.opens m.step job options first opened (met.opens_job job options first opened) (met.opens_options job options first opened) runs allowed in
    let end = complete.last in
    let legal = legal_run m.job_of m.options_of m.opens m.step met.keeps_job met.keeps_options first end history start complete.ran in
    let over = (met.finishes end legal).0 complete.finished in
    let stopped = stops m.step m.asked end (actors_of (m.options_of end)) (met.readies end) (λ a past. met.actors end a legal past) over in
    no_more m.step end last more stopped (run_behind m.step first end history more (Some last) complete.ran ran)
