use Rattle.std.proofs.Common.{◌≡◌, ap, ◌∙◌, subst}
use Rattle.progress_board.specs.Actors.{actors_of, SomeEnabled}
use Rattle.progress_board.specs.Runs.{IsLegal}
use Rattle.progress_board.proofs.Legal.{legal_opening, legal_step, stops}
use Rattle.progress_board.proofs.Measures.{rotation_is_complete}
use Rattle.progress_board.proofs.laws.rotation_completes.Goals as goal

pub returns : goal.returns
returns g c = λ job options first schedule runs allowed opened.
    let m = g.M.Machine in
    let met = g.met.M.Machine g.world.𝓛 g.world.𝓜 g.world.𝓡 ((λ s x. x), (λ x. x), (λ x. x), λ x. x) in
    let same = met.opens_options job options first opened in
    let start = legal_opening m.job_of m.options_of m.opens m.step job options first opened (met.opens_job job options first opened) same runs allowed in
    rotation_is_complete m.step (λ s. IsLegal m.job_of m.options_of m.opens m.step s × (m.options_of s ≡ options))
    (λ s t a kept e. (legal_step m.job_of m.options_of m.opens m.step met.keeps_job met.keeps_options s t a kept.0 e, met.keeps_options s t a e ∙ kept.1))
    m.measure (λ s t a kept e. met.falls s t a kept.0 e) (actors_of options) m.is_finished
    (λ s kept unfinished. subst (SomeEnabled m.step s) (ap actors_of kept.1) (met.progress s kept.0 unfinished))
    (λ s kept over. stops m.step m.asked s (actors_of (m.options_of s)) (met.readies s) (λ a past. met.actors s a kept.0 past) ((met.finishes s kept.0).0 over))
    first schedule (start, same)
