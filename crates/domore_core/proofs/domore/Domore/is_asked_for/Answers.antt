use Rattle.std.proofs.Common.{◌≡◌, Some, sym, ap, ◌∙◌}
use Rattle.progress_board.specs.declared.actors.Ask.TheVariants.{Ready}
use Rattle.progress_board.specs.declared.actors.Work.TheVariants as work
use Rattle.domore_machine.specs.Machine.{seat_at}
use Rattle.domore_core.specs.Engine.{Engine}
use Rattle.domore_core.proofs.Asking.{asks_hop, not_piece, not_none}
use Rattle.domore_core.proofs.domore.Domore.is_asked_for.Goals as goal

pub returns-in-Some-Hop : goal.returns-in-Some-Hop
returns-in-Some-Hop c =
    let e = c.args.self.now in
    let u = c.args.actor in
    let there = asks_hop e u (sym c.in-Some-Hop.ensures ∙ ap Some c.in-Some-Hop.field-0-is) in
    let both = c.is_at.ensures there.number _ there.piece (ap (λ (f : Engine). (seat_at f.state.seats u).hand) c.self.view_is ∙ there.hand) in
    ((λ yes. there.asks ∙ ap (λ p. Ready (work.Hop p)) (both.0 yes)), λ asks. both.1 (let same : Ready (work.Hop there.piece) ≡ Ready (work.Hop c.args.piece.now) = sym there.asks ∙ asks in cc))
