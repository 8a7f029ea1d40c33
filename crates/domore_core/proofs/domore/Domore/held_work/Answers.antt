use Rattle.std.proofs.Common.{◌≡◌, sym, ap, ◌∙◌}
use Rattle.task_frame.specs.declared.piece.Piece.{Piece}
use Rattle.progress_board.specs.declared.actors.Ask.TheVariants.{Ready}
use Rattle.progress_board.specs.declared.actors.Work.TheVariants as work
use Rattle.domore_machine.specs.Machine.{seat_at}
use Rattle.domore_core.specs.Engine.{Engine}
use Rattle.domore_core.proofs.Asking.{asks_hop}
use Rattle.domore_core.proofs.domore.Domore.held_work.Goals as goal

pub returns-in-Some : goal.returns-in-Some
returns-in-Some c =
    let u = c.args.actor in
    let there = asks_hop c.args.self.now u c.requires in
    let is = c.in-Some.ensures there.number _ there.piece (ap (λ (f : Engine). (seat_at f.state.seats u).hand) c.self.view_is ∙ there.hand) in
    let same : c.in-Some.piece ≡ there.piece = cc in
    ap (λ (p : Piece). Ready (work.Hop p)) same ∙ sym there.asks
