use Rattle.std.proofs.Common.{◌≡◌, ◌∷◌, sym, ap, ◌∙◌, SFits, w64, rules}
use Rattle.std.proofs.lemmas.Int.{to_z-of_z}
use Rattle.task_frame.specs.declared.piece.Piece.{Piece}
use Rattle.sched_cursor.specs.declared.event.Iteration.{Iteration}
use Rattle.domore_machine.specs.Machine.{Seat, Ticket, Holding}
use Rattle.nest_setup.specs.Pieces.{opening_piece}
use Rattle.domore_core.specs.Tickets.{ticket_of, tickets_of}
use Rattle.domore_core.proofs.Queues.{first_is, rest_is}
use Rattle.domore_core.proofs.seat.Seat.take.Goals as goal

pub returns-in-Some : goal.returns-in-Some
returns-in-Some c = λ t queue is.
    let raw = c.self.inside.queue.items in
    let code = c.args.code.now in
    let all : tickets_of raw ≡ t ∷ queue = ap (λ (s : Seat Iteration Piece). s.queue) c.self.view_is ∙ is in
    let first : ticket_of c.in-Some.ticket ≡ t = first_is raw c.in-Some.ticket t queue (sym c.in-Some.is ∙ c.take.ensures.first) all in
    let rest : tickets_of c.take.new.self.items ≡ queue = ap (λ b. tickets_of b.items) c.take.ensures.left ∙ rest_is raw t queue all in
    let number : c.in-Some.ticket.number ≡ t.number = ap (λ (x : Ticket Iteration). x.number) first in
    let waits : c.listed_waits.result.items ≡ t.waits = c.listed_waits.ensures ∙ ap (λ (x : Ticket Iteration). x.waits) first in
    let fits : SFits w64 c.in-Some.ticket.value = search rules in
    let piece : c.first_piece.result ≡ opening_piece code t.body = c.first_piece.ensures ∙ ap (λ v. opening_piece code (record (ticket_of c.in-Some.ticket).body { value = v })) (to_z-of_z w64 c.in-Some.ticket.value fits) ∙ ap (λ (x : Ticket Iteration). opening_piece code x.body) first in
    let done : c.self.inside.done ≡ c.args.self.now.done = ap (λ (s : Seat Iteration Piece). s.done) c.self.view_is in
    λ i. record { hand = Holding (number i) (waits i) (piece i); queue = rest i; done = done i }
