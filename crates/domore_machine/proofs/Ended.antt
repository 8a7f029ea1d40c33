-- Actors whose parts are ended.
use Rattle.std.proofs.Common.{◌≡◌, ℕ, suc, ◌+◌, ◌%◌, ◌<◌, Bool, true, false, if◌then◌else◌, ◌==◌, Some, None, List, [], ◌∷◌, length, nat_lt, slice_set, refl, sym, ap, ◌∙◌, subst, arith}
use Rattle.std.proofs.lemmas.Bool.{true≢false, and_parts, and_from, lt-ltb, le-ltb, eq-eqb, ltb-true}
use Rattle.std.proofs.lemmas.Nat.{mod_below}
use Rattle.std.specs.Option.{option_map}
use Rattle.std.specs.List.{list_all}
use Rattle.domore_machine.specs.Machine.{Setup, State, Seat, Hand, Idle, Holding, Ended, Ticket, Move, DoScalar, DoClose, DoDrain, DoDispatch, DoHalt, DoTake, DoPass, DoRead, DoWrite, DoGo, DoFinish, DoTrap, DoDropHeld, DoDropQueued, DoEnd, seat_at, is_ended, going_move, worker_move, move_of, seat_with, ticket_of, seat_after, state_after, ended_actor}
use Rattle.domore_machine.specs.Runs.{is_finished}
use Rattle.domore_machine.specs.Theorems.{EndedHaveNoStep, EndedStay, FinishedIsAllEnded}
use Rattle.domore_machine.specs.Invariant.{AllTickets}
use Rattle.domore_machine.proofs.Guards.{Guard, IsStep, step_is}
use Rattle.domore_machine.proofs.Seats.{each_set}
use Rattle.domore_machine.proofs.Tickets.{inside}
use Rattle.domore_machine.proofs.Finished.{all_at}
use Rattle.domore_machine.proofs.Runs.{invariant_holds}

module _ {B C P : Type 0} (m : Setup B C P) (s : State B C P) where
  ended_still : (hand : Hand P) (queue : List (Ticket B)) → is_ended hand ≡ true → worker_move m s hand queue ≡ None
  ended_still Idle queue gone = absurd (true≢false (sym gone))
  ended_still (Holding k left piece) queue gone = absurd (true≢false (sym gone))
  ended_still Ended queue gone = refl

  no_move : (actor : ℕ) → ended_actor m s actor ≡ true → move_of m s actor ≡ None
  no_move actor ended = go (nat_lt actor m.width) (actor == m.width) s.halted refl ended
    where
      go : (worker scheduler over : Bool) → s.halted ≡ over → (if worker then is_ended (seat_at s.seats actor).hand else if scheduler then over else true) ≡ true → (if worker then worker_move m s (seat_at s.seats actor).hand (seat_at s.seats actor).queue else if scheduler then (if over then None else going_move m s s.trap) else None) ≡ None
      go true scheduler over is ended = ended_still (seat_at s.seats actor).hand (seat_at s.seats actor).queue ended
      go false true true is ended = refl
      go false true false is ended = absurd (true≢false (sym ended))
      go false false over is ended = refl

-- all seats are gone
ended_are_over : {B P : Type 0} (seats : List (Seat B P)) → ((u : ℕ) → u < length seats → is_ended (seat_at seats u).hand ≡ true) → list_all (λ (x : Seat B P). is_ended x.hand) seats ≡ true
ended_are_over [] all = refl
ended_are_over (x ∷ seats) all = and_from (is_ended x.hand) (list_all (λ (y : Seat _ _). is_ended y.hand) seats) (all 0 (omega arith)) (ended_are_over seats (λ u lt. all (suc u) (omega arith)))

module _ {B C P : Type 0} (m : Setup B C P) (s : State B C P) (tickets : AllTickets m s) where
  abbrev pub seat : ℕ → Seat B P
  seat u = seat_at s.seats u

  -- a gone hand stays gone
  set_kept : (u : ℕ) (x : Seat B P) → u < m.width → (is_ended (seat u).hand ≡ true → is_ended x.hand ≡ true) → (v : ℕ) → is_ended (seat v).hand ≡ true → is_ended (seat_at (slice_set s.seats u x) v).hand ≡ true
  set_kept u x own new v = each_set (λ w y. is_ended (seat w).hand ≡ true → is_ended y.hand ≡ true) s.seats u x (inside m s tickets u own) new (λ w other gone. gone) v

  idle_kept : (u : ℕ) (x : Seat B P) → u < m.width → (seat u).hand ≡ Idle → (v : ℕ) → is_ended (seat v).hand ≡ true → is_ended (seat_at (slice_set s.seats u x) v).hand ≡ true
  idle_kept u x own h v = set_kept u x own (λ gone. absurd (true≢false (sym gone ∙ ap is_ended h))) v

  held_kept : (u k : ℕ) (left : _) (piece : P) (x : Seat B P) → u < m.width → (seat u).hand ≡ Holding k left piece → (v : ℕ) → is_ended (seat v).hand ≡ true → is_ended (seat_at (slice_set s.seats u x) v).hand ≡ true
  held_kept u k left piece x own h v = set_kept u x own (λ gone. absurd (true≢false (sym gone ∙ ap is_ended h))) v

  ended_keep : (u : ℕ) (move : Move B C P) → 0 < m.width → Guard m s u move → (v : ℕ) → is_ended (seat v).hand ≡ true → is_ended (seat_at (state_after m s u move).seats v).hand ≡ true
  ended_keep u (DoScalar purpose None rest) some g v gone = gone
  ended_keep u (DoScalar purpose (Some trap) rest) some g v gone = gone
  ended_keep u (DoClose rest) some g v gone = gone
  ended_keep u (DoDrain purpose None rest) some g v gone = gone
  ended_keep u (DoDrain purpose (Some trap) rest) some g v gone = gone
  ended_keep u (DoDispatch b rest) some g v gone = set_kept (s.next % m.width) (seat_with (seat (s.next % m.width)) (ticket_of m s b)) (mod_below s.next m.width some) (λ old. old) v gone
  ended_keep u DoHalt some g v gone = gone
  ended_keep u (DoTake ticket queue) some (idle, below) v gone = idle_kept u (seat_after m s.words (seat u) (DoTake ticket queue)) idle.own idle.hand v gone
  ended_keep u (DoPass k w left piece) some (h, over) v gone = held_kept u k (w ∷ left) piece (seat_after m s.words (seat u) (DoPass k w left piece)) h.own h.hand v gone
  ended_keep u (DoRead k w next) some (piece, h, stop) v gone = held_kept u k [] piece (seat_after m s.words (seat u) (DoRead k w next)) h.own h.hand v gone
  ended_keep u (DoWrite k w value next) some (piece, h, stop) v gone = held_kept u k [] piece (seat_after m s.words (seat u) (DoWrite k w value next)) h.own h.hand v gone
  ended_keep u (DoGo k next) some (piece, h, stop) v gone = held_kept u k [] piece (seat_after m s.words (seat u) (DoGo k next)) h.own h.hand v gone
  ended_keep u (DoFinish k) some (piece, h, stop) v gone = held_kept u k [] piece (seat_after m s.words (seat u) (DoFinish k)) h.own h.hand v gone
  ended_keep u (DoTrap k cause line) some (piece, h, stop) v gone = held_kept u k [] piece (seat_after m s.words (seat u) (DoTrap k cause line)) h.own h.hand v gone
  ended_keep u (DoDropHeld k) some (left, piece, own, h, above) v gone = held_kept u k left piece (seat_after m s.words (seat u) (DoDropHeld k)) own h v gone
  ended_keep u (DoDropQueued ticket queue) some (idle, above) v gone = idle_kept u (seat_after m s.words (seat u) (DoDropQueued ticket queue)) idle.own idle.hand v gone
  ended_keep u DoEnd some (idle, over) v gone = idle_kept u (seat_after m s.words (seat u) DoEnd) idle.own idle.hand v gone

  over_kept : (u : ℕ) (move : Move B C P) → s.halted ≡ true → (state_after m s u move).halted ≡ true
  over_kept u (DoScalar purpose None rest) over = over
  over_kept u (DoScalar purpose (Some trap) rest) over = over
  over_kept u (DoClose rest) over = over
  over_kept u (DoDrain purpose None rest) over = over
  over_kept u (DoDrain purpose (Some trap) rest) over = over
  over_kept u (DoDispatch b rest) over = over
  over_kept u DoHalt over = refl
  over_kept u (DoTake ticket queue) over = over
  over_kept u (DoPass k w left piece) over = over
  over_kept u (DoRead k w next) over = over
  over_kept u (DoWrite k w value next) over = over
  over_kept u (DoGo k next) over = over
  over_kept u (DoFinish k) over = over
  over_kept u (DoTrap k cause line) over = over
  over_kept u (DoDropHeld k) over = over
  over_kept u (DoDropQueued ticket queue) over = over
  over_kept u DoEnd over = over

  ended_kept : (t : State B C P) (actor : ℕ) → ((v : ℕ) → is_ended (seat v).hand ≡ true → is_ended (seat_at t.seats v).hand ≡ true) → (s.halted ≡ true → t.halted ≡ true) → ended_actor m s actor ≡ true → ended_actor m t actor ≡ true
  ended_kept t actor gone over ended = go (nat_lt actor m.width) (actor == m.width) ended
    where
      go : (worker scheduler : Bool) → (if worker then is_ended (seat actor).hand else if scheduler then s.halted else true) ≡ true → (if worker then is_ended (seat_at t.seats actor).hand else if scheduler then t.halted else true) ≡ true
      go true scheduler ended = gone actor ended
      go false true ended = over ended
      go false false ended = refl

  all_ended : is_finished m s ≡ true → (actor : ℕ) → ended_actor m s actor ≡ true
  all_ended finished actor = go (nat_lt actor m.width) (actor == m.width) refl
    where
      go : (worker scheduler : Bool) → nat_lt actor m.width ≡ worker → (if worker then is_ended (seat actor).hand else if scheduler then s.halted else true) ≡ true
      go true scheduler is = ap is_ended (all_at s.seats actor (and_parts _ _ finished).1 (inside m s tickets actor (ltb-true _ _ is)))
      go false true is = (and_parts _ _ finished).0
      go false false is = refl

  finished_from : ((actor : ℕ) → actor < m.width + 2 → ended_actor m s actor ≡ true) → is_finished m s ≡ true
  finished_from all = and_from s.halted (list_all (λ (x : Seat B P). is_ended x.hand) s.seats)
      (scheduler (all m.width (omega arith)))
      (ended_are_over s.seats (λ u lt. let own : u < m.width = omega (arith, tickets.width) in worker u own (all u (omega arith))))
    where
      scheduler : ended_actor m s m.width ≡ true → s.halted ≡ true
      scheduler ended = rw (le-ltb m.width m.width (omega arith), eq-eqb m.width m.width refl) at ended

      worker : (u : ℕ) → u < m.width → ended_actor m s u ≡ true → is_ended (seat u).hand ≡ true
      worker u own ended = rw (lt-ltb u m.width own) at ended

pub no_step : (B C P : Type 0) → EndedHaveNoStep B C P
no_step B C P m s actor ended = ap (option_map (state_after m s actor)) (no_move m s actor ended)

pub stay : (B C P : Type 0) → EndedStay B C P
stay B C P m nest what start setup history s t actor other leads ended e = go (step_is m s other t e)
  where
    go : IsStep m s other t → ended_actor m t actor ≡ true
    go is = let i = invariant_holds m nest what start setup history s leads in
        ended_kept m s i.tickets t actor
        (λ v gone. subst (λ x. is_ended (seat_at x.seats v).hand ≡ true) (sym is.behind) (ended_keep m s i.tickets other is.move setup.some_worker is.guard v gone))
        (λ over. subst (λ x. x.halted ≡ true) (sym is.behind) (over_kept m s i.tickets other is.move over))
        ended

pub finishes : (B C P : Type 0) → FinishedIsAllEnded B C P
finishes B C P m nest what start setup history s leads = let i = invariant_holds m nest what start setup history s leads in
    ((λ finished actor lt. all_ended m s i.tickets finished actor), finished_from m s i.tickets)
