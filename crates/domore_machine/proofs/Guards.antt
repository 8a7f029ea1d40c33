-- What the move of an actor says of the state in which it is enabled.
use Rattle.std.proofs.Common.{◌≡◌, ℕ, ◌%◌, ◌<◌, ℤ, Bool, true, false, if◌then◌else◌, ◌==◌, Option, Some, None, List, [], ◌∷◌, length, nat_lt, refl, subst}
use Rattle.std.proofs.lemmas.Bool.{ltb-true, eqb-true}
use Rattle.std.specs.Option.{option_map}
use Rattle.nest_syntax.specs.declared.place.Place.{Place}
use Rattle.settle_law.specs.Tasks.{Stop, Loads, Stores, Goes, Finishes, Traps}
use Rattle.settle_law.specs.Courses.{Trap, Event, End, Scalar, Drain, Iterate, Close}
use Rattle.domore_machine.specs.Waits.{Wait}
use Rattle.domore_machine.specs.Machine.{Setup, State, Hand, Idle, Holding, Ended, Ticket, Move, DoScalar, DoClose, DoDrain, DoDispatch, DoHalt, DoTake, DoPass, DoRead, DoWrite, DoGo, DoFinish, DoTrap, DoDropHeld, DoDropQueued, DoEnd, seat_at, done_at, is_above, all_finished, event_move, going_move, scheduler_move, idle_move, stop_move, waiting_move, held_move, worker_move, move_of, state_after, step}

module _ {B C P : Type 0} (m : Setup B C P) (s : State B C P) where
  -- the scheduler may carry out an event
  pub record IsFree (u : ℕ) : Type 0 where
    pub actor : u ≡ m.width
    pub going : s.halted ≡ false
    pub untrapped : s.trap ≡ None

  -- a worker holds an iteration that isn't above the trap
  pub record Holds (u k : ℕ) (left : List Wait) (piece : P) : Type 0 where
    pub own : u < m.width
    pub hand : (seat_at s.seats u).hand ≡ Holding k left piece
    pub below : is_above s.trap k ≡ false

  -- a worker is idle, with these tickets
  pub record IsIdle (u : ℕ) (queue : List (Ticket B)) : Type 0 where
    pub own : u < m.width
    pub hand : (seat_at s.seats u).hand ≡ Idle
    pub queued : (seat_at s.seats u).queue ≡ queue

  abbrev pub Guard : ℕ → Move B C P → Type 0
  Guard u (DoScalar purpose trap rest) = IsFree u × (m.event s.cursor ≡ Scalar purpose trap rest)
  Guard u (DoClose rest) = IsFree u × (m.event s.cursor ≡ Close rest)
  Guard u (DoDrain purpose trap rest) = (traps : List ℤ → Option Trap) × (rests : List ℤ → C) × IsFree u × (m.event s.cursor ≡ Drain purpose traps rests) × (traps s.words ≡ trap) × (rests s.words ≡ rest) × (all_finished m.width s.seats s.next ≡ true)
  Guard u (DoDispatch b rest) = IsFree u × (m.event s.cursor ≡ Iterate b rest) × (length (seat_at s.seats (s.next % m.width)).queue < m.room)
  Guard u DoHalt = (u ≡ m.width) × (s.halted ≡ false) × (s.trap ≡ None → m.event s.cursor ≡ End)
  Guard u (DoTake ticket queue) = IsIdle u (ticket ∷ queue) × (is_above s.trap ticket.number ≡ false)
  Guard u (DoPass k w left piece) = Holds u k (w ∷ left) piece × (w.number < done_at s.seats w.worker)
  Guard u (DoRead k w next) = (piece : P) × Holds u k [] piece × (m.system.stop piece ≡ Loads w next)
  Guard u (DoWrite k w value next) = (piece : P) × Holds u k [] piece × (m.system.stop piece ≡ Stores w value next)
  Guard u (DoGo k next) = (piece : P) × Holds u k [] piece × (m.system.stop piece ≡ Goes next)
  Guard u (DoFinish k) = (piece : P) × Holds u k [] piece × (m.system.stop piece ≡ Finishes)
  Guard u (DoTrap k cause line) = (piece : P) × Holds u k [] piece × (m.system.stop piece ≡ Traps cause line)
  Guard u (DoDropHeld k) = (left : List Wait) × (piece : P) × (u < m.width) × ((seat_at s.seats u).hand ≡ Holding k left piece) × (is_above s.trap k ≡ true)
  Guard u (DoDropQueued ticket queue) = IsIdle u (ticket ∷ queue) × (is_above s.trap ticket.number ≡ true)
  Guard u DoEnd = IsIdle u [] × (s.halted ≡ true)

  abbrev pub GuardOf : ℕ → Option (Move B C P) → Type 0
  GuardOf u None = Unit {0}
  GuardOf u (Some move) = Guard u move

  stop_guard : (u k : ℕ) (piece : P) (stop : Stop P) → Holds u k [] piece → m.system.stop piece ≡ stop → Guard u (stop_move m k stop)
  stop_guard u k piece (Loads w next) h e = (piece, h, e)
  stop_guard u k piece (Stores w value next) h e = (piece, h, e)
  stop_guard u k piece (Goes next) h e = (piece, h, e)
  stop_guard u k piece Finishes h e = (piece, h, e)
  stop_guard u k piece (Traps cause line) h e = (piece, h, e)

  waiting_guard : (u k : ℕ) (left : List Wait) (piece : P) → Holds u k left piece → GuardOf u (waiting_move m s k left piece)
  waiting_guard u k [] piece h = stop_guard u k piece (m.system.stop piece) h refl
  waiting_guard u k (w ∷ left) piece h = go (nat_lt w.number (done_at s.seats w.worker)) refl
    where
      go : (t : Bool) → nat_lt w.number (done_at s.seats w.worker) ≡ t → GuardOf u (if t then Some (DoPass k w left piece) else None)
      go true e = (h, ltb-true _ _ e)
      go false e = tt

  held_guard : (u k : ℕ) (left : List Wait) (piece : P) → u < m.width → (seat_at s.seats u).hand ≡ Holding k left piece → GuardOf u (held_move m s k left piece)
  held_guard u k left piece own hand = go (is_above s.trap k) refl
    where
      go : (t : Bool) → is_above s.trap k ≡ t → GuardOf u (if t then Some (DoDropHeld k) else waiting_move m s k left piece)
      go true e = (left, piece, own, hand, e)
      go false e = waiting_guard u k left piece (record { own = own; hand = hand; below = e })

  idle_guard : (u : ℕ) (queue : List (Ticket B)) → IsIdle u queue → GuardOf u (idle_move m s queue)
  idle_guard u [] h = go s.halted refl
    where
      go : (t : Bool) → s.halted ≡ t → GuardOf u (if t then Some DoEnd else None)
      go true e = (h, e)
      go false e = tt
  idle_guard u (ticket ∷ queue) h = go (is_above s.trap ticket.number) refl
    where
      go : (t : Bool) → is_above s.trap ticket.number ≡ t → GuardOf u (if t then Some (DoDropQueued ticket queue) else Some (DoTake ticket queue))
      go true e = (h, e)
      go false e = (h, e)

  worker_guard : (u : ℕ) (hand : Hand P) (queue : List (Ticket B)) → u < m.width → (seat_at s.seats u).hand ≡ hand → (seat_at s.seats u).queue ≡ queue → GuardOf u (worker_move m s hand queue)
  worker_guard u Idle queue own hand queued = idle_guard u queue (record { own = own; hand = hand; queued = queued })
  worker_guard u (Holding k left piece) queue own hand queued = held_guard u k left piece own hand
  worker_guard u Ended queue own hand queued = tt

  event_guard : (u : ℕ) (event : Event B C) → IsFree u → m.event s.cursor ≡ event → GuardOf u (event_move m s event)
  event_guard u End free e = (free.actor, free.going, λ none. e)
  event_guard u (Scalar purpose trap rest) free e = (free, e)
  event_guard u (Drain purpose traps rests) free e = go (all_finished m.width s.seats s.next) refl
    where
      go : (t : Bool) → all_finished m.width s.seats s.next ≡ t → GuardOf u (if t then Some (DoDrain purpose (traps s.words) (rests s.words)) else None)
      go true all = (traps, rests, free, e, refl, refl, all)
      go false all = tt
  event_guard u (Iterate b rest) free e = go (nat_lt (length (seat_at s.seats (s.next % m.width)).queue) m.room) refl
    where
      go : (t : Bool) → nat_lt (length (seat_at s.seats (s.next % m.width)).queue) m.room ≡ t → GuardOf u (if t then Some (DoDispatch b rest) else None)
      go true room = (free, e, ltb-true _ _ room)
      go false room = tt
  event_guard u (Close rest) free e = (free, e)

  going_guard : (u : ℕ) (trap : Option Place) → u ≡ m.width → s.halted ≡ false → s.trap ≡ trap → GuardOf u (going_move m s trap)
  going_guard u None actor going e = event_guard u (m.event s.cursor) (record { actor = actor; going = going; untrapped = e }) refl
  going_guard u (Some trap) actor going e = (actor, going, λ none. cc)

  scheduler_guard : (u : ℕ) → u ≡ m.width → GuardOf u (scheduler_move m s)
  scheduler_guard u actor = go s.halted refl
    where
      go : (t : Bool) → s.halted ≡ t → GuardOf u (if t then None else going_move m s s.trap)
      go true e = tt
      go false e = going_guard u s.trap actor e refl

  guards : (u : ℕ) → GuardOf u (move_of m s u)
  guards u = go (nat_lt u m.width) refl
    where
      other : (t : Bool) → (u == m.width) ≡ t → GuardOf u (if t then scheduler_move m s else None)
      other true e = scheduler_guard u (eqb-true _ _ e)
      other false e = tt

      go : (t : Bool) → nat_lt u m.width ≡ t → GuardOf u (if t then worker_move m s (seat_at s.seats u).hand (seat_at s.seats u).queue else if u == m.width then scheduler_move m s else None)
      go true e = worker_guard u (seat_at s.seats u).hand (seat_at s.seats u).queue (ltb-true _ _ e) refl refl
      go false e = other (u == m.width) refl

  -- the move of an actor is guarded
  pub guarded : (u : ℕ) (move : Move B C P) → move_of m s u ≡ Some move → Guard u move
  guarded u move e = subst (GuardOf u) e (guards u)

  -- a step is a guarded move
  pub record IsStep (u : ℕ) (t : State B C P) : Type 0 where
    pub move : Move B C P
    pub enabled : move_of m s u ≡ Some move
    pub guard : Guard u move
    pub behind : t ≡ state_after m s u move

  pub step_is : (u : ℕ) (t : State B C P) → step m s u ≡ Some t → IsStep u t
  step_is u t e = go (move_of m s u) refl e
    where
      go : (o : Option (Move B C P)) → move_of m s u ≡ o → option_map (state_after m s u) o ≡ Some t → IsStep u t
      go None is e = cc
      go (Some move) is e = record { move = move; enabled = is; guard = guarded u move is; behind = cc }
