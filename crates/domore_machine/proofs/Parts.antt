-- The parts of the iterations in the trace: each row keeps what they are.
use Rattle.std.proofs.Common.{◌≡◌, ℕ, suc, ◌%◌, ◌<◌, ◌≤◌, ℤ, true, false, Option, Some, None, List, [], ◌∷◌, ◌++◌, slice_set, refl, sym, ap, ◌∙◌, subst, ⊎_elim, arith, append-nil}
use Rattle.std.proofs.lemmas.Bool.{cases_eq, cases_lt}
use Rattle.std.proofs.lemmas.Nat.{mod_below}
use Rattle.std.specs.Option.{option_map_or}
use Rattle.nest_syntax.specs.declared.names.Line.{Line}
use Rattle.nest_syntax.specs.declared.operators.Cause.{Cause}
use Rattle.nest_syntax.specs.declared.place.Place.{Place}
use Rattle.nest_syntax.specs.Arrays.{word_at}
use Rattle.nest_syntax.specs.Outcome.{place_of_trap}
use Rattle.settle_law.specs.Trees.{Tree}
use Rattle.settle_law.specs.Trees as trees
use Rattle.settle_law.specs.Cuts.{plain, HoldsFixed}
use Rattle.settle_law.specs.Traces.{Access, Read, Write, iteration, part, Makes, Fits, IsFinished, IsTrapped}
use Rattle.settle_law.specs.Tasks.{Loads, Finishes, Traps, Left}
use Rattle.settle_law.specs.Courses.{Nest, Iterate, family_of, iteration_at, cut_at}
use Rattle.settle_law.specs.Reading.{BodiesBegin}
use Rattle.settle_law.proofs.Nests.{family_at}
use Rattle.settle_law.proofs.Push.{part_push_own, part_push_other}
use Rattle.settle_law.proofs.Tasks.{left_read, left_told, left_write, left_go, left_finished, left_trapped, left_begins}
use Rattle.domore_machine.specs.Waits.{Wait}
use Rattle.domore_machine.specs.Machine.{Setup, State, Seat, Hand, Idle, Holding, Ended, Ticket, Move, DoScalar, DoClose, DoDrain, DoDispatch, DoHalt, DoTake, DoPass, DoRead, DoWrite, DoGo, DoFinish, DoTrap, DoDropHeld, DoDropQueued, DoEnd, seat_at, done_at, least_trap, seat_after, trap_after, worker_after, state_after, seat_with, ticket_of, accesses_of}
use Rattle.domore_machine.specs.Invariant.{Each, queued_numbers, Rises, Fate, IsDone, IsPending, IsCut, AllTickets, HandParts, SeatParts, TrapParts, AllParts}
use Rattle.domore_machine.proofs.Guards.{Guard, Holds}
use Rattle.domore_machine.proofs.Seats.{each_set, each_push}
use Rattle.domore_machine.proofs.Tickets.{inside, held, tickets_at, in_rises, not_cut, least_is}

-- a trapped part takes no access more
trapped_stays : (tree : Tree) (made : List Access) (a : Access) (rest : Tree) (cause : Cause) (line : Line) → IsTrapped tree made cause line → Makes tree (made ++ a ∷ []) rest → ⊥
trapped_stays tree [] a rest cause line t m = subst (λ x. Makes x (a ∷ []) rest) t m
trapped_stays trees.Finished (b ∷ made) a rest cause line t m = t
trapped_stays (trees.Trapped c l) (b ∷ made) a rest cause line t m = t
trapped_stays (trees.Load w go) (Read k u value ∷ made) a rest cause line t m = trapped_stays (go value) made a rest cause line t.1 m.1
trapped_stays (trees.Load w go) (Write k u value ∷ made) a rest cause line t m = t
trapped_stays (trees.Store w new tree) (Read k u value ∷ made) a rest cause line t m = t
trapped_stays (trees.Store w new tree) (Write k u value ∷ made) a rest cause line t m = trapped_stays tree made a rest cause line t.2 m.2

module _ {B C P : Type 0} (m : Setup B C P) (nest : Nest) (what : B → ℕ × List ℤ) (s : State B C P) (trace : List Access) (tickets : AllTickets m s) (fixed_words : HoldsFixed m.system.fixed s.words) (i : AllParts m nest what s trace) where
  abbrev pub family : ℕ → Tree
  family = family_of m.system.fixed nest

  abbrev pub seat : ℕ → Seat B P
  seat u = seat_at s.seats u

  -- a queued ticket has no part yet
  abbrev pub IsUnbegun : List Access → Ticket B → Type 0
  IsUnbegun trace t = (iteration_at nest t.number ≡ Some (what t.body)) × (part t.number trace ≡ [])

  hand_at : (u : ℕ) (hand : Hand P) → u < m.width → (seat u).hand ≡ hand → HandParts m nest trace hand
  hand_at u hand own h = subst (HandParts m nest trace) h (i.seats u own).hand

  pub left_at : (u k : ℕ) (left : List Wait) (piece : P) → u < m.width → (seat u).hand ≡ Holding k left piece → Left m.system (family k) (part k trace) piece
  left_at u k left piece own h = hand_at u (Holding k left piece) own h

  queue_at : (u : ℕ) (queue : List (Ticket B)) → u < m.width → (seat u).queue ≡ queue → Each (IsUnbegun trace) queue
  queue_at u queue own q = subst (Each (IsUnbegun trace)) q (i.seats u own).queue

  -- a row without an access, that sets one seat
  set_parts : (u : ℕ) (x : Seat B P) → u < m.width → SeatParts m nest what trace u x → (v : ℕ) → v < m.width → SeatParts m nest what trace v (seat_at (slice_set s.seats u x) v)
  set_parts u x own new v lt = each_set (λ w y. w < m.width → SeatParts m nest what trace w y) s.seats u x (inside m s tickets u own) (λ l. new) (λ w other l. i.seats w l) v lt

  worker_row : (u : ℕ) (move : Move B C P) → u < m.width → SeatParts m nest what trace u (seat_after m s.words (seat u) move) → TrapParts family trace (trap_after m s.trap move) → AllParts m nest what (worker_after m s u move) trace
  worker_row u move own new trapped = record { seats = set_parts u (seat_after m s.words (seat u) move) own new; later = i.later; fits = i.fits; trapped = trapped }

  quiet_row : (u : ℕ) (move : Move B C P) → u < m.width → HandParts m nest trace (seat_after m s.words (seat u) move).hand → Each (IsUnbegun trace) (seat_after m s.words (seat u) move).queue → (seat_after m s.words (seat u) move).done ≡ (seat u).done → trap_after m s.trap move ≡ s.trap → AllParts m nest what (worker_after m s u move) trace
  quiet_row u move own hand queue done trap = worker_row u move own
      (record { finished = λ k mine lt. (i.seats u own).finished k mine (omega arith); hand = hand; queue = queue })
      (subst (TrapParts family trace) (sym trap) i.trapped)

  finish_row : (u k : ℕ) (piece : P) → Holds m s u k [] piece → m.system.stop piece ≡ Finishes → AllParts m nest what (worker_after m s u (DoFinish k)) trace
  finish_row u k piece h stop = worker_row u (DoFinish k) h.own (record { finished = finished; hand = tt; queue = (i.seats u h.own).queue }) i.trapped
    where
      mine : (k % m.width ≡ u) × (k < s.next)
      mine = let r = (held m s tickets u k [] piece h.own h.hand).rises in (r.1, r.2)

      between : (j : ℕ) → j < k → (done_at s.seats u ≤ j) → Fate (done_at s.seats u) (k ∷ queued_numbers (seat u).queue) s.trap j → ⊥
      between j lt ge (IsDone l) = absurd (omega arith)
      between j lt ge (IsPending among) = let t = (held m s tickets u k [] piece h.own h.hand).rises in let l : k ≤ j = (in_rises m.width u k s.next j (k ∷ queued_numbers (seat u).queue) (omega arith, t.1, t.2, t.3) among).0 in absurd (omega arith)
      between j lt ge (IsCut cut) = not_cut s.trap j k h.below lt cut

      finished : (j : ℕ) → j % m.width ≡ u → j < suc k → IsFinished (family j) (part j trace)
      finished j own lt = ⊎_elim
          (λ l. (i.seats u h.own).finished j own l)
          (λ ge. ⊎_elim
          (λ same. subst (λ x. IsFinished (family x) (part x trace)) (sym same) (left_finished m.system (family k) (part k trace) piece (left_at u k [] piece h.own h.hand) stop))
          (λ other. let l : j < k = omega arith in let n : k < s.next = mine.1 in absurd (between j l ge ((held m s tickets u k [] piece h.own h.hand).fate j (omega arith) own)))
          (cases_eq j k))
          (cases_lt j (done_at s.seats u))

  trap_row : (u k : ℕ) (piece : P) (cause : Cause) (line : Line) → Holds m s u k [] piece → m.system.stop piece ≡ Traps cause line → AllParts m nest what (worker_after m s u (DoTrap k cause line)) trace
  trap_row u k piece cause line h stop = worker_row u (DoTrap k cause line) h.own (record { finished = (i.seats u h.own).finished; hand = tt; queue = (i.seats u h.own).queue }) (least s.trap i.trapped)
    where
      new : IsTrapped (family k) (part k trace) cause line
      new = left_trapped m.system (family k) (part k trace) piece cause line (left_at u k [] piece h.own h.hand) stop

      least : (trap : Option Place) → TrapParts family trace trap → TrapParts family trace (Some (least_trap trap (place_of_trap cause line k false)))
      least None old = λ worker. new
      least (Some t) old = ⊎_elim
          (λ is. subst (λ x. TrapParts family trace (Some x)) (sym is.0) (λ worker. new))
          (λ is. subst (λ x. TrapParts family trace (Some x)) (sym is.0) old)
          (least_is t (place_of_trap cause line k false))

  -- a row with an access of the held iteration
  module _ (u k : ℕ) (piece next : P) (a : Access) (h : Holds m s u k [] piece) (own_access : iteration a ≡ k) (new : Left m.system (family k) (part k trace ++ a ∷ []) next) where
    mine : (k % m.width ≡ u) × (k < s.next)
    mine = let r = (held m s tickets u k [] piece h.own h.hand).rises in (r.1, r.2)

    others : (j : ℕ) → (j ≡ k → ⊥) → part j (trace ++ a ∷ []) ≡ part j trace
    others j other = part_push_other j trace a (λ same. other (sym same ∙ own_access))

    elsewhere : (v j : ℕ) → (v ≡ u → ⊥) → j % m.width ≡ v → j ≡ k → ⊥
    elsewhere v j other own same = other (sym own ∙ ap (λ x. x % m.width) same ∙ mine.0)

    other_hand : (v : ℕ) (hand : Hand P) → (v ≡ u → ⊥) → v < m.width → (seat v).hand ≡ hand → HandParts m nest trace hand → HandParts m nest (trace ++ a ∷ []) hand
    other_hand v Idle other lt is p = tt
    other_hand v (Holding j left q) other lt is p = subst (λ made. Left m.system (family j) made q) (sym (others j (elsewhere v j other (held m s tickets v j left q lt is).rises.1))) p
    other_hand v Ended other lt is p = tt

    other_queue : (low v : ℕ) (queue : List (Ticket B)) → ((j : ℕ) → low ≤ j → j % m.width ≡ v → j ≡ k → ⊥) → Rises m.width v low s.next (queued_numbers queue) → Each (IsUnbegun trace) queue → Each (IsUnbegun (trace ++ a ∷ [])) queue
    other_queue low v [] other r each = tt
    other_queue low v (t ∷ queue) other r each = ((each.0.0, others t.number (other t.number r.0 r.1) ∙ each.0.1), other_queue (suc t.number) v queue (λ j le own. let l : low ≤ t.number = r.0 in other j (omega arith) own) r.3 each.1)

    other_seat : (v : ℕ) → (v ≡ u → ⊥) → v < m.width → SeatParts m nest what (trace ++ a ∷ []) v (seat v)
    other_seat v other lt = record {
      finished = λ j own l. subst (IsFinished (family j)) (sym (others j (elsewhere v j other own))) ((i.seats v lt).finished j own l);
      hand = other_hand v (seat v).hand other lt refl (i.seats v lt).hand;
      queue = queue (seat v).hand refl;
    }
      where
        queue : (hand : Hand P) → (seat v).hand ≡ hand → Each (IsUnbegun (trace ++ a ∷ [])) (seat v).queue
        queue Idle is = other_queue (seat v).done v (seat v).queue (λ j le own. elsewhere v j other own) (tickets_at m s tickets v Idle (seat v).queue lt is refl).rises (i.seats v lt).queue
        queue (Holding j left q) is = other_queue (suc j) v (seat v).queue (λ x le own. elsewhere v x other own) (held m s tickets v j left q lt is).rises.3 (i.seats v lt).queue
        queue Ended is = other_queue (seat v).done v (seat v).queue (λ j le own. elsewhere v j other own) (tickets_at m s tickets v Ended (seat v).queue lt is refl).rises (i.seats v lt).queue

    own_seat : SeatParts m nest what (trace ++ a ∷ []) u (record { hand = Holding k [] next; queue = (seat u).queue; done = (seat u).done })
    own_seat = record {
      finished = λ j own l. let d : (seat u).done ≤ k = (held m s tickets u k [] piece h.own h.hand).rises.0 in subst (IsFinished (family j)) (sym (others j (λ same. omega arith))) ((i.seats u h.own).finished j own l);
      hand = subst (λ made. Left m.system (family k) made next) (sym (part_push_own k trace a own_access)) new;
      queue = other_queue (suc k) u (seat u).queue (λ j le own same. omega arith) (held m s tickets u k [] piece h.own h.hand).rises.3 (i.seats u h.own).queue;
    }

    still_trapped : (trap : Option Place) → TrapParts family trace trap → TrapParts family (trace ++ a ∷ []) trap
    still_trapped None old = tt
    still_trapped (Some t) old = λ worker. ⊎_elim
        (λ same. absurd (trapped_stays (family k) (part k trace) a (plain m.system.fixed new.left) t.cause t.line (subst (λ x. IsTrapped (family x) (part x trace) t.cause t.line) same (old worker)) new.makes))
        (λ other. subst (λ made. IsTrapped (family t.number) made t.cause t.line) (sym (others t.number other)) (old worker))
        (cases_eq t.number k)

    access_row : (move : Move B C P) → seat_after m s.words (seat u) move ≡ record { hand = Holding k [] next; queue = (seat u).queue; done = (seat u).done } → trap_after m s.trap move ≡ s.trap → AllParts m nest what (worker_after m s u move) (trace ++ a ∷ [])
    access_row move is trap = record {
      seats = λ v lt. each_set (λ w y. w < m.width → SeatParts m nest what (trace ++ a ∷ []) w y) s.seats u (seat_after m s.words (seat u) move) (inside m s tickets u h.own)
          (λ l. subst (SeatParts m nest what (trace ++ a ∷ []) u) (sym is) own_seat) (λ w other l. other_seat w other l) v lt;
      later = λ j ge. let l : k < s.next = mine.1 in others j (λ same. omega arith) ∙ i.later j ge;
      fits = λ j. ⊎_elim
          (λ same. subst (λ x. Fits (family x) (part x (trace ++ a ∷ []))) (sym same) (subst (Fits (family k)) (sym (part_push_own k trace a own_access)) (plain m.system.fixed new.left, new.makes)))
          (λ other. subst (Fits (family j)) (sym (others j other)) (i.fits j))
          (cases_eq j k);
      trapped = subst (TrapParts family (trace ++ a ∷ [])) (sym trap) (still_trapped s.trap i.trapped);
    }

  -- no access: the trace stays
  same_trace : (t : State B C P) → AllParts m nest what t trace → AllParts m nest what t (trace ++ [])
  same_trace t all = subst (AllParts m nest what t) (sym (append-nil trace)) all

  read_row : (u k w : ℕ) (next : ℤ → P) (piece : P) (told : Option ℤ) → Holds m s u k [] piece → m.system.stop piece ≡ Loads w next → m.system.fixed w ≡ told → AllParts m nest what (worker_after m s u (DoRead k w next)) (trace ++ option_map_or (λ t. []) told (Read k w (word_at s.words w) ∷ []))
  read_row u k w next piece None h stop is = access_row u k piece (next (word_at s.words w)) (Read k w (word_at s.words w)) h refl
      (left_read m.system (family k) (part k trace) piece w next k (word_at s.words w) (left_at u k [] piece h.own h.hand) stop is).0
      (DoRead k w next) refl refl
  read_row u k w next piece (Some value) h stop is = same_trace (worker_after m s u (DoRead k w next)) (quiet_row u (DoRead k w next) h.own
      (subst (λ x. Left m.system (family k) (part k trace) (next x)) (sym (fixed_words w value is)) (left_told m.system (family k) (part k trace) piece w next value (left_at u k [] piece h.own h.hand) stop is).0)
      (i.seats u h.own).queue refl refl)

  scheduled : TrapParts family trace s.trap → (cause : Cause) (line : Line) → TrapParts family trace (Some (place_of_trap cause line s.next true))
  scheduled old cause line = λ worker. cc

  dispatch_row : (b : B) (rest : C) → 0 < m.width → iteration_at nest s.next ≡ Some (what b) → AllParts m nest what (state_after m s m.width (DoDispatch b rest)) trace
  dispatch_row b rest some given = let u : ℕ = s.next % m.width in record {
    seats = set_parts (s.next % m.width) (seat_with (seat (s.next % m.width)) (ticket_of m s b)) (mod_below s.next m.width some) (let old = i.seats (s.next % m.width) (mod_below s.next m.width some) in record {
      finished = old.finished;
      hand = old.hand;
      queue = each_push (IsUnbegun trace) (seat (s.next % m.width)).queue (ticket_of m s b) old.queue (given, i.later s.next (omega arith));
    });
    later = λ k ge. i.later k (omega arith);
    fits = i.fits;
    trapped = i.trapped;
  }

  -- each row keeps the parts
  pub parts_row : (u : ℕ) (move : Move B C P) → 0 < m.width → BodiesBegin m.system nest what m.entry → ((b : B) (rest : C) → s.trap ≡ None → m.event s.cursor ≡ Iterate b rest → iteration_at nest s.next ≡ Some (what b)) → Guard m s u move → AllParts m nest what (state_after m s u move) (trace ++ accesses_of m s.words move)
  parts_row u (DoScalar purpose None rest) some begins given g = same_trace _ (record { seats = i.seats; later = i.later; fits = i.fits; trapped = i.trapped })
  parts_row u (DoScalar purpose (Some trap) rest) some begins given g = same_trace _ (record { seats = i.seats; later = i.later; fits = i.fits; trapped = scheduled i.trapped trap.cause trap.line })
  parts_row u (DoClose rest) some begins given g = same_trace _ (record { seats = i.seats; later = i.later; fits = i.fits; trapped = i.trapped })
  parts_row u (DoDrain purpose None rest) some begins given g = same_trace _ (record { seats = i.seats; later = i.later; fits = i.fits; trapped = i.trapped })
  parts_row u (DoDrain purpose (Some trap) rest) some begins given g = same_trace _ (record { seats = i.seats; later = i.later; fits = i.fits; trapped = scheduled i.trapped trap.cause trap.line })
  parts_row u (DoDispatch b rest) some begins given g = let d = dispatch_row b rest some (given b rest g.0.untrapped g.1) in same_trace _ (record { seats = d.seats; later = d.later; fits = d.fits; trapped = d.trapped })
  parts_row u DoHalt some begins given g = same_trace _ (record { seats = i.seats; later = i.later; fits = i.fits; trapped = i.trapped })
  parts_row u (DoTake ticket queue) some begins given (idle, below) = let q = queue_at u (ticket ∷ queue) idle.own idle.queued in same_trace _ (quiet_row u (DoTake ticket queue) idle.own
      (subst (λ made. Left m.system (family ticket.number) made (m.entry ticket.body)) (sym q.0.1) (subst (λ x. Left m.system x [] (m.entry ticket.body)) (sym (family_at m.system.fixed nest ticket.number (what ticket.body) q.0.0)) (left_begins P m.system (cut_at nest (what ticket.body)) (m.entry ticket.body) (begins ticket.body ticket.number q.0.0))))
      q.1 refl refl)
  parts_row u (DoPass k w left piece) some begins given (h, over) = same_trace _ (quiet_row u (DoPass k w left piece) h.own (left_at u k (w ∷ left) piece h.own h.hand) (i.seats u h.own).queue refl refl)
  parts_row u (DoRead k w next) some begins given (piece, h, stop) = read_row u k w next piece (m.system.fixed w) h stop refl
  parts_row u (DoWrite k w value next) some begins given (piece, h, stop) = access_row u k piece next (Write k w value) h refl (left_write m.system (family k) (part k trace) piece w value next k (left_at u k [] piece h.own h.hand) stop).1 (DoWrite k w value next) refl refl
  parts_row u (DoGo k next) some begins given (piece, h, stop) = same_trace _ (quiet_row u (DoGo k next) h.own (left_go m.system (family k) (part k trace) piece next (left_at u k [] piece h.own h.hand) stop).0 (i.seats u h.own).queue refl refl)
  parts_row u (DoFinish k) some begins given (piece, h, stop) = same_trace _ (finish_row u k piece h stop)
  parts_row u (DoTrap k cause line) some begins given (piece, h, stop) = same_trace _ (trap_row u k piece cause line h stop)
  parts_row u (DoDropHeld k) some begins given (left, piece, own, h, above) = same_trace _ (quiet_row u (DoDropHeld k) own tt (i.seats u own).queue refl refl)
  parts_row u (DoDropQueued ticket queue) some begins given (idle, above) = same_trace _ (quiet_row u (DoDropQueued ticket queue) idle.own (i.seats u idle.own).hand (queue_at u (ticket ∷ queue) idle.own idle.queued).1 refl refl)
  parts_row u DoEnd some begins given (idle, over) = same_trace _ (quiet_row u DoEnd idle.own tt (i.seats u idle.own).queue refl refl)
