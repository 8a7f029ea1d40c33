-- Ended workers, and what a finished machine has done.
use Rattle.std.proofs.Common.{◌≡◌, ℕ, zero, suc, ◌%◌, ◌<◌, ◌≤◌, ℤ, Bool, true, Option, Some, None, List, [], ◌∷◌, length, slice_set, refl, sym, ap, ◌∙◌, subst, ⊎_elim, arith}
use Rattle.std.proofs.lemmas.Bool.{cases_Bool, and_parts, true≢false}
use Rattle.std.proofs.lemmas.Nat.{mod_below}
use Rattle.std.specs.Option.{option_map_or}
use Rattle.std.specs.List.{list_all}
use Rattle.nest_syntax.specs.declared.place.Place.{Place}
use Rattle.nest_syntax.specs.Outcome.{Done, TrappedAt, Ends, place_of_trap}
use Rattle.settle_law.specs.Traces.{Access}
use Rattle.settle_law.specs.Courses.{Nest, End, AtEvent, reached, outcome}
use Rattle.settle_law.proofs.Cursors.{at_event}
use Rattle.domore_machine.specs.Facts.{no_facts, facts_from, facts_of}
use Rattle.domore_machine.specs.Machine.{Setup, State, Seat, Hand, Idle, Holding, Ended, Move, DoScalar, DoClose, DoDrain, DoDispatch, DoHalt, DoTake, DoPass, DoRead, DoWrite, DoGo, DoFinish, DoTrap, DoDropHeld, DoDropQueued, DoEnd, seat_at, done_at, seat_after, worker_after, state_after, seat_with, ticket_of, is_ended, waits}
use Rattle.domore_machine.specs.Runs.{is_finished, ending_of}
use Rattle.domore_machine.specs.Theorems.{IsSetupFor}
use Rattle.domore_machine.specs.Invariant.{IsCutBy, Fate, IsDone, IsPending, IsCut, EarlyTrap, LateTrap, TrapParts, AllTickets, EndedAreOver, Invariant}
use Rattle.domore_machine.proofs.Guards.{Guard}
use Rattle.domore_machine.proofs.Seats.{each_set}
use Rattle.domore_machine.proofs.Tickets.{inside, tickets_at}
use Rattle.domore_machine.proofs.Textual.{words_are, traps_at}
use Rattle.domore_machine.proofs.Course.{facts_append}

module _ {B C P : Type 0} (m : Setup B C P) (s : State B C P) (tickets : AllTickets m s) (i : EndedAreOver m s) where
  abbrev pub seat : ℕ → Seat B P
  seat u = seat_at s.seats u

  -- a row sets one seat, and leaves the scheduler as it is
  set_ended : (u : ℕ) (x : Seat B P) (halted : Bool) → u < m.width → (s.halted ≡ true → halted ≡ true) → (x.hand ≡ Ended → (x.queue ≡ []) × (halted ≡ true)) → (v : ℕ) → v < m.width → (seat_at (slice_set s.seats u x) v).hand ≡ Ended → ((seat_at (slice_set s.seats u x) v).queue ≡ []) × (halted ≡ true)
  set_ended u x halted own more new v lt = each_set (λ w y. w < m.width → y.hand ≡ Ended → (y.queue ≡ []) × (halted ≡ true)) s.seats u x (inside m s tickets u own) (λ l. new) (λ w other l gone. let old = i w l gone in (old.0, more old.1)) v lt

  worker_row : (u : ℕ) (move : Move B C P) → u < m.width → ((seat_after m s.words (seat u) move).hand ≡ Ended → ((seat_after m s.words (seat u) move).queue ≡ []) × (s.halted ≡ true)) → EndedAreOver m (worker_after m s u move)
  worker_row u move own new = set_ended u (seat_after m s.words (seat u) move) s.halted own (λ over. over) new

  -- each row keeps what is said of ended workers
  pub ended_row : (u : ℕ) (move : Move B C P) → 0 < m.width → Guard m s u move → EndedAreOver m (state_after m s u move)
  ended_row u (DoScalar purpose None rest) some g = i
  ended_row u (DoScalar purpose (Some trap) rest) some g = i
  ended_row u (DoClose rest) some g = i
  ended_row u (DoDrain purpose None rest) some g = i
  ended_row u (DoDrain purpose (Some trap) rest) some g = i
  ended_row u (DoDispatch b rest) some (free, is, room) = set_ended (s.next % m.width) (seat_with (seat (s.next % m.width)) (ticket_of m s b)) s.halted (mod_below s.next m.width some) (λ over. over) (λ gone. absurd (true≢false (sym (i (s.next % m.width) (mod_below s.next m.width some) gone).1 ∙ free.going)))
  ended_row u DoHalt some g = λ v lt gone. ((i v lt gone).0, refl)
  ended_row u (DoTake ticket queue) some (idle, below) = worker_row u (DoTake ticket queue) idle.own (λ gone. cc)
  ended_row u (DoPass k w left piece) some (h, over) = worker_row u (DoPass k w left piece) h.own (λ gone. cc)
  ended_row u (DoRead k w next) some (piece, h, stop) = worker_row u (DoRead k w next) h.own (λ gone. cc)
  ended_row u (DoWrite k w value next) some (piece, h, stop) = worker_row u (DoWrite k w value next) h.own (λ gone. cc)
  ended_row u (DoGo k next) some (piece, h, stop) = worker_row u (DoGo k next) h.own (λ gone. cc)
  ended_row u (DoFinish k) some (piece, h, stop) = worker_row u (DoFinish k) h.own (λ gone. cc)
  ended_row u (DoTrap k cause line) some (piece, h, stop) = worker_row u (DoTrap k cause line) h.own (λ gone. cc)
  ended_row u (DoDropHeld k) some (left, piece, own, h, above) = worker_row u (DoDropHeld k) own (λ gone. cc)
  ended_row u (DoDropQueued ticket queue) some (idle, above) = worker_row u (DoDropQueued ticket queue) idle.own (λ gone. let is : Idle ≡ Ended = sym idle.hand ∙ gone in cc)
  ended_row u DoEnd some (idle, over) = worker_row u DoEnd idle.own (λ gone. (idle.queued, over))

pub hand_ended : {P : Type 0} (hand : Hand P) → is_ended hand ≡ true → hand ≡ Ended
hand_ended Idle is = cc
hand_ended (Holding k left piece) is = cc
hand_ended Ended is = refl

pub all_at : {B P : Type 0} (seats : List (Seat B P)) (u : ℕ) → list_all (λ (x : Seat B P). is_ended x.hand) seats ≡ true → u < length seats → (seat_at seats u).hand ≡ Ended
all_at [] u all lt = absurd (omega arith)
all_at (x ∷ seats) zero all lt = hand_ended x.hand (and_parts _ _ all).0
all_at (x ∷ seats) (suc u) all lt = all_at seats u (and_parts _ _ all).1 (omega arith)

module _ {B C P : Type 0} (m : Setup B C P) (nest : Nest) (what : B → ℕ × List ℤ) (start : C) (setup : IsSetupFor m nest what start) (s : State B C P) (trace : List Access) (i : Invariant m nest what s trace) (finished : is_finished m s ≡ true) where
  over : s.halted ≡ true
  over = (and_parts _ _ finished).0

  gone : (u : ℕ) → u < m.width → (seat_at s.seats u).hand ≡ Ended
  gone u lt = all_at s.seats u (and_parts _ _ finished).1 (inside m s i.tickets u lt)

  -- whatever isn't cut off is done
  done_unless : (k : ℕ) → k < s.next → (IsCutBy s.trap k → ⊥) → k < done_at s.seats (k % m.width)
  done_unless k lt free = go ((tickets_at m s i.tickets (k % m.width) Ended [] own (gone (k % m.width) own) (i.ended (k % m.width) own (gone (k % m.width) own)).0).fate k lt refl)
    where
      own : k % m.width < m.width
      own = mod_below k m.width setup.some_worker

      go : Fate (done_at s.seats (k % m.width)) [] s.trap k → k < done_at s.seats (k % m.width)
      go (IsDone is) = is
      go (IsPending among) = elim among [ ]
      go (IsCut cut) = absurd (free cut)

  all_done : s.trap ≡ None → (k : ℕ) → k < s.next → k < done_at s.seats (k % m.width)
  all_done none k lt = done_unless k lt (λ cut. subst (λ t. IsCutBy t k) none cut)

  at_end : (none : s.trap ≡ None) → AtEvent nest what m.event (i.course.going none).passed s.next End
  at_end none = subst (AtEvent nest what m.event (i.course.going none).passed s.next) (i.course.over over none) (at_event nest what m.event (i.course.going none).passed s.next s.cursor (i.course.going none).behind)

  textual : s.trap ≡ None → reached nest s.next ≡ Some s.words
  textual none = words_are m nest what start setup s trace i.guarded i.words i.parts i.course.known (all_done none)

  untrapped : s.trap ≡ None → outcome nest ≡ Done s.words
  untrapped none = (at_end none).2 s.words (textual none)

  trapped : (t : Place) → s.trap ≡ Some t → outcome nest ≡ TrappedAt t
  trapped t is = ⊎_elim
      (λ scheduler. let e = subst (EarlyTrap nest s.next) is i.course.early scheduler in
      let number : t.number ≡ s.next = e.0 in
      e.1 s.words (words_are m nest what start setup s trace i.guarded i.words i.parts i.course.known (λ k lt. done_unless k lt (cut k lt number))))
      (λ worker. traps_at m nest what start setup s trace i.guarded i.words i.parts i.course.known t.number t.cause t.line
      (subst (LateTrap s.next) is i.course.late worker)
      (λ k lt. let below : t.number < s.next = subst (LateTrap s.next) is i.course.late worker in done_unless k (omega arith) (lower k lt))
      (subst (TrapParts _ trace) is i.parts.trapped worker)
      ∙ ap (λ b. TrappedAt (place_of_trap t.cause t.line t.number b)) (sym worker))
      (cases_Bool t.by_scheduler)
    where
      cut : (k : ℕ) → k < s.next → t.number ≡ s.next → IsCutBy s.trap k → ⊥
      cut k lt number c = let l : t.number ≤ k = subst (λ x. IsCutBy x k) is c in omega arith

      lower : (k : ℕ) → k < t.number → IsCutBy s.trap k → ⊥
      lower k lt c = let l : t.number ≤ k = subst (λ x. IsCutBy x k) is c in omega arith

  -- a finished machine ends as the nest does
  pub ends_as_nest : ending_of s ≡ outcome nest
  ends_as_nest = go s.trap refl
    where
      go : (trap : Option Place) → s.trap ≡ trap → option_map_or TrappedAt s.trap (Done s.words) ≡ outcome nest
      go None is = ap (λ t. option_map_or TrappedAt t (Done s.words)) is ∙ sym (untrapped is)
      go (Some t) is = ap (λ t. option_map_or TrappedAt t (Done s.words)) is ∙ sym (trapped t is)

  -- and has counted what the nest has
  pub counts_as_nest : (words : List ℤ) → outcome nest ≡ Done words → s.facts ≡ facts_of (waits m) nest
  counts_as_nest words done = go s.trap refl
    where
      go : (trap : Option Place) → s.trap ≡ trap → s.facts ≡ facts_of (waits m) nest
      go None is = (i.course.going is).counted ∙ sym (facts_append (waits m) 0 s.next no_facts (i.course.going is).passed (Ends ∷ []) (omega (arith, (i.course.going is).behind.counts))) ∙ ap (facts_from (waits m) 0 no_facts) (sym (at_end is).0)
      go (Some t) is = let no : TrappedAt t ≡ Done words = sym (trapped t is) ∙ done in cc
