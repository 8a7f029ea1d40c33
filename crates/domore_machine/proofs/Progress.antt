-- In each unfinished state with the invariant some actor has a step.
use Rattle.std.proofs.Common.{◌≡◌, ℕ, zero, suc, ◌%◌, ◌<◌, ◌≤◌, Bool, true, false, if◌then◌else◌, Option, Some, None, IsSome, List, [], ◌∷◌, ◌++◌, length, nat_lt, refl, sym, ap, ◌∙◌, subst, inl, inr, ⊎_elim, arith, ℤ}
use Rattle.std.proofs.lemmas.Bool.{lt-ltb, le-ltb, eq-eqb, ltb-false, and_cases, cases_lt, true≢false}
use Rattle.std.proofs.lemmas.Nat.{mod_below}
use Rattle.std.specs.Option.{option_map}
use Rattle.std.specs.List.{list_all}
use Rattle.nest_syntax.specs.declared.place.Place.{Place}
use Rattle.settle_law.specs.Traces.{Access}
use Rattle.settle_law.specs.Courses.{Nest, Event, End, Scalar, Drain, Iterate, Close}
use Rattle.domore_machine.specs.Waits.{Wait}
use Rattle.domore_machine.specs.Machine.{Setup, State, Seat, Hand, Idle, Holding, Ended, Ticket, Move, DoDropHeld, DoEnd, DoTake, DoDropQueued, seat_at, done_at, is_above, all_finished, is_ended, event_move, going_move, scheduler_move, waiting_move, worker_move, move_of, state_after, opening}
use Rattle.domore_machine.specs.Runs.{is_finished, trace_from}
use Rattle.domore_machine.specs.Theorems.{IsSetupFor, CanGoOn, UnfinishedGoOn}
use Rattle.domore_machine.specs.Invariant.{Each, queued_numbers, numbers, held_number, In, IsCutBy, Fate, IsDone, IsPending, IsCut, Invariant}
use Rattle.domore_machine.proofs.Tickets.{numbers_are, held, in_rises, not_cut}
use Rattle.domore_machine.proofs.WaitsLeft.{hand_at}
use Rattle.domore_machine.proofs.Runs.{invariant_holds}

-- where not all are finished, one isn't
unfinished_at : {B P : Type 0} (width n : ℕ) (seats : List (Seat B P)) → all_finished width seats n ≡ false → (k : ℕ) × (k < n) × (done_at seats (k % width) ≤ k)
unfinished_at width zero seats all = absurd (true≢false all)
unfinished_at width (suc n) seats all = ⊎_elim
    (λ no. (n, omega arith, ltb-false _ _ no))
    (λ others. let k = unfinished_at width n seats others in let l : k.0 < n = k.1 in (k.0, omega arith, k.2))
    (and_cases (nat_lt n (done_at seats (n % width))) (all_finished width seats n) all)

-- where not all are gone, one isn't
present_at : {B P : Type 0} (seats : List (Seat B P)) → list_all (λ (x : Seat B P). is_ended x.hand) seats ≡ false → (u : ℕ) × (u < length seats) × (is_ended (seat_at seats u).hand ≡ false)
present_at [] all = absurd (true≢false all)
present_at (x ∷ seats) all = ⊎_elim
    (λ no. (0, omega arith, no))
    (λ others. let u = present_at seats others in let l : u.0 < length seats = u.1 in (suc u.0, omega arith, u.2))
    (and_cases (is_ended x.hand) (list_all (λ (y : Seat _ _). is_ended y.hand) seats) all)

module _ {B C P : Type 0} (m : Setup B C P) (nest : Nest) (what : B → ℕ × List ℤ) (start : C) (setup : IsSetupFor m nest what start) (s : State B C P) (trace : List Access) (i : Invariant m nest what s trace) where
  abbrev pub seat : ℕ → Seat B P
  seat u = seat_at s.seats u

  some_step : (o : Option (Move B C P)) (u : ℕ) → IsSome o → IsSome (option_map (state_after m s u) o)
  some_step None u some = some
  some_step (Some move) u some = refl

  goes : (u : ℕ) → u ≤ m.width → IsSome (move_of m s u) → CanGoOn m s
  goes u present some = record { actor = u; present = present; enabled = some_step (move_of m s u) u some }

  worker_goes : (u : ℕ) (hand : Hand P) (queue : List (Ticket B)) → u < m.width → (seat u).hand ≡ hand → (seat u).queue ≡ queue → IsSome (worker_move m s hand queue) → CanGoOn m s
  worker_goes u hand queue own h q some = goes u (omega arith) (rw (lt-ltb u m.width own) (subst (λ x. IsSome (worker_move m s x (seat u).queue)) (sym h) (subst (λ x. IsSome (worker_move m s hand x)) (sym q) some)))

  scheduler_goes : IsSome (scheduler_move m s) → CanGoOn m s
  scheduler_goes some = goes m.width (omega arith) (rw (le-ltb m.width m.width (omega arith), eq-eqb m.width m.width refl) some)

  -- an idle worker with a ticket has a move
  idle_goes : (u : ℕ) (ticket : Ticket B) (queue : List (Ticket B)) → u < m.width → (seat u).hand ≡ Idle → (seat u).queue ≡ ticket ∷ queue → CanGoOn m s
  idle_goes u ticket queue own h q = worker_goes u Idle (ticket ∷ queue) own h q (go (is_above s.trap ticket.number))
    where
      go : (t : Bool) → IsSome {T = Move B C P} (if t then Some (DoDropQueued ticket queue) else Some (DoTake ticket queue))
      go true = refl
      go false = refl

  -- one that holds an iteration has one, or its first wait isn't done
  held_goes : (u k : ℕ) (left : List Wait) (piece : P) → u < m.width → (seat u).hand ≡ Holding k left piece → ((w : Wait) (others : List Wait) → left ≡ w ∷ others → is_above s.trap k ≡ false → done_at s.seats w.worker ≤ w.number → CanGoOn m s) → CanGoOn m s
  held_goes u k left piece own h blocked = above (is_above s.trap k) refl
    where
      some_if : (t : Bool) → is_above s.trap k ≡ t → IsSome (if t then Some (DoDropHeld k) else waiting_move m s k left piece) → CanGoOn m s
      some_if t is some = worker_goes u (Holding k left piece) (seat u).queue own h refl (subst (λ b. IsSome (if b then Some (DoDropHeld k) else waiting_move m s k left piece)) (sym is) some)

      waiting : (rest : List Wait) → left ≡ rest → is_above s.trap k ≡ false → CanGoOn m s
      waiting [] same below = some_if false below (subst (λ l. IsSome (waiting_move m s k l piece)) (sym same) refl)
      waiting (w ∷ others) same below = ⊎_elim
          (λ l. some_if false below (subst (λ x. IsSome (waiting_move m s k x piece)) (sym same) (rw (lt-ltb w.number (done_at s.seats w.worker) l) refl)))
          (λ ge. blocked w others same below ge)
          (cases_lt w.number (done_at s.seats w.worker))

      above : (t : Bool) → is_above s.trap k ≡ t → CanGoOn m s
      above true is = some_if true is refl
      above false is = waiting left refl is

  -- Where an iteration is pending some actor goes on: its worker, or one that finishes a lower iteration.
  pending_can : (fuel k u : ℕ) → k < fuel → u < m.width → In k (numbers (seat u)) → CanGoOn m s
  pending_can zero k u lt own among = absurd (omega arith)
  pending_can (suc fuel) k u lt own among = by_hand (seat u).hand refl (λ w v l wo mine. pending_can fuel w v l wo mine)
    where
      by_queue : (queue : List (Ticket B)) → (seat u).hand ≡ Idle → (seat u).queue ≡ queue → In k (queued_numbers queue) → CanGoOn m s
      by_queue [] h q among = elim among [ ]
      by_queue (ticket ∷ queue) h q among = idle_goes u ticket queue own h q

      waits_for : (h : ℕ) (left : List Wait) (piece : P) → (seat u).hand ≡ Holding h left piece → h ≤ k → ((w v : ℕ) → w < fuel → v < m.width → In w (numbers (seat v)) → CanGoOn m s) → (w : Wait) (others : List Wait) → left ≡ w ∷ others → is_above s.trap h ≡ false → done_at s.seats w.worker ≤ w.number → CanGoOn m s
      waits_for h left piece is le more w others same below ge = go (subst (Each (λ (x : Wait). (x.number < h) × (x.number % m.width ≡ x.worker))) same (hand_at m s i.tickets i.waits_left u (Holding h left piece) own is).1).0
        where
          go : (w.number < h) × (w.number % m.width ≡ w.worker) → CanGoOn m s
          go (lower, on) = fate ((i.tickets.seats w.worker inside_too).fate w.number handed on)
            where
              inside_too : w.worker < m.width
              inside_too = subst (λ x. x < m.width) on (mod_below w.number m.width setup.some_worker)

              handed : w.number < s.next
              handed = let n : h < s.next = (held m s i.tickets u h left piece own is).rises.2 in omega arith

              fate : Fate (done_at s.seats w.worker) (numbers (seat w.worker)) s.trap w.number → CanGoOn m s
              fate (IsDone l) = absurd (omega arith)
              fate (IsPending mine) = more w.number w.worker (omega arith) inside_too mine
              fate (IsCut cut) = absurd (not_cut s.trap w.number h below lower cut)

      by_hand : (hand : Hand P) → (seat u).hand ≡ hand → ((w v : ℕ) → w < fuel → v < m.width → In w (numbers (seat v)) → CanGoOn m s) → CanGoOn m s
      by_hand Idle is more = by_queue (seat u).queue is refl (subst (In k) (numbers_are m s i.tickets u Idle (seat u).queue is refl) among)
      by_hand (Holding h left piece) is more = held_goes u h left piece own is (waits_for h left piece is (le (subst (In k) (numbers_are m s i.tickets u (Holding h left piece) (seat u).queue is refl) among)) more)
        where
          le : In k (h ∷ queued_numbers (seat u).queue) → h ≤ k
          le mine = let t = (held m s i.tickets u h left piece own is).rises in (in_rises m.width u h s.next k (h ∷ queued_numbers (seat u).queue) (omega arith, t.1, t.2, t.3) mine).0
      by_hand Ended is more = elim (subst (In k) (numbers_are m s i.tickets u Ended [] is (i.ended u own is).0) among) [ ]

  -- an iteration that was handed out and isn't done, while no trap is kept
  unfinished_goes : s.trap ≡ None → (k : ℕ) → k < s.next → done_at s.seats (k % m.width) ≤ k → CanGoOn m s
  unfinished_goes none k lt ge = go ((i.tickets.seats (k % m.width) own).fate k lt refl)
    where
      own : k % m.width < m.width
      own = mod_below k m.width setup.some_worker

      go : Fate (done_at s.seats (k % m.width)) (numbers (seat (k % m.width))) s.trap k → CanGoOn m s
      go (IsDone l) = absurd (omega arith)
      go (IsPending mine) = pending_can (suc k) k (k % m.width) (omega arith) own mine
      go (IsCut cut) = absurd (subst (λ t. IsCutBy t k) none cut)

  in_queue : (held queued : List ℕ) (k : ℕ) → In k queued → In k (held ++ queued)
  in_queue [] queued k among = among
  in_queue (n ∷ held) queued k among = inr (in_queue held queued k among)

  -- a full queue has a pending iteration
  queued_goes : (u : ℕ) (queue : List (Ticket B)) → u < m.width → (seat u).queue ≡ queue → 0 < length queue → CanGoOn m s
  queued_goes u [] own q some = absurd (omega arith)
  queued_goes u (ticket ∷ queue) own q some = pending_can (suc ticket.number) ticket.number u (omega arith) own (in_queue (held_number (seat u).hand) (queued_numbers (seat u).queue) ticket.number (subst (λ x. In ticket.number (queued_numbers x)) (sym q) (inl refl)))

  event_goes : (event : Event B C) → (IsSome (event_move m s event) → CanGoOn m s) → s.trap ≡ None → CanGoOn m s
  event_goes End go none = go refl
  event_goes (Scalar purpose trap rest) go none = go refl
  event_goes (Close rest) go none = go refl
  event_goes (Drain purpose traps rests) go none = by_test (all_finished m.width s.seats s.next) refl
    where
      by_test : (t : Bool) → all_finished m.width s.seats s.next ≡ t → CanGoOn m s
      by_test true is = go (rw is refl)
      by_test false is = let k = unfinished_at m.width s.next s.seats is in unfinished_goes none k.0 k.1 k.2
  event_goes (Iterate b rest) go none = ⊎_elim
      (λ room. go (rw (lt-ltb (length (seat (s.next % m.width)).queue) m.room room) refl))
      (λ full. queued_goes (s.next % m.width) (seat (s.next % m.width)).queue (mod_below s.next m.width setup.some_worker) refl (let r : 0 < m.room = setup.some_room in omega arith))
      (cases_lt (length (seat (s.next % m.width)).queue) m.room)

  scheduler_can : s.halted ≡ false → CanGoOn m s
  scheduler_can on = go s.trap refl
    where
      enabled : IsSome (going_move m s s.trap) → CanGoOn m s
      enabled some = scheduler_goes (subst (λ b. IsSome (if b then None else going_move m s s.trap)) (sym on) some)

      go : (trap : Option Place) → s.trap ≡ trap → CanGoOn m s
      go None is = event_goes (m.event s.cursor) (λ some. enabled (subst (λ t. IsSome (going_move m s t)) (sym is) some)) is
      go (Some t) is = enabled (subst (λ x. IsSome (going_move m s x)) (sym is) refl)

  worker_can : s.halted ≡ true → (u : ℕ) → u < m.width → is_ended (seat u).hand ≡ false → CanGoOn m s
  worker_can over u own is = by_hand (seat u).hand refl
    where
      by_queue : (queue : List (Ticket B)) → (seat u).hand ≡ Idle → (seat u).queue ≡ queue → CanGoOn m s
      by_queue [] h q = worker_goes u Idle [] own h q (subst (λ b. IsSome {T = Move B C P} (if b then Some DoEnd else None)) (sym over) refl)
      by_queue (ticket ∷ queue) h q = idle_goes u ticket queue own h q

      by_hand : (hand : Hand P) → (seat u).hand ≡ hand → CanGoOn m s
      by_hand Idle h = by_queue (seat u).queue h refl
      by_hand (Holding k left piece) h = pending_can (suc k) k u (omega arith) own (subst (In k) (sym (numbers_are m s i.tickets u (Holding k left piece) (seat u).queue h refl)) (inl refl))
      by_hand Ended h = absurd (true≢false (sym (ap is_ended h) ∙ is))

  pub can_go_on : is_finished m s ≡ false → CanGoOn m s
  can_go_on unfinished = go s.halted refl
    where
      go : (t : Bool) → s.halted ≡ t → CanGoOn m s
      go false on = scheduler_can on
      go true over = ⊎_elim
          (λ on. absurd (true≢false (sym over ∙ on)))
          (λ some. let u = present_at s.seats some in let l : u.0 < length s.seats = u.1 in worker_can over u.0 (omega (arith, i.tickets.width)) u.2)
          (and_cases s.halted (list_all (λ (x : Seat B P). is_ended x.hand) s.seats) unfinished)

pub goes_on : (B C P : Type 0) → UnfinishedGoOn B C P
goes_on B C P m nest what start setup history s leads unfinished = can_go_on m nest what start setup s (trace_from m (opening m start nest.opening) history) (invariant_holds m nest what start setup history s leads) unfinished
