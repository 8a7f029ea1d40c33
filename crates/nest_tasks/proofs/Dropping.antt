-- What forgets something of its pieces makes the same moves.
use Rattle.std.proofs.Common.{◌≡◌, ℕ, zero, suc, ◌%◌, ℤ, Bool, true, false, ◌&&◌, if◌then◌else◌, nat_lt, ◌==◌, Option, Some, None, List, [], ◌∷◌, length, map, refl, ap, ◌∙◌, sym, ◌++◌}
use Rattle.std.proofs.Math.ListN.{get_or-map}
use Rattle.std.proofs.lemmas.List.{map-set}
use Rattle.std.specs.Prelude.{slice_set, replicate}
use Rattle.std.specs.List.{list_all}
use Rattle.std.specs.Option.{option_map, option_map_or, option_and_then}
use Rattle.nest_syntax.specs.declared.place.Place.{Place}
use Rattle.settle_law.specs.Tasks.{Stop, Loads, Stores, Goes, Finishes, Traps}
use Rattle.settle_law.specs.Courses.{Event, End, Scalar, Drain, Iterate, Close}
use Rattle.settle_law.specs.Runs.{run}
use Rattle.nest_syntax.specs.Arrays.{with_word}
use Rattle.nest_syntax.specs.Outcome.{place_of_trap}
use Rattle.domore_machine.specs.Waits.{Wait}
use Rattle.domore_machine.specs.Facts.{no_facts, iterated}
use Rattle.domore_machine.specs.Runs.{made_by, trace_from, is_finished}
use Rattle.domore_machine.specs.Machine.{Setup, State, Seat, Hand, Idle, Holding, Ended, Ticket, Move, DoScalar, DoClose, DoDrain, DoDispatch, DoHalt, DoTake, DoPass, DoRead, DoWrite, DoGo, DoFinish, DoTrap, DoDropHeld, DoDropQueued, DoEnd, ended_seat, opening_seat, seat_at, done_at, is_ended, seat_with, is_above, least_trap, all_finished, waits, ticket_of, accesses_of, ended_actor, opening, event_move, going_move, scheduler_move, idle_move, stop_move, waiting_move, worker_move, move_of, seat_after, state_after, step}
use Rattle.nest_tasks.specs.Forgetting.{forget_stop, forget_setup, forget_hand, forget_seat, forget, forget_move}

-- tests of one outcome or two, seen through a function
tested : {X Y : Type 0} (g : X → Y) (b : Bool) (x : X) → (if b then Some (g x) else None) ≡ option_map g (if b then Some x else None)
tested g true x = refl
tested g false x = refl

blocked : {X Y : Type 0} (g : X → Y) (b : Bool) (x : Option X) (y : Option Y) → y ≡ option_map g x → (if b then None else y) ≡ option_map g (if b then None else x)
blocked g true x y same = refl
blocked g false x y same = same

either : {X Y : Type 0} (g : X → Y) (b : Bool) (first : X) (x : Option X) (y : Option Y) → y ≡ option_map g x → (if b then Some (g first) else y) ≡ option_map g (if b then Some first else x)
either g true first x y same = refl
either g false first x y same = same

picked : {X Y : Type 0} (g : X → Y) (b c : Bool) (w x : Option X) (v y : Option Y) → v ≡ option_map g w → y ≡ option_map g x → (if b then v else if c then y else None) ≡ option_map g (if b then w else if c then x else None)
picked g true c w x v y first second = first
picked g false true w x v y first second = second
picked g false false w x v y first second = refl

map_replicate : {X Y : Type 0} (g : X → Y) (n : ℕ) (x : X) → map g (replicate n x) ≡ replicate n (g x)
map_replicate g zero x = refl
map_replicate g (suc n) x = ap (λ l. g x ∷ l) (map_replicate g n x)

module _ {B C P Q : Type 0} (m : Setup B C P) (f : P → Q) (stop : Q → Stop Q) (stops : (p : P) → stop (f p) ≡ forget_stop f (m.system.stop p)) where
  abbrev n : Setup B C Q
  n = forget_setup f stop m

  abbrev seat : Seat B P → Seat B Q
  seat = forget_seat f

  abbrev move : Move B C P → Move B C Q
  move = forget_move f

  pub seat_same : (seats : List (Seat B P)) (u : ℕ) → seat_at (map seat seats) u ≡ seat (seat_at seats u)
  seat_same seats u = get_or-map seat seats u ended_seat

  done_same : (seats : List (Seat B P)) (u : ℕ) → done_at (map seat seats) u ≡ done_at seats u
  done_same seats u = ap (λ (x : Seat B Q). x.done) (seat_same seats u)

  queue_same : (seats : List (Seat B P)) (u : ℕ) → (seat_at (map seat seats) u).queue ≡ (seat_at seats u).queue
  queue_same seats u = ap (λ (x : Seat B Q). x.queue) (seat_same seats u)

  finished_same : (seats : List (Seat B P)) (k : ℕ) → all_finished m.width (map seat seats) k ≡ all_finished m.width seats k
  finished_same seats zero = refl
  finished_same seats (suc k) = ap (λ d. nat_lt k d && all_finished m.width (map seat seats) k) (done_same seats (k % m.width)) ∙ ap (λ b. nat_lt k (done_at seats (k % m.width)) && b) (finished_same seats k)

  -- what is enabled is the same
  event_same : (s : State B C P) (e : Event B C) → event_move n (forget f s) e ≡ option_map move (event_move m s e)
  event_same s End = refl
  event_same s (Scalar purpose trap rest) = refl
  event_same s (Drain purpose trap rest) =
      ap (λ b. if b then Some (DoDrain purpose (trap s.words) (rest s.words)) else None) (finished_same s.seats s.next)
      ∙ tested move (all_finished m.width s.seats s.next) (DoDrain purpose (trap s.words) (rest s.words))
  event_same s (Iterate b rest) =
      ap (λ q. if nat_lt (length q) m.room then Some (DoDispatch b rest) else None) (queue_same s.seats (s.next % m.width))
      ∙ tested move (nat_lt (length (seat_at s.seats (s.next % m.width)).queue) m.room) (DoDispatch b rest)
  event_same s (Close rest) = refl

  going_same : (s : State B C P) (trap : Option Place) → going_move n (forget f s) trap ≡ option_map move (going_move m s trap)
  going_same s None = event_same s (m.event s.cursor)
  going_same s (Some trap) = refl

  scheduler_same : (s : State B C P) → scheduler_move n (forget f s) ≡ option_map move (scheduler_move m s)
  scheduler_same s = blocked move s.halted (going_move m s s.trap) (going_move n (forget f s) s.trap) (going_same s s.trap)

  idle_same : (s : State B C P) (queue : List (Ticket B)) → idle_move n (forget f s) queue ≡ option_map move (idle_move m s queue)
  idle_same s [] = tested move s.halted DoEnd
  idle_same s (ticket ∷ queue) = either move (is_above s.trap ticket.number) (DoDropQueued ticket queue) (Some (DoTake ticket queue)) (Some (DoTake ticket queue)) refl

  stop_same : (k : ℕ) (at : Stop P) → stop_move n k (forget_stop f at) ≡ move (stop_move m k at)
  stop_same k (Loads w next) = refl
  stop_same k (Stores w value next) = refl
  stop_same k (Goes next) = refl
  stop_same k Finishes = refl
  stop_same k (Traps cause line) = refl

  waiting_same : (s : State B C P) (k : ℕ) (left : List Wait) (piece : P) → waiting_move n (forget f s) k left (f piece) ≡ option_map move (waiting_move m s k left piece)
  waiting_same s k [] piece = ap (λ at. Some (stop_move n k at)) (stops piece) ∙ ap Some (stop_same k (m.system.stop piece))
  waiting_same s k (w ∷ left) piece =
      ap (λ d. if nat_lt w.number d then Some (DoPass k w left (f piece)) else None) (done_same s.seats w.worker)
      ∙ tested move (nat_lt w.number (done_at s.seats w.worker)) (DoPass k w left piece)

  worker_same : (s : State B C P) (hand : Hand P) (queue : List (Ticket B)) → worker_move n (forget f s) (forget_hand f hand) queue ≡ option_map move (worker_move m s hand queue)
  worker_same s Idle queue = idle_same s queue
  worker_same s (Holding k left piece) queue = either move (is_above s.trap k) (DoDropHeld k) (waiting_move m s k left piece) (waiting_move n (forget f s) k left (f piece)) (waiting_same s k left piece)
  worker_same s Ended queue = refl

  pub move_same : (s : State B C P) (u : ℕ) → move_of n (forget f s) u ≡ option_map move (move_of m s u)
  move_same s u =
      picked move (nat_lt u m.width) (u == m.width)
      (worker_move m s (seat_at s.seats u).hand (seat_at s.seats u).queue) (scheduler_move m s)
      (worker_move n (forget f s) (seat_at (map seat s.seats) u).hand (seat_at (map seat s.seats) u).queue) (scheduler_move n (forget f s))
      (ap (λ (x : Seat B Q). worker_move n (forget f s) x.hand x.queue) (seat_same s.seats u) ∙ worker_same s (seat_at s.seats u).hand (seat_at s.seats u).queue)
      (scheduler_same s)

  -- and so is what is afterwards
  own_same : (words : List ℤ) (x : Seat B P) (mv : Move B C P) → seat_after n words (seat x) (move mv) ≡ seat (seat_after m words x mv)
  own_same words x (DoScalar purpose trap rest) = refl
  own_same words x (DoClose rest) = refl
  own_same words x (DoDrain purpose trap rest) = refl
  own_same words x (DoDispatch b rest) = refl
  own_same words x DoHalt = refl
  own_same words x (DoTake ticket queue) = refl
  own_same words x (DoPass k w left piece) = refl
  own_same words x (DoRead k w next) = refl
  own_same words x (DoWrite k w value next) = refl
  own_same words x (DoGo k next) = refl
  own_same words x (DoFinish k) = refl
  own_same words x (DoTrap k cause line) = refl
  own_same words x (DoDropHeld k) = refl
  own_same words x (DoDropQueued ticket queue) = refl
  own_same words x DoEnd = refl

  set_same : (seats : List (Seat B P)) (u : ℕ) (x : Seat B P) (y : Seat B Q) → y ≡ seat x → slice_set (map seat seats) u y ≡ map seat (slice_set seats u x)
  set_same seats u x y same = ap (λ z. slice_set (map seat seats) u z) same ∙ sym (map-set seat seats u x)

  seats_same : (s : State B C P) (u : ℕ) (mv : Move B C P) → slice_set (map seat s.seats) u (seat_after n s.words (seat_at (map seat s.seats) u) (move mv)) ≡ map seat (slice_set s.seats u (seat_after m s.words (seat_at s.seats u) mv))
  seats_same s u mv =
      set_same s.seats u (seat_after m s.words (seat_at s.seats u) mv) (seat_after n s.words (seat_at (map seat s.seats) u) (move mv))
      (ap (λ x. seat_after n s.words x (move mv)) (seat_same s.seats u) ∙ own_same s.words (seat_at s.seats u) mv)

  -- a worker's row changes its seat; what it does to words and trap is left as it is
  seated : (s : State B C P) (u : ℕ) (mv : Move B C P) (words : List ℤ) (trap : Option Place)
      → (let t : State B C Q = record (forget f s) { words = words; seats = slice_set (map seat s.seats) u (seat_after n s.words (seat_at (map seat s.seats) u) (move mv)); trap = trap } in t)
      ≡ forget f (record s { words = words; seats = slice_set s.seats u (seat_after m s.words (seat_at s.seats u) mv); trap = trap })
  seated s u mv words trap = ap (λ l. let t : State B C Q = record (forget f s) { words = words; seats = l; trap = trap } in t) (seats_same s u mv)

  pub after_same : (s : State B C P) (u : ℕ) (mv : Move B C P) → state_after n (forget f s) u (move mv) ≡ forget f (state_after m s u mv)
  after_same s u (DoScalar purpose None rest) = refl
  after_same s u (DoScalar purpose (Some trap) rest) = refl
  after_same s u (DoClose rest) = refl
  after_same s u (DoDrain purpose None rest) = refl
  after_same s u (DoDrain purpose (Some trap) rest) = refl
  after_same s u (DoDispatch b rest) =
      let i = s.next % m.width in
      ap (λ l. let t : State B C Q = record (forget f s) { cursor = rest; next = suc s.next; seats = l; facts = iterated s.next (waits m s.next) s.facts } in t)
      (set_same s.seats i (seat_with (seat_at s.seats i) (ticket_of m s b)) (seat_with (seat_at (map seat s.seats) i) (ticket_of m s b))
      (ap (λ (x : Seat B Q). seat_with x (ticket_of m s b)) (seat_same s.seats i)))
  after_same s u DoHalt = refl
  after_same s u (DoTake ticket queue) = seated s u (DoTake ticket queue) s.words s.trap
  after_same s u (DoPass k w left piece) = seated s u (DoPass k w left piece) s.words s.trap
  after_same s u (DoRead k w next) = seated s u (DoRead k w next) s.words s.trap
  after_same s u (DoWrite k w value next) = seated s u (DoWrite k w value next) (with_word s.words w value) s.trap
  after_same s u (DoGo k next) = seated s u (DoGo k next) s.words s.trap
  after_same s u (DoFinish k) = seated s u (DoFinish k) s.words s.trap
  after_same s u (DoTrap k cause line) = seated s u (DoTrap k cause line) s.words (Some (least_trap s.trap (place_of_trap cause line k false)))
  after_same s u (DoDropHeld k) = seated s u (DoDropHeld k) s.words s.trap
  after_same s u (DoDropQueued ticket queue) = seated s u (DoDropQueued ticket queue) s.words s.trap
  after_same s u DoEnd = seated s u DoEnd s.words s.trap

  pub step_same : (s : State B C P) (u : ℕ) → step n (forget f s) u ≡ option_map (forget f) (step m s u)
  step_same s u = ap (option_map (state_after n (forget f s) u)) (move_same s u) ∙ go (move_of m s u)
    where
      go : (o : Option (Move B C P)) → option_map (state_after n (forget f s) u) (option_map move o) ≡ option_map (forget f) (option_map (state_after m s u) o)
      go None = refl
      go (Some mv) = ap Some (after_same s u mv)

  pub run_same : (history : List ℕ) (s : State B C P) → run (step n) (forget f s) history ≡ option_map (forget f) (run (step m) s history)
  run_same [] s = refl
  run_same (u ∷ history) s =
      ap (λ o. option_and_then (λ t. run (step n) t history) o) (step_same s u)
      ∙ elim (step m s u) as (λ o. option_and_then (λ t. run (step n) t history) (option_map (forget f) o) ≡ option_map (forget f) (option_and_then (λ t. run (step m) t history) o))
      [ None ↦ refl | Some t ↦ run_same history t ]

  pub opening_same : (cursor : C) (words : List ℤ) → opening n cursor words ≡ forget f (opening m cursor words)
  opening_same cursor words =
      ap (λ l. let t : State B C Q = record { words = words; cursor = cursor; next = 0; seats = l; trap = None; halted = false; facts = no_facts } in t) (sym (map_replicate seat m.width opening_seat))

  -- so is what is ended, and what accesses are made
  hand_same : (hand : Hand P) → is_ended (forget_hand f hand) ≡ is_ended hand
  hand_same Idle = refl
  hand_same (Holding k left piece) = refl
  hand_same Ended = refl

  pub finishes_same : (s : State B C P) → is_finished n (forget f s) ≡ is_finished m s
  finishes_same s = ap (λ b. s.halted && b) (all s.seats)
    where
      all : (seats : List (Seat B P)) → list_all (λ (x : Seat B Q). is_ended x.hand) (map seat seats) ≡ list_all (λ (x : Seat B P). is_ended x.hand) seats
      all [] = refl
      all (x ∷ seats) = ap (λ b. b && list_all (λ (y : Seat B Q). is_ended y.hand) (map seat seats)) (hand_same x.hand) ∙ ap (λ b. is_ended x.hand && b) (all seats)

  pub ended_same : (s : State B C P) (u : ℕ) → ended_actor n (forget f s) u ≡ ended_actor m s u
  ended_same s u =
      ap (λ b. if nat_lt u m.width then b else if u == m.width then s.halted else true)
      (ap (λ (x : Seat B Q). is_ended x.hand) (seat_same s.seats u) ∙ hand_same (seat_at s.seats u).hand)

  accesses_same : (words : List ℤ) (mv : Move B C P) → accesses_of n words (move mv) ≡ accesses_of m words mv
  accesses_same words (DoScalar purpose trap rest) = refl
  accesses_same words (DoClose rest) = refl
  accesses_same words (DoDrain purpose trap rest) = refl
  accesses_same words (DoDispatch b rest) = refl
  accesses_same words DoHalt = refl
  accesses_same words (DoTake ticket queue) = refl
  accesses_same words (DoPass k w left piece) = refl
  accesses_same words (DoRead k w next) = refl
  accesses_same words (DoWrite k w value next) = refl
  accesses_same words (DoGo k next) = refl
  accesses_same words (DoFinish k) = refl
  accesses_same words (DoTrap k cause line) = refl
  accesses_same words (DoDropHeld k) = refl
  accesses_same words (DoDropQueued ticket queue) = refl
  accesses_same words DoEnd = refl

  made_same : (s : State B C P) (u : ℕ) → made_by n (forget f s) u ≡ made_by m s u
  made_same s u = ap (λ o. option_map_or (accesses_of n s.words) o []) (move_same s u) ∙ go (move_of m s u)
    where
      go : (o : Option (Move B C P)) → option_map_or (accesses_of n s.words) (option_map move o) [] ≡ option_map_or (accesses_of m s.words) o []
      go None = refl
      go (Some mv) = accesses_same s.words mv

  pub trace_same : (history : List ℕ) (s : State B C P) → trace_from n (forget f s) history ≡ trace_from m s history
  trace_same [] s = refl
  trace_same (u ∷ history) s =
      ap (λ o. option_map_or (λ t. made_by n (forget f s) u ++ trace_from n t history) o []) (step_same s u)
      ∙ ap (λ made. option_map_or (λ t. made ++ trace_from n t history) (option_map (forget f) (step m s u)) []) (made_same s u)
      ∙ elim (step m s u) as (λ o. option_map_or (λ t. made_by m s u ++ trace_from n t history) (option_map (forget f) o) [] ≡ option_map_or (λ t. made_by m s u ++ trace_from m t history) o [])
      [ None ↦ refl | Some t ↦ ap (λ l. made_by m s u ++ l) (trace_same history t) ]

-- each history leads through the same states, and makes the same accesses
pub histories_same : {B C P Q : Type 0} (m : Setup B C P) (f : P → Q) (stop : Q → Stop Q) → ((p : P) → stop (f p) ≡ forget_stop f (m.system.stop p))
    → (history : List ℕ) (cursor : C) (words : List ℤ)
    → (run (step (forget_setup f stop m)) (opening (forget_setup f stop m) cursor words) history ≡ option_map (forget f) (run (step m) (opening m cursor words) history))
    × (trace_from (forget_setup f stop m) (opening (forget_setup f stop m) cursor words) history ≡ trace_from m (opening m cursor words) history)
histories_same m f stop stops history cursor words =
    let opens = opening_same m f stop stops cursor words in (
      ap (λ s. run (step (forget_setup f stop m)) s history) opens ∙ run_same m f stop stops history (opening m cursor words),
      ap (λ s. trace_from (forget_setup f stop m) s history) opens ∙ trace_same m f stop stops history (opening m cursor words),
    )
