-- What forgets something of its pieces and its notes makes the same moves.
use Rattle.std.proofs.Common.{◌≡◌, ℕ, zero, suc, ◌+◌, ℤ, Bool, true, false, ◌&&◌, ◌||◌, not, if◌then◌else◌, nat_lt, nat_le, ◌==◌, Option, Some, None, List, [], ◌∷◌, ◌++◌, length, map, refl, ap, ◌∙◌, sym}
use Rattle.std.proofs.Math.ListN.{get_or-map}
use Rattle.std.proofs.lemmas.List.{map-set, map-append}
use Rattle.std.specs.Prelude.{slice_set, slice_index_or, replicate}
use Rattle.std.specs.List.{find, list_all, list_any}
use Rattle.std.specs.Option.{option_map, option_map_or, option_and_then}
use Rattle.nest_syntax.specs.declared.operators.Cause.{Cause}
use Rattle.nest_syntax.specs.declared.names.Line.{Line}
use Rattle.nest_syntax.specs.declared.place.Place.{Place}
use Rattle.nest_syntax.specs.Arrays.{word_at, with_word}
use Rattle.nest_syntax.specs.Outcome.{place_of_trap}
use Rattle.settle_law.specs.Traces.{Access, Read, Write}
use Rattle.settle_law.specs.Tasks.{Stop, Loads, Stores, Goes, Finishes, Traps}
use Rattle.settle_law.specs.Runs.{run}
use Rattle.nest_tasks.specs.Forgetting.{forget_stop}
use Rattle.spec_machine.specs.Invocations.{Event, End, Scalar, Drain, Invoke}
use Rattle.spec_machine.specs.Signatures.{note}
use Rattle.spec_machine.specs.Facts.{Task, Pair, Abort, Fails}
use Rattle.spec_machine.specs.Machine.{Setup, State, Seat, Hand, Idle, Empty, Running, Stopped, Epoch, Move, DoScalar, DoDrain, DoOpen, DoClose, DoCommit, DoRestore, DoConclude, DoBegin, DoRead, DoWrite, DoGo, DoNext, DoFinish, DoFail, DoTrap, DoLetGo, DoStop, DoCheck, DoAbort, fresh_seat, seat_at, done_at, dones, saw_in, saw, is_running, is_stopped, pairs, is_unordered, is_passed, is_open, all_from, first_open, due_if, due, opening, from, to, piece_at, first_hand, at_end, drain_move, event_move, early_move, is_ready, sealed_move, trap_move, scheduler_move, is_near, begin_move, has_below, idle_move, empty_move, failing_move, stop_move, running_move, hand_move, worker_move, sign_at, overlap_of, compared_move, checker_move, going_move, move_of, accesses_of, noted_in, seat_after, abort_after, state_after, step}
use Rattle.spec_machine.specs.Runs.{trace_after, trace_from, rollback_of, rollbacks_from}
use Rattle.spec_tasks.specs.Notes.{Note, sign_of}
use Rattle.spec_tasks.specs.Forgetting.{forget_setup, with_notes, forget_hand, forget_seat, forget, forget_move}

-- tests seen through a function
picked : {X Y : Type 0} (g : X → Y) (b : Bool) (x y : X) → (if b then g x else g y) ≡ g (if b then x else y)
picked g true x y = refl
picked g false x y = refl

tested : {X Y : Type 0} (g : X → Y) (b : Bool) (x : X) → (if b then Some (g x) else None) ≡ option_map g (if b then Some x else None)
tested g true x = refl
tested g false x = refl

both : {X Y : Type 0} (g : X → Y) (b : Bool) (w x : Option X) (v y : Option Y) → v ≡ option_map g w → y ≡ option_map g x → (if b then v else y) ≡ option_map g (if b then w else x)
both g true w x v y first second = first
both g false w x v y first second = second

map_replicate : {X Y : Type 0} (g : X → Y) (n : ℕ) (x : X) → map g (replicate n x) ≡ replicate n (g x)
map_replicate g zero x = refl
map_replicate g (suc n) x = ap (λ l. g x ∷ l) (map_replicate g n x)

all_same : {X Y : Type 0} (g : X → Y) (p : Y → Bool) (q : X → Bool) → ((x : X) → p (g x) ≡ q x) → (xs : List X) → list_all p (map g xs) ≡ list_all q xs
all_same g p q same [] = refl
all_same g p q same (x ∷ xs) = λ i. same x i && all_same g p q same xs i

any_same : {X Y : Type 0} (g : X → Y) (p : Y → Bool) (q : X → Bool) → ((x : X) → p (g x) ≡ q x) → (xs : List X) → list_any p (map g xs) ≡ list_any q xs
any_same g p q same [] = refl
any_same g p q same (x ∷ xs) = λ i. same x i || any_same g p q same xs i

module _ {B C P Q G : Type 0} (m : Setup B C P G) (f : P → Q) (stop : Q → Stop Q) (stops : (p : P) → stop (f p) ≡ forget_stop f (m.system.stop p)) where
  abbrev pub n : Setup B C Q G
  n = forget_setup f stop m

  abbrev pub l : Setup B C P (List Note)
  l = with_notes m

  abbrev seat : Seat P (List Note) → Seat Q G
  seat = forget_seat f m.kind

  abbrev move : Move B C P → Move B C Q
  move = forget_move f

  abbrev gone : State B C P (List Note) → State B C Q G
  gone = forget f m.kind

  abbrev State_l : Type 0
  State_l = State B C P (List Note)

  pub seat_same : (seats : List (Seat P (List Note))) (u : ℕ) → seat_at (map seat seats) u ≡ seat (seat_at seats u)
  seat_same seats u = get_or-map seat seats u fresh_seat

  done_same : (seats : List (Seat P (List Note))) (u : ℕ) → done_at (map seat seats) u ≡ done_at seats u
  done_same seats u = ap (λ (x : Seat Q G). x.done) (seat_same seats u)

  pub saw_same : (seats : List (Seat P (List Note))) (e u v : ℕ) → saw (map seat seats) e u v ≡ saw seats e u v
  saw_same seats e u v = ap (λ (x : Seat Q G). saw_in x e v) (seat_same seats u)

  dones_same : (seats : List (Seat P (List Note))) → dones (map seat seats) ≡ dones seats
  dones_same [] = refl
  dones_same (x ∷ seats) = ap (λ ds. x.done ∷ ds) (dones_same seats)

  pub unordered_same : (seats : List (Seat P (List Note))) (p : Pair) → is_unordered (map seat seats) p ≡ is_unordered seats p
  unordered_same seats p = ap (λ d. nat_le d p.early.epoch) (saw_same seats p.late.epoch p.late.worker p.early.worker)

  open_same : (seats : List (Seat P (List Note))) (passed : List Pair) (p : Pair) → is_open (map seat seats) passed p ≡ is_open seats passed p
  open_same seats passed p = ap (λ b. b && not (is_passed passed p)) (unordered_same seats p)

  finished_same : (t : Task) (v : ℕ) (seats : List (Seat P (List Note))) → all_from t v (map seat seats) ≡ all_from t v seats
  finished_same t v [] = refl
  finished_same t v (x ∷ seats) = ap (λ b. (if nat_le v t.worker then nat_lt t.epoch x.done else nat_le t.epoch x.done) && b) (finished_same t (suc v) seats)

  due_same : (s : State_l) → due m.width (gone s) ≡ due m.width s
  due_same s =
      ap (due_if (map seat s.seats)) (λ i. find (λ p. open_same s.seats s.passed p i) (pairs m.width (length s.epochs)))
      ∙ by (first_open m.width s)
    where
      by : (o : Option Pair) → due_if (map seat s.seats) o ≡ due_if s.seats o
      by None = refl
      by (Some p) = ap (λ b. if b then Some p else None) (finished_same p.late 0 s.seats)

  pub sign_same : (seats : List (Seat P (List Note))) (t : Task) → sign_at n (map seat seats) t ≡ sign_of m.kind (sign_at l seats t)
  sign_same seats t =
      ap (λ (x : Seat Q G). slice_index_or x.signs t.epoch m.kind.blank) (seat_same seats t.worker)
      ∙ get_or-map (sign_of m.kind) (seat_at seats t.worker).signs t.epoch []

  pub overlap_same : (seats : List (Seat P (List Note))) (p : Pair) → overlap_of n (map seat seats) p ≡ overlap_of l seats p
  overlap_same seats p = λ i. m.kind.overlap (sign_same seats p.early i) (sign_same seats p.late i)

  hand_first : (epochs : List (Epoch B)) (e u : ℕ) → first_hand n epochs e u ≡ forget_hand f (first_hand l epochs e u)
  hand_first epochs e u = picked (forget_hand f) (nat_lt (from l epochs e u) (to l epochs e u)) (Running (from l epochs e u) (piece_at l epochs e (from l epochs e u))) Empty

  running_same : (hand : Hand P) → is_running (forget_hand f hand) ≡ is_running hand
  running_same Idle = refl
  running_same Empty = refl
  running_same (Running k piece) = refl
  running_same Stopped = refl

  stopped_same : (hand : Hand P) → is_stopped (forget_hand f hand) ≡ is_stopped hand
  stopped_same Idle = refl
  stopped_same Empty = refl
  stopped_same (Running k piece) = refl
  stopped_same Stopped = refl

  -- what is enabled is the same
  end_same : (epochs : List (Epoch B)) → at_end n epochs ≡ move (at_end l epochs)
  end_same [] = refl
  end_same (x ∷ epochs) = refl

  event_same : (s : State_l) (e : Event B C) → event_move n (gone s) e ≡ move (event_move l s e)
  event_same s End = end_same s.epochs
  event_same s (Scalar purpose trap rest) = picked move (nat_lt (length s.epochs) m.room) (DoScalar purpose trap rest) DoClose
  event_same s (Drain purpose trap rest) = by s.epochs
    where
      by : (epochs : List (Epoch B)) → drain_move n epochs purpose (trap s.words) (rest s.words) ≡ move (drain_move l epochs purpose (trap s.words) (rest s.words))
      by [] = refl
      by (x ∷ epochs) = refl
  event_same s (Invoke b k rest) = picked move (nat_lt (length s.epochs) m.room) (DoOpen b k rest) DoClose

  early_same : (s : State_l) (early : Option Place) → early_move n (gone s) early ≡ move (early_move l s early)
  early_same s None = event_same s (m.event s.cursor)
  early_same s (Some trap) = end_same s.epochs

  ready_same : (s : State_l) → is_ready n (gone s) ≡ is_ready l s
  ready_same s = λ i. all_same seat (λ (x : Seat Q G). x.done == length s.epochs) (λ (x : Seat P (List Note)). x.done == length s.epochs) (λ x. refl) s.seats i
      && not (list_any (λ p. open_same s.seats s.passed p i) (pairs m.width (length s.epochs)))

  sealed_same : (s : State_l) (sealed : Bool) → sealed_move n (gone s) sealed ≡ option_map move (sealed_move l s sealed)
  sealed_same s true = ap (λ b. if b then Some DoCommit else None) (ready_same s) ∙ tested move (is_ready l s) DoCommit
  sealed_same s false = ap Some (early_same s s.early)

  trap_same : (s : State_l) (trap : Option Place) → trap_move n (gone s) trap ≡ option_map move (trap_move l s trap)
  trap_same s None = sealed_same s s.sealed
  trap_same s (Some trap) =
      ap (λ b. if b then Some DoConclude else None) (all_same seat (λ (x : Seat Q G). is_stopped x.hand) (λ (x : Seat P (List Note)). is_stopped x.hand) (λ x. stopped_same x.hand) s.seats)
      ∙ tested move (list_all (λ (x : Seat P (List Note)). is_stopped x.hand) s.seats) DoConclude

  scheduler_same : (s : State_l) (abort : Option Abort) → scheduler_move n (gone s) abort ≡ option_map move (scheduler_move l s abort)
  scheduler_same s None = trap_same s s.trap
  scheduler_same s (Some cause) =
      ap (λ b. if b then None else Some (DoRestore cause)) (any_same seat (λ (x : Seat Q G). is_running x.hand) (λ (x : Seat P (List Note)). is_running x.hand) (λ x. running_same x.hand) s.seats)
      ∙ both move (list_any (λ (x : Seat P (List Note)). is_running x.hand) s.seats) None (Some (DoRestore cause)) None (Some (DoRestore cause)) refl refl

  near_same : (s : State_l) (e : ℕ) → is_near n (gone s) e ≡ is_near l s e
  near_same s e = all_same seat (λ (x : Seat Q G). nat_le e (x.done + s.distance)) (λ (x : Seat P (List Note)). nat_le e (x.done + s.distance)) (λ x. refl) s.seats

  begin_same : (s : State_l) (e u : ℕ) → begin_move n (gone s) e u ≡ option_map move (begin_move l s e u)
  begin_same s e u =
      (λ i. if nat_lt e (length s.epochs) && near_same s e i then Some (DoBegin (hand_first s.epochs e u i)) else None)
      ∙ tested move (nat_lt e (length s.epochs) && is_near l s e) (DoBegin (first_hand l s.epochs e u))

  idle_same : (s : State_l) (trap : Option Place) (e u : ℕ) → idle_move n (gone s) trap e u ≡ option_map move (idle_move l s trap e u)
  idle_same s None e u = begin_same s e u
  idle_same s (Some trap) e u = both move (has_below l s.epochs e u trap.number) (begin_move l s e u) (Some DoStop) (begin_move n (gone s) e u) (Some DoStop) (begin_same s e u) refl

  empty_same : (trap : Option Place) → empty_move n trap ≡ move (empty_move l trap)
  empty_same None = refl
  empty_same (Some trap) = refl

  failing_same : (distance k : ℕ) (cause : Cause) (line : Line) → failing_move n distance k cause line ≡ move (failing_move l distance k cause line)
  failing_same zero k cause line = refl
  failing_same (suc distance) k cause line = refl

  stop_same : (s : State_l) (e u k : ℕ) (at : Stop P) → stop_move n (gone s) e u k (forget_stop f at) ≡ move (stop_move l s e u k at)
  stop_same s e u k (Loads w next) = refl
  stop_same s e u k (Stores w value next) = refl
  stop_same s e u k (Goes next) = refl
  stop_same s e u k Finishes = picked move (nat_lt (suc k) (to l s.epochs e u)) (DoNext (suc k) (piece_at l s.epochs e (suc k))) DoFinish
  stop_same s e u k (Traps cause line) = failing_same s.distance k cause line

  at_stop : (s : State_l) (e u k : ℕ) (piece : P) → stop_move n (gone s) e u k (stop (f piece)) ≡ move (stop_move l s e u k (m.system.stop piece))
  at_stop s e u k piece = ap (stop_move n (gone s) e u k) (stops piece) ∙ stop_same s e u k (m.system.stop piece)

  moving_same : (s : State_l) (trap : Option Place) (e u k : ℕ) (piece : P) → running_move n (gone s) trap e u k (f piece) ≡ move (running_move l s trap e u k piece)
  moving_same s None e u k piece = at_stop s e u k piece
  moving_same s (Some trap) e u k piece =
      ap (λ x. if nat_lt k trap.number then x else DoStop) (at_stop s e u k piece)
      ∙ picked move (nat_lt k trap.number) (stop_move l s e u k (m.system.stop piece)) DoStop

  hand_same : (s : State_l) (hand : Hand P) (e u : ℕ) → hand_move n (gone s) (forget_hand f hand) e u ≡ option_map move (hand_move l s hand e u)
  hand_same s Idle e u = idle_same s s.trap e u
  hand_same s Empty e u = ap Some (empty_same s.trap)
  hand_same s (Running k piece) e u = ap Some (moving_same s s.trap e u k piece)
  hand_same s Stopped e u = refl

  worker_same : (s : State_l) (abort : Option Abort) (u : ℕ) → worker_move n (gone s) abort u ≡ option_map move (worker_move l s abort u)
  worker_same s None u = ap (λ (x : Seat Q G). hand_move n (gone s) x.hand x.done u) (seat_same s.seats u) ∙ hand_same s (seat_at s.seats u).hand (seat_at s.seats u).done u
  worker_same s (Some cause) u =
      ap (λ b. if b then Some DoLetGo else None) (ap (λ (x : Seat Q G). is_running x.hand) (seat_same s.seats u) ∙ running_same (seat_at s.seats u).hand)
      ∙ tested move (is_running (seat_at s.seats u).hand) DoLetGo

  checker_same : (s : State_l) (abort : Option Abort) (trap : Option Place) → checker_move n (gone s) abort trap ≡ option_map move (checker_move l s abort trap)
  checker_same s None None = ap (option_map (λ p. compared_move n p (overlap_of n (map seat s.seats) p))) (due_same s) ∙ by (due m.width s)
    where
      compared : (p : Pair) (o : Option ℕ) → compared_move n p o ≡ move (compared_move l p o)
      compared p None = refl
      compared p (Some array) = refl

      by : (o : Option Pair) → option_map (λ p. compared_move n p (overlap_of n (map seat s.seats) p)) o ≡ option_map move (option_map (λ p. compared_move l p (overlap_of l s.seats p)) o)
      by None = refl
      by (Some p) = ap (λ o. Some (compared_move n p o)) (overlap_same s.seats p) ∙ ap Some (compared p (overlap_of l s.seats p))
  checker_same s None (Some trap) = refl
  checker_same s (Some cause) trap = refl

  going_same : (s : State_l) (u : ℕ) → going_move n (gone s) u ≡ option_map move (going_move l s u)
  going_same s u =
      both move (nat_lt u m.width) (worker_move l s s.abort u) (if u == m.width then scheduler_move l s s.abort else if u == suc m.width then checker_move l s s.abort s.trap else None)
      (worker_move n (gone s) s.abort u) (if u == m.width then scheduler_move n (gone s) s.abort else if u == suc m.width then checker_move n (gone s) s.abort s.trap else None)
      (worker_same s s.abort u)
      (both move (u == m.width) (scheduler_move l s s.abort) (if u == suc m.width then checker_move l s s.abort s.trap else None)
      (scheduler_move n (gone s) s.abort) (if u == suc m.width then checker_move n (gone s) s.abort s.trap else None)
      (scheduler_same s s.abort)
      (both move (u == suc m.width) (checker_move l s s.abort s.trap) None (checker_move n (gone s) s.abort s.trap) None (checker_same s s.abort s.trap) refl))

  pub move_same : (s : State_l) (u : ℕ) → move_of n (gone s) u ≡ option_map move (move_of l s u)
  move_same s u = both move s.concluded None (going_move l s u) None (going_move n (gone s) u) refl (going_same s u)

  -- and so is what is afterwards
  accesses_same : (words : List ℤ) (mv : Move B C P) → accesses_of n words (move mv) ≡ accesses_of l words mv
  accesses_same words (DoScalar purpose trap rest) = refl
  accesses_same words (DoDrain purpose trap rest) = refl
  accesses_same words (DoOpen b k rest) = refl
  accesses_same words DoClose = refl
  accesses_same words DoCommit = refl
  accesses_same words (DoRestore cause) = refl
  accesses_same words DoConclude = refl
  accesses_same words (DoBegin hand) = refl
  accesses_same words (DoRead k w next) = refl
  accesses_same words (DoWrite k w value next) = refl
  accesses_same words (DoGo k next) = refl
  accesses_same words (DoNext k piece) = refl
  accesses_same words DoFinish = refl
  accesses_same words DoFail = refl
  accesses_same words (DoTrap k cause line) = refl
  accesses_same words DoLetGo = refl
  accesses_same words DoStop = refl
  accesses_same words (DoCheck p) = refl
  accesses_same words (DoAbort p array) = refl

  noted_one : (a : Access) (notes : List Note) → note m.kind a (sign_of m.kind notes) ≡ sign_of m.kind (note l.kind a notes)
  noted_one (Read k w value) notes = refl
  noted_one (Write k w value) notes = refl

  noted_same : (made : List Access) (e : ℕ) (signs : List (List Note)) → noted_in n made e (map (sign_of m.kind) signs) ≡ map (sign_of m.kind) (noted_in l made e signs)
  noted_same [] e signs = refl
  noted_same (a ∷ made) e signs =
      ap (λ x. slice_set (map (sign_of m.kind) signs) e (note m.kind a x)) (get_or-map (sign_of m.kind) signs e [])
      ∙ ap (slice_set (map (sign_of m.kind) signs) e) (noted_one a (slice_index_or signs e []))
      ∙ sym (map-set (sign_of m.kind) signs e (note l.kind a (slice_index_or signs e [])))

  own_same : (s : State_l) (x : Seat P (List Note)) (mv : Move B C P) → seat_after n (gone s) (seat x) (move mv) ≡ seat (seat_after l s x mv)
  own_same s x (DoScalar purpose trap rest) = refl
  own_same s x (DoDrain purpose trap rest) = refl
  own_same s x (DoOpen b k rest) = refl
  own_same s x DoClose = refl
  own_same s x DoCommit = refl
  own_same s x (DoRestore cause) = refl
  own_same s x DoConclude = refl
  own_same s x (DoBegin hand) = λ i. record {
    hand = forget_hand f hand;
    done = x.done;
    seen = x.seen ++ dones_same s.seats i ∷ [];
    signs = sym (map-append (sign_of m.kind) x.signs ([] ∷ [])) i;
  }
  own_same s x (DoRead k w next) = λ i. record {
    hand = Running k (f (next (word_at s.words w)));
    done = x.done;
    seen = x.seen;
    signs = noted_same (accesses_of l s.words (DoRead k w next)) x.done x.signs i;
  }
  own_same s x (DoWrite k w value next) = λ i. record {
    hand = Running k (f next);
    done = x.done;
    seen = x.seen;
    signs = noted_same (Write k w value ∷ []) x.done x.signs i;
  }
  own_same s x (DoGo k next) = refl
  own_same s x (DoNext k piece) = refl
  own_same s x DoFinish = refl
  own_same s x DoFail = refl
  own_same s x (DoTrap k cause line) = refl
  own_same s x DoLetGo = refl
  own_same s x DoStop = refl
  own_same s x (DoCheck p) = refl
  own_same s x (DoAbort p array) = refl

  seats_same : (s : State_l) (u : ℕ) (mv : Move B C P) → slice_set (map seat s.seats) u (seat_after n (gone s) (seat_at (map seat s.seats) u) (move mv)) ≡ map seat (slice_set s.seats u (seat_after l s (seat_at s.seats u) mv))
  seats_same s u mv =
      ap (λ x. slice_set (map seat s.seats) u (seat_after n (gone s) x (move mv))) (seat_same s.seats u)
      ∙ ap (slice_set (map seat s.seats) u) (own_same s (seat_at s.seats u) mv)
      ∙ sym (map-set seat s.seats u (seat_after l s (seat_at s.seats u) mv))

  -- a worker's row changes its seat; what it does to words, abort and trap is left as it is
  seated : (s : State_l) (u : ℕ) (mv : Move B C P) (words : List ℤ) (abort : Option Abort) (trap : Option Place)
      → (let t : State B C Q G = record (gone s) { words = words; seats = slice_set (map seat s.seats) u (seat_after n (gone s) (seat_at (map seat s.seats) u) (move mv)); abort = abort; trap = trap } in t)
      ≡ gone (record s { words = words; seats = slice_set s.seats u (seat_after l s (seat_at s.seats u) mv); abort = abort; trap = trap })
  seated s u mv words abort trap = ap (λ x. let t : State B C Q G = record (gone s) { words = words; seats = x; abort = abort; trap = trap } in t) (seats_same s u mv)

  abbrev anew : List (Seat Q G) → State B C Q G → State B C Q G
  anew seats s = record s { seats = seats }

  fresh_same : replicate m.width fresh_seat ≡ map seat (replicate m.width fresh_seat)
  fresh_same = sym (map_replicate seat m.width fresh_seat)

  pub after_same : (s : State_l) (u : ℕ) (mv : Move B C P) → state_after n (gone s) u (move mv) ≡ gone (state_after l s u mv)
  after_same s u (DoScalar purpose None rest) = refl
  after_same s u (DoScalar purpose (Some trap) rest) = refl
  after_same s u (DoDrain purpose None rest) = refl
  after_same s u (DoDrain purpose (Some trap) rest) = refl
  after_same s u (DoOpen b k rest) = refl
  after_same s u DoClose = refl
  after_same s u DoCommit = ap (λ seats. anew seats (gone (state_after l s u DoCommit))) fresh_same
  after_same s u (DoRestore cause) = ap (λ seats. anew seats (gone (state_after l s u (DoRestore cause)))) fresh_same
  after_same s u DoConclude = refl
  after_same s u (DoBegin hand) = seated s u (DoBegin hand) s.words s.abort s.trap
  after_same s u (DoRead k w next) = seated s u (DoRead k w next) s.words s.abort s.trap
  after_same s u (DoWrite k w value next) = seated s u (DoWrite k w value next) (with_word s.words w value) s.abort s.trap
  after_same s u (DoGo k next) = seated s u (DoGo k next) s.words s.abort s.trap
  after_same s u (DoNext k piece) = seated s u (DoNext k piece) s.words s.abort s.trap
  after_same s u DoFinish = seated s u DoFinish s.words s.abort s.trap
  after_same s u DoFail =
      ap (λ e. let t : State B C Q G = record (gone s) { seats = slice_set (map seat s.seats) u (seat_after n (gone s) (seat_at (map seat s.seats) u) DoFail); abort = Some (Fails (record { epoch = e; worker = u })) } in t) (done_same s.seats u)
      ∙ seated s u DoFail s.words (abort_after l s u DoFail) s.trap
  after_same s u (DoTrap k cause line) = seated s u (DoTrap k cause line) s.words s.abort (Some (place_of_trap cause line k false))
  after_same s u DoLetGo = seated s u DoLetGo s.words s.abort s.trap
  after_same s u DoStop = seated s u DoStop s.words s.abort s.trap
  after_same s u (DoCheck p) = refl
  after_same s u (DoAbort p array) = refl

  pub step_same : (s : State_l) (u : ℕ) → step n (gone s) u ≡ option_map gone (step l s u)
  step_same s u = ap (option_map (state_after n (gone s) u)) (move_same s u) ∙ by (move_of l s u)
    where
      by : (o : Option (Move B C P)) → option_map (state_after n (gone s) u) (option_map move o) ≡ option_map gone (option_map (state_after l s u) o)
      by None = refl
      by (Some mv) = ap Some (after_same s u mv)

  pub run_same : (history : List ℕ) (s : State_l) → run (step n) (gone s) history ≡ option_map gone (run (step l) s history)
  run_same [] s = refl
  run_same (u ∷ history) s =
      ap (λ o. option_and_then (λ t. run (step n) t history) o) (step_same s u)
      ∙ elim (step l s u) as (λ o. option_and_then (λ t. run (step n) t history) (option_map gone o) ≡ option_map gone (option_and_then (λ t. run (step l) t history) o))
      [ None ↦ refl | Some t ↦ run_same history t ]

  pub opening_same : (cursor : C) (words : List ℤ) → opening n cursor words ≡ gone (opening l cursor words)
  opening_same cursor words = ap (λ seats. anew seats (gone (opening l cursor words))) fresh_same

  trace_step : (trace : List Access) (words : List ℤ) (mv : Move B C P) → trace_after n trace words (move mv) ≡ trace_after l trace words mv
  trace_step trace words (DoScalar purpose trap rest) = refl
  trace_step trace words (DoDrain purpose trap rest) = refl
  trace_step trace words (DoOpen b k rest) = refl
  trace_step trace words DoClose = refl
  trace_step trace words DoCommit = refl
  trace_step trace words (DoRestore cause) = refl
  trace_step trace words DoConclude = refl
  trace_step trace words (DoBegin hand) = refl
  trace_step trace words (DoRead k w next) = refl
  trace_step trace words (DoWrite k w value next) = refl
  trace_step trace words (DoGo k next) = refl
  trace_step trace words (DoNext k piece) = refl
  trace_step trace words DoFinish = refl
  trace_step trace words DoFail = refl
  trace_step trace words (DoTrap k cause line) = refl
  trace_step trace words DoLetGo = refl
  trace_step trace words DoStop = refl
  trace_step trace words (DoCheck p) = refl
  trace_step trace words (DoAbort p array) = refl

  pub trace_same : (history : List ℕ) (s : State_l) (trace : List Access) → trace_from n (gone s) trace history ≡ trace_from l s trace history
  trace_same [] s trace = refl
  trace_same (u ∷ history) s trace =
      ap (λ o. option_map_or (λ mv. trace_from n (state_after n (gone s) u mv) (trace_after n trace s.words mv) history) o trace) (move_same s u)
      ∙ elim (move_of l s u) as (λ o. option_map_or (λ mv. trace_from n (state_after n (gone s) u mv) (trace_after n trace s.words mv) history) (option_map move o) trace ≡ option_map_or (λ mv. trace_from l (state_after l s u mv) (trace_after l trace s.words mv) history) o trace)
      [ None ↦ refl | Some mv ↦ (λ i. trace_from n (after_same s u mv i) (trace_step trace s.words mv i) history) ∙ trace_same history (state_after l s u mv) (trace_after l trace s.words mv) ]

  rollback_same : (s : State_l) (mv : Move B C P) → rollback_of n (gone s) (move mv) ≡ rollback_of l s mv
  rollback_same s (DoScalar purpose trap rest) = refl
  rollback_same s (DoDrain purpose trap rest) = refl
  rollback_same s (DoOpen b k rest) = refl
  rollback_same s DoClose = refl
  rollback_same s DoCommit = refl
  rollback_same s (DoRestore cause) = refl
  rollback_same s DoConclude = refl
  rollback_same s (DoBegin hand) = refl
  rollback_same s (DoRead k w next) = refl
  rollback_same s (DoWrite k w value next) = refl
  rollback_same s (DoGo k next) = refl
  rollback_same s (DoNext k piece) = refl
  rollback_same s DoFinish = refl
  rollback_same s DoFail = refl
  rollback_same s (DoTrap k cause line) = refl
  rollback_same s DoLetGo = refl
  rollback_same s DoStop = refl
  rollback_same s (DoCheck p) = refl
  rollback_same s (DoAbort p array) = refl

  pub rollbacks_same : (history : List ℕ) (s : State_l) → rollbacks_from n (gone s) history ≡ rollbacks_from l s history
  rollbacks_same [] s = refl
  rollbacks_same (u ∷ history) s =
      ap (λ o. option_map_or (λ mv. rollback_of n (gone s) mv ++ rollbacks_from n (state_after n (gone s) u mv) history) o []) (move_same s u)
      ∙ elim (move_of l s u) as (λ o. option_map_or (λ mv. rollback_of n (gone s) mv ++ rollbacks_from n (state_after n (gone s) u mv) history) (option_map move o) [] ≡ option_map_or (λ mv. rollback_of l s mv ++ rollbacks_from l (state_after l s u mv) history) o [])
      [ None ↦ refl | Some mv ↦ (λ i. rollback_same s mv i ++ rollbacks_from n (after_same s u mv i) history) ∙ ap (λ r. rollback_of l s mv ++ r) (rollbacks_same history (state_after l s u mv)) ]

-- each history leads through the same states, with the same accesses and rollbacks
pub histories_same : {B C P Q G : Type 0} (m : Setup B C P G) (f : P → Q) (stop : Q → Stop Q) → ((p : P) → stop (f p) ≡ forget_stop f (m.system.stop p))
    → (history : List ℕ) (cursor : C) (words : List ℤ)
    → (run (step (forget_setup f stop m)) (opening (forget_setup f stop m) cursor words) history ≡ option_map (forget f m.kind) (run (step (with_notes m)) (opening (with_notes m) cursor words) history))
    × (trace_from (forget_setup f stop m) (opening (forget_setup f stop m) cursor words) [] history ≡ trace_from (with_notes m) (opening (with_notes m) cursor words) [] history)
    × (rollbacks_from (forget_setup f stop m) (opening (forget_setup f stop m) cursor words) history ≡ rollbacks_from (with_notes m) (opening (with_notes m) cursor words) history)
histories_same m f stop stops history cursor words =
    let opens = opening_same m f stop stops cursor words in (
      ap (λ s. run (step (forget_setup f stop m)) s history) opens ∙ run_same m f stop stops history (opening (with_notes m) cursor words),
      ap (λ s. trace_from (forget_setup f stop m) s [] history) opens ∙ trace_same m f stop stops history (opening (with_notes m) cursor words) [],
      ap (λ s. rollbacks_from (forget_setup f stop m) s history) opens ∙ rollbacks_same m f stop stops history (opening (with_notes m) cursor words),
    )
