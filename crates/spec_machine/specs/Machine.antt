-- The machine: a scheduler opens whole invocations as epochs, workers pass the barriers between them, and a checker
-- compares what the tasks noted. Epochs are taken together to segments; a segment is committed, or given up and run again.
-- Actors have numbers: workers are 0 to `width - 1`, the scheduler is `width`, the checker is `width + 1`.
-- It is said for any invocations `B`, cursors `C`, pieces of work `P` and signatures `G`.
use Rattle.std.specs.Prelude.{ℕ, zero, suc, ◌+◌, ◌-◌, ◌*◌, ◌/◌, ◌%◌, ℤ, Bool, true, false, ◌&&◌, not, if◌then◌else◌, ◌==◌, Option, Some, None, List, [], ◌∷◌, ◌++◌, length, map, replicate, nat_lt, nat_le, slice_index_or, slice_set}
use Rattle.std.specs.Option.{option_map, option_map_or}
use Rattle.std.specs.List.{find, flat_map, list_all, list_any}
use Rattle.nest_syntax.specs.declared.names.Line.{Line}
use Rattle.nest_syntax.specs.declared.operators.Cause.{Cause}
use Rattle.nest_syntax.specs.declared.place.Place.{Place}
use Rattle.nest_syntax.specs.Arrays.{word_at, with_word}
use Rattle.nest_syntax.specs.Course.{Purpose}
use Rattle.nest_syntax.specs.Outcome.{place_of_trap}
use Rattle.settle_law.specs.Traces.{Access, Read, Write}
use Rattle.settle_law.specs.Tasks.{Stop, Loads, Stores, Goes, Finishes, Traps, System}
use Rattle.settle_law.specs.Courses.{Trap}
use Rattle.spec_machine.specs.Invocations.{Event, End, Scalar, Drain, Invoke}
use Rattle.spec_machine.specs.Signatures.{Kind, note}
use Rattle.spec_machine.specs.Facts.{Task, Pair, same_pair, Abort, Fails, Overlaps, Facts, no_facts, computed, drained, opened, committed, checked, restored}

-- an open epoch: its invocation, with the number of its first iteration and the count of its iterations
pub record Epoch (B : Type 0) : Type 0 where
  pub first : ℕ
  pub count : ℕ
  pub body : B

-- A worker is idle, runs a task with no iteration, stands at an iteration of a task, or is stopped by a trap.
pub data Hand (P : Type 0) : Type 0 where
  Idle : Hand P
  Empty : Hand P
  Running : ℕ → P → Hand P
  Stopped : Hand P

-- A worker, with the number of epochs of this segment that it has finished. Of each task that it began, by epochs: how
-- many epochs each worker had finished then, which is what the task saw, and its signature.
pub record Seat (P G : Type 0) : Type 0 where
  pub hand : Hand P
  pub done : ℕ
  pub seen : List (List ℕ)
  pub signs : List G

-- The words; the marked words; the cursor, with the number of the next iteration; the scheduler's trap; the open epochs,
-- and whether they are sealed; the distance now; the seats of the workers; the passed pairs; the abort; the kept trap of a
-- worker; whether the run is concluded; and what is counted so far.
pub record State (B C P G : Type 0) : Type 0 where
  pub words : List ℤ
  pub mark : List ℤ
  pub cursor : C
  pub next : ℕ
  pub early : Option Place
  pub epochs : List (Epoch B)
  pub sealed : Bool
  pub distance : ℕ
  pub seats : List (Seat P G)
  pub passed : List Pair
  pub abort : Option Abort
  pub trap : Option Place
  pub concluded : Bool
  pub facts : Facts

-- What a machine is built on: the pieces of work, the event at a cursor, the first piece of an iteration of an invocation
-- (counted from 0), whether the loop of an invocation is DoAll, the kind of signature, the number of workers, how many
-- epochs a segment takes, and the set distance. `absent` is an invocation to read where no epoch is; no row acts on it.
pub record Setup (B C P G : Type 0) : Type 0 where
  pub system : System P
  pub event : C → Event B C
  pub entry : B → ℕ → P
  pub doall : B → Bool
  pub absent : B
  pub kind : Kind G
  pub width : ℕ
  pub room : ℕ
  pub far : ℕ

abbrev pub fresh_seat : {P G : Type 0} → Seat P G
fresh_seat = record { hand = Idle; done = 0; seen = []; signs = [] }

abbrev pub seat_at : {P G : Type 0} → List (Seat P G) → ℕ → Seat P G
seat_at seats u = slice_index_or seats u fresh_seat

abbrev pub done_at : {P G : Type 0} → List (Seat P G) → ℕ → ℕ
done_at seats u = (seat_at seats u).done

abbrev pub dones : {P G : Type 0} → List (Seat P G) → List ℕ
dones {P} {G} seats = map (λ (x : Seat P G). x.done) seats

-- what task (e, u) saw of worker v
abbrev pub saw_in : {P G : Type 0} → Seat P G → ℕ → ℕ → ℕ
saw_in seat e v = slice_index_or (slice_index_or seat.seen e []) v 0

abbrev pub saw : {P G : Type 0} → List (Seat P G) → ℕ → ℕ → ℕ → ℕ
saw seats e u v = saw_in (seat_at seats u) e v

abbrev pub is_running : {P : Type 0} → Hand P → Bool
is_running Idle = false
is_running Empty = true
is_running (Running k piece) = true
is_running Stopped = false

abbrev pub is_stopped : {P : Type 0} → Hand P → Bool
is_stopped Idle = false
is_stopped Empty = false
is_stopped (Running k piece) = false
is_stopped Stopped = true

-- The iterations of an invocation are shared out among the workers: worker w has those from `share w` up to and without
-- `share (w + 1)`. Where the loop is DoAll all have nearly as many; else one worker has all, by the epoch's number.
abbrev pub share : Bool → (width epoch count w : ℕ) → ℕ
share true width epoch count w = count * w / width
share false width epoch count w = if nat_le w (epoch % width) then 0 else count

-- Pairs of tasks of n epochs whose workers differ, the epochs rise: in the order of the late epoch, the late worker, the
-- early epoch, the early worker.
abbrev pub below : ℕ → List ℕ
below zero = []
below (suc n) = below n ++ n ∷ []

abbrev pub pair_of : (f w e u : ℕ) → Pair
pair_of f w e u = record { early = record { epoch = e; worker = u }; late = record { epoch = f; worker = w } }

abbrev pub pairs_with : (width f w e : ℕ) → List Pair
pairs_with width f w e = flat_map (λ u. if u == w then [] else pair_of f w e u ∷ []) (below width)

abbrev pub pairs_late : (width f : ℕ) → List Pair
pairs_late width f = flat_map (λ w. flat_map (λ e. pairs_with width f w e) (below f)) (below width)

abbrev pub pairs : (width n : ℕ) → List Pair
pairs width n = flat_map (pairs_late width) (below n)

-- A pair is unordered where the late task began before the early one was finished.
abbrev pub is_unordered : {P G : Type 0} → List (Seat P G) → Pair → Bool
is_unordered seats p = nat_le (saw seats p.late.epoch p.late.worker p.early.worker) p.early.epoch

abbrev pub is_passed : List Pair → Pair → Bool
is_passed passed p = list_any (same_pair p) passed

-- an unordered pair that isn't passed
abbrev pub is_open : {P G : Type 0} → List (Seat P G) → List Pair → Pair → Bool
is_open seats passed p = is_unordered seats p && not (is_passed passed p)

-- a task and every task before it, in the order of epoch and then worker, are finished
abbrev pub all_from : {P G : Type 0} → Task → ℕ → List (Seat P G) → Bool
all_from t v [] = true
all_from t v (x ∷ seats) = (if nat_le v t.worker then nat_lt t.epoch x.done else nat_le t.epoch x.done) && all_from t (suc v) seats

abbrev pub finished_up_to : {P G : Type 0} → List (Seat P G) → Task → Bool
finished_up_to seats t = all_from t 0 seats

-- The pair due is the first open pair, where its late task and every task before that one are finished.
abbrev pub first_open : {B C P G : Type 0} → ℕ → State B C P G → Option Pair
first_open width s = find (is_open s.seats s.passed) (pairs width (length s.epochs))

abbrev pub due_if : {P G : Type 0} → List (Seat P G) → Option Pair → Option Pair
due_if seats None = None
due_if seats (Some p) = if finished_up_to seats p.late then Some p else None

abbrev pub due : {B C P G : Type 0} → ℕ → State B C P G → Option Pair
due width s = due_if s.seats (first_open width s)

-- A row of the table, with the data that it acts on.
pub data Move (B C P : Type 0) : Type 0 where
  DoScalar : Purpose → Option Trap → C → Move B C P  -- the scheduler computes
  DoDrain : Purpose → Option Trap → C → Move B C P  -- it computes with the present words
  DoOpen : B → ℕ → C → Move B C P  -- an invocation becomes an epoch
  DoClose : Move B C P
  DoCommit : Move B C P
  DoRestore : Abort → Move B C P
  DoConclude : Move B C P
  DoBegin : Hand P → Move B C P  -- a worker begins its next task
  DoRead : ℕ → ℕ → (ℤ → P) → Move B C P  -- its iteration reads a word
  DoWrite : ℕ → ℕ → ℤ → P → Move B C P  -- it writes a word
  DoGo : ℕ → P → Move B C P  -- it goes on
  DoNext : ℕ → P → Move B C P  -- the next iteration of the block stands
  DoFinish : Move B C P  -- the task is finished
  DoFail : Move B C P  -- its iteration traps at a distance above 0
  DoTrap : ℕ → Cause → Line → Move B C P  -- it traps at distance 0
  DoLetGo : Move B C P  -- a worker lets go of its task, since the segment is given up
  DoStop : Move B C P  -- a worker stops since a trap is kept
  DoCheck : Pair → Move B C P
  DoAbort : Pair → ℕ → Move B C P

module _ {B C P G : Type 0} (m : Setup B C P G) where
  -- The opening: words and a cursor are given, the words are marked, and nothing is open.
  abbrev pub opening : C → List ℤ → State B C P G
  opening cursor words = record {
    words = words;
    mark = words;
    cursor = cursor;
    next = 0;
    early = None;
    epochs = [];
    sealed = false;
    distance = m.far;
    seats = replicate m.width fresh_seat;
    passed = [];
    abort = None;
    trap = None;
    concluded = false;
    facts = no_facts;
  }

  abbrev pub epoch_at : List (Epoch B) → ℕ → Epoch B
  epoch_at epochs e = slice_index_or epochs e (record { first = 0; count = 0; body = m.absent })

  -- The block of task (e, u): its iterations are those from `from` up to and without `to`.
  abbrev pub share_of : Epoch B → (e w : ℕ) → ℕ
  share_of epoch e w = share (m.doall epoch.body) m.width e epoch.count w

  abbrev pub from : List (Epoch B) → (e u : ℕ) → ℕ
  from epochs e u = (epoch_at epochs e).first + share_of (epoch_at epochs e) e u

  abbrev pub to : List (Epoch B) → (e u : ℕ) → ℕ
  to epochs e u = from epochs e (suc u)

  -- the first piece of iteration k, in epoch e
  abbrev pub piece_at : List (Epoch B) → (e k : ℕ) → P
  piece_at epochs e k = m.entry (epoch_at epochs e).body (k - (epoch_at epochs e).first)

  -- how task (e, u) begins
  abbrev pub first_hand : List (Epoch B) → (e u : ℕ) → Hand P
  first_hand epochs e u = if nat_lt (from epochs e u) (to epochs e u) then Running (from epochs e u) (piece_at epochs e (from epochs e u)) else Empty

  -- The scheduler with nothing sealed and no trap of a worker. Where no epoch is open, the scheduler's trap or the end
  -- concludes the run; where one is, they close it, and so do a drain and a full segment.
  abbrev pub at_end : List (Epoch B) → Move B C P
  at_end [] = DoConclude
  at_end (x ∷ epochs) = DoClose

  abbrev pub drain_move : List (Epoch B) → Purpose → Option Trap → C → Move B C P
  drain_move [] purpose trap rest = DoDrain purpose trap rest
  drain_move (x ∷ epochs) purpose trap rest = DoClose

  abbrev pub event_move : State B C P G → Event B C → Move B C P
  event_move s End = at_end s.epochs
  event_move s (Scalar purpose trap rest) = if nat_lt (length s.epochs) m.room then DoScalar purpose trap rest else DoClose
  event_move s (Drain purpose trap rest) = drain_move s.epochs purpose (trap s.words) (rest s.words)
  event_move s (Invoke b n rest) = if nat_lt (length s.epochs) m.room then DoOpen b n rest else DoClose

  abbrev pub early_move : State B C P G → Option Place → Move B C P
  early_move s None = event_move s (m.event s.cursor)
  early_move s (Some trap) = at_end s.epochs

  -- A sealed segment is committed where all its tasks are finished and no pair is open.
  abbrev pub is_ready : State B C P G → Bool
  is_ready s = list_all (λ (x : Seat P G). x.done == length s.epochs) s.seats && not (list_any (is_open s.seats s.passed) (pairs m.width (length s.epochs)))

  abbrev pub sealed_move : State B C P G → Bool → Option (Move B C P)
  sealed_move s true = if is_ready s then Some DoCommit else None
  sealed_move s false = Some (early_move s s.early)

  -- A kept trap concludes the run once all workers are stopped; an abort is followed by a restore once none is running.
  abbrev pub trap_move : State B C P G → Option Place → Option (Move B C P)
  trap_move s None = sealed_move s s.sealed
  trap_move s (Some trap) = if list_all (λ (x : Seat P G). is_stopped x.hand) s.seats then Some DoConclude else None

  abbrev pub scheduler_move : State B C P G → Option Abort → Option (Move B C P)
  scheduler_move s None = trap_move s s.trap
  scheduler_move s (Some cause) = if list_any (λ (x : Seat P G). is_running x.hand) s.seats then None else Some (DoRestore cause)

  -- A worker. Its next task must be near enough to the worker that is furthest behind. Where a trap is kept, a worker goes
  -- on only with iterations below the trap.
  abbrev pub is_near : State B C P G → ℕ → Bool
  is_near s e = list_all (λ (x : Seat P G). nat_le e (x.done + s.distance)) s.seats

  abbrev pub begin_move : State B C P G → (e u : ℕ) → Option (Move B C P)
  begin_move s e u = if nat_lt e (length s.epochs) && is_near s e then Some (DoBegin (first_hand s.epochs e u)) else None

  -- whether task (e, u) has an iteration below a number
  abbrev pub has_below : List (Epoch B) → (e u n : ℕ) → Bool
  has_below epochs e u n = nat_lt e (length epochs) && (nat_lt (from epochs e u) (to epochs e u) && nat_lt (from epochs e u) n)

  abbrev pub idle_move : State B C P G → Option Place → (e u : ℕ) → Option (Move B C P)
  idle_move s None e u = begin_move s e u
  idle_move s (Some trap) e u = if has_below s.epochs e u trap.number then begin_move s e u else Some DoStop

  abbrev pub empty_move : Option Place → Move B C P
  empty_move None = DoFinish
  empty_move (Some trap) = DoStop

  abbrev pub end_move : State B C P G → (e u k : ℕ) → Move B C P
  end_move s e u k = if nat_lt (suc k) (to s.epochs e u) then DoNext (suc k) (piece_at s.epochs e (suc k)) else DoFinish

  abbrev pub failing_move : ℕ → ℕ → Cause → Line → Move B C P
  failing_move zero k cause line = DoTrap k cause line
  failing_move (suc distance) k cause line = DoFail

  abbrev pub stop_move : State B C P G → (e u k : ℕ) → Stop P → Move B C P
  stop_move s e u k (Loads w next) = DoRead k w next
  stop_move s e u k (Stores w value next) = DoWrite k w value next
  stop_move s e u k (Goes next) = DoGo k next
  stop_move s e u k Finishes = end_move s e u k
  stop_move s e u k (Traps cause line) = failing_move s.distance k cause line

  abbrev pub running_move : State B C P G → Option Place → (e u k : ℕ) → P → Move B C P
  running_move s None e u k piece = stop_move s e u k (m.system.stop piece)
  running_move s (Some trap) e u k piece = if nat_lt k trap.number then stop_move s e u k (m.system.stop piece) else DoStop

  abbrev pub hand_move : State B C P G → Hand P → (e u : ℕ) → Option (Move B C P)
  hand_move s Idle e u = idle_move s s.trap e u
  hand_move s Empty e u = Some (empty_move s.trap)
  hand_move s (Running k piece) e u = Some (running_move s s.trap e u k piece)
  hand_move s Stopped e u = None

  abbrev pub worker_move : State B C P G → Option Abort → ℕ → Option (Move B C P)
  worker_move s None u = hand_move s (seat_at s.seats u).hand (seat_at s.seats u).done u
  worker_move s (Some cause) u = if is_running (seat_at s.seats u).hand then Some DoLetGo else None

  -- The checker compares the signatures of the pair due.
  abbrev pub sign_at : List (Seat P G) → Task → G
  sign_at seats t = slice_index_or (seat_at seats t.worker).signs t.epoch m.kind.blank

  abbrev pub overlap_of : List (Seat P G) → Pair → Option ℕ
  overlap_of seats p = m.kind.overlap (sign_at seats p.early) (sign_at seats p.late)

  abbrev pub compared_move : Pair → Option ℕ → Move B C P
  compared_move p None = DoCheck p
  compared_move p (Some array) = DoAbort p array

  abbrev pub checker_move : State B C P G → Option Abort → Option Place → Option (Move B C P)
  checker_move s None None = option_map (λ p. compared_move p (overlap_of s.seats p)) (due m.width s)
  checker_move s None (Some trap) = None
  checker_move s (Some cause) trap = None

  abbrev pub going_move : State B C P G → ℕ → Option (Move B C P)
  going_move s actor = if nat_lt actor m.width then worker_move s s.abort actor else if actor == m.width then scheduler_move s s.abort else if actor == suc m.width then checker_move s s.abort s.trap else None

  -- the one enabled move of an actor; nothing is enabled once concluded
  abbrev pub move_of : State B C P G → ℕ → Option (Move B C P)
  move_of s actor = if s.concluded then None else going_move s actor

  -- the access to a word of a written array that a move makes; reads of `const` words are none
  abbrev pub accesses_of : List ℤ → Move B C P → List Access
  accesses_of words (DoRead k w next) = option_map_or (λ told. []) (m.system.fixed w) (Read k w (word_at words w) ∷ [])
  accesses_of words (DoWrite k w value next) = Write k w value ∷ []
  accesses_of words _ = []

  -- What is afterwards. An access is noted in the signature of the present task.
  abbrev pub noted_in : List Access → ℕ → List G → List G
  noted_in [] e signs = signs
  noted_in (a ∷ made) e signs = slice_set signs e (note m.kind a (slice_index_or signs e m.kind.blank))

  abbrev pub seat_after : State B C P G → Seat P G → Move B C P → Seat P G
  seat_after s seat (DoBegin hand) = record seat { hand = hand; seen = seat.seen ++ dones s.seats ∷ []; signs = seat.signs ++ m.kind.blank ∷ [] }
  seat_after s seat (DoRead k w next) = record seat { hand = Running k (next (word_at s.words w)); signs = noted_in (accesses_of s.words (DoRead k w next)) seat.done seat.signs }
  seat_after s seat (DoWrite k w value next) = record seat { hand = Running k next; signs = noted_in (Write k w value ∷ []) seat.done seat.signs }
  seat_after s seat (DoGo k next) = record seat { hand = Running k next }
  seat_after s seat (DoNext k piece) = record seat { hand = Running k piece }
  seat_after s seat DoFinish = record seat { hand = Idle; done = suc seat.done }
  seat_after s seat DoFail = record seat { hand = Idle }
  seat_after s seat (DoTrap k cause line) = record seat { hand = Stopped }
  seat_after s seat DoLetGo = record seat { hand = Idle }
  seat_after s seat DoStop = record seat { hand = Stopped }
  seat_after s seat _ = seat

  abbrev pub words_after : List ℤ → Move B C P → List ℤ
  words_after words (DoWrite k w value next) = with_word words w value
  words_after words _ = words

  abbrev pub abort_after : State B C P G → ℕ → Move B C P → Option Abort
  abort_after s u DoFail = Some (Fails (record { epoch = done_at s.seats u; worker = u }))
  abort_after s u _ = s.abort

  abbrev pub trap_after : Option Place → Move B C P → Option Place
  trap_after trap (DoTrap k cause line) = Some (place_of_trap cause line k false)
  trap_after trap _ = trap

  -- a worker's move changes its seat, the words, the abort and the trap
  abbrev pub worker_after : State B C P G → ℕ → Move B C P → State B C P G
  worker_after s u move = record s {
    words = words_after s.words move;
    seats = slice_set s.seats u (seat_after s (seat_at s.seats u) move);
    abort = abort_after s u move;
    trap = trap_after s.trap move;
  }

  -- An event of the scheduler that traps is kept, with the number of iterations before it, and the cursor stays. Else
  -- the cursor goes past it.
  abbrev pub scalar_after : State B C P G → Purpose → Option Trap → C → State B C P G
  scalar_after s purpose None rest = record s { cursor = rest; facts = computed purpose s.facts }
  scalar_after s purpose (Some trap) rest = record s { early = Some (place_of_trap trap.cause trap.line s.next true) }

  -- A commit marks the words, a restore goes back to the marked ones; both begin a run of a segment from nothing.
  abbrev pub begun_anew : State B C P G → State B C P G
  begun_anew s = record s { seats = replicate m.width fresh_seat; passed = []; abort = None }

  abbrev pub state_after : State B C P G → ℕ → Move B C P → State B C P G
  state_after s u (DoScalar purpose trap rest) = scalar_after s purpose trap rest
  state_after s u (DoDrain purpose trap rest) = scalar_after (record s { facts = drained s.facts }) purpose trap rest
  state_after s u (DoOpen b n rest) = record s {
    cursor = rest;
    next = s.next + n;
    epochs = s.epochs ++ record { first = s.next; count = n; body = b } ∷ [];
    facts = opened n s.facts;
  }
  state_after s u DoClose = record s { sealed = true }
  state_after s u DoCommit = record (begun_anew s) { mark = s.words; epochs = []; sealed = false; distance = m.far; facts = committed s.facts }
  state_after s u (DoRestore cause) = record (begun_anew s) { words = s.mark; distance = 0; facts = restored cause s.facts }
  state_after s u DoConclude = record s { concluded = true }
  state_after s u (DoCheck p) = record s { passed = s.passed ++ p ∷ []; facts = checked s.facts }
  state_after s u (DoAbort p array) = record s { abort = Some (Overlaps p array); facts = checked s.facts }
  state_after s u move = worker_after s u move

  -- one step of an actor: the state behind it, none where the actor has no move
  abbrev pub step : State B C P G → ℕ → Option (State B C P G)
  step s actor = option_map (state_after s actor) (move_of s actor)
