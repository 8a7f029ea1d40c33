-- The machine: a scheduler hands out iterations, and each worker carries out its own in their order, one stop at a time.
-- Actors have numbers: workers are 0 to `width - 1`, the scheduler is `width`, and a further actor has nothing to do.
-- It is said for any bodies `B`, as a cursor hands them out, any cursors `C` and any pieces of work `P`.
use Rattle.std.specs.Prelude.{ℕ, zero, suc, ◌%◌, ℤ, Bool, true, false, ◌&&◌, if◌then◌else◌, ◌==◌, Option, Some, None, List, [], ◌∷◌, ◌++◌, length, replicate, nat_lt, slice_index_or, slice_set}
use Rattle.std.specs.Option.{option_map, option_map_or}
use Rattle.nest_syntax.specs.declared.names.Line.{Line}
use Rattle.nest_syntax.specs.declared.operators.Cause.{Cause}
use Rattle.nest_syntax.specs.declared.place.Place.{Place}
use Rattle.nest_syntax.specs.Arrays.{word_at, with_word}
use Rattle.nest_syntax.specs.Course.{Purpose}
use Rattle.nest_syntax.specs.Outcome.{place_of_trap}
use Rattle.settle_law.specs.Traces.{Access, Read, Write}
use Rattle.settle_law.specs.Tasks.{Stop, Loads, Stores, Goes, Finishes, Traps, System}
use Rattle.settle_law.specs.Courses.{Trap, Event, End, Scalar, Drain, Iterate, Close}
use Rattle.domore_machine.specs.Waits.{Wait, waits_of}
use Rattle.domore_machine.specs.Facts.{Facts, no_facts, computed, drained, iterated}

-- an iteration that was handed out: its number, its body, and its waits
pub record Ticket (B : Type 0) : Type 0 where
  pub number : ℕ
  pub body : B
  pub waits : List Wait

-- A worker is idle, holds an iteration (its number, the waits not passed yet, the piece of work at which it stands), or
-- is ended.
pub data Hand (P : Type 0) : Type 0 where
  Idle : Hand P
  Holding : ℕ → List Wait → P → Hand P
  Ended : Hand P

-- a worker, with the queue of its tickets and one more than the number last finished, 0 before
pub record Seat (B P : Type 0) : Type 0 where
  pub hand : Hand P
  pub queue : List (Ticket B)
  pub done : ℕ

-- The words; the cursor, with the number of the next iteration; the seats of the workers, in their order; the kept trap;
-- whether the scheduler has halted; and what is counted so far.
pub record State (B C P : Type 0) : Type 0 where
  pub words : List ℤ
  pub cursor : C
  pub next : ℕ
  pub seats : List (Seat B P)
  pub trap : Option Place
  pub halted : Bool
  pub facts : Facts

-- What a machine is built on: the pieces of work, the event at a cursor, the first piece of a body, whether the claims of
-- two iterations clash, the number of workers, and how many tickets a queue takes.
pub record Setup (B C P : Type 0) : Type 0 where
  pub system : System P
  pub event : C → Event B C
  pub entry : B → P
  pub clashes : ℕ → ℕ → Bool
  pub width : ℕ
  pub room : ℕ

abbrev pub ended_seat : {B P : Type 0} → Seat B P
ended_seat = record { hand = Ended; queue = []; done = 0 }

abbrev pub opening_seat : {B P : Type 0} → Seat B P
opening_seat = record { hand = Idle; queue = []; done = 0 }

-- the seat of worker u, and what it has done
abbrev pub seat_at : {B P : Type 0} → List (Seat B P) → ℕ → Seat B P
seat_at seats u = slice_index_or seats u ended_seat

abbrev pub done_at : {B P : Type 0} → List (Seat B P) → ℕ → ℕ
done_at seats u = (seat_at seats u).done

-- whether a worker is ended
abbrev pub is_ended : {P : Type 0} → Hand P → Bool
is_ended Idle = false
is_ended (Holding k left piece) = false
is_ended Ended = true

-- one ticket more in the queue of a seat
abbrev pub seat_with : {B P : Type 0} → Seat B P → Ticket B → Seat B P
seat_with seat ticket = record seat { queue = seat.queue ++ ticket ∷ [] }

-- a number is above the trap where a trap is kept and its number is less
abbrev pub is_above : Option Place → ℕ → Bool
is_above trap k = option_map_or (λ (t : Place). nat_lt t.number k) trap false

-- of two traps the one with the least number is kept, and the old one where they have the same
abbrev pub least_trap : Option Place → Place → Place
least_trap trap new = option_map_or (λ (old : Place). if nat_lt new.number old.number then new else old) trap new

-- the first n numbers are finished, each by its own worker
abbrev pub all_finished : {B P : Type 0} → ℕ → List (Seat B P) → ℕ → Bool
all_finished width seats zero = true
all_finished width seats (suc k) = nat_lt k (done_at seats (k % width)) && all_finished width seats k

-- A row of the table, with the data that it acts on.
pub data Move (B C P : Type 0) : Type 0 where
  DoScalar : Purpose → Option Trap → C → Move B C P  -- the scheduler computes
  DoClose : C → Move B C P  -- an invocation ends
  DoDrain : Purpose → Option Trap → C → Move B C P  -- the scheduler computes with the present words
  DoDispatch : B → C → Move B C P  -- a ticket is put
  DoHalt : Move B C P
  DoTake : Ticket B → List (Ticket B) → Move B C P  -- a worker takes its first ticket; others are left
  DoPass : ℕ → Wait → List Wait → P → Move B C P  -- the first wait of the held iteration is over; others are left
  DoRead : ℕ → ℕ → (ℤ → P) → Move B C P  -- the held iteration reads a word
  DoWrite : ℕ → ℕ → ℤ → P → Move B C P  -- it writes a word
  DoGo : ℕ → P → Move B C P  -- it goes on
  DoFinish : ℕ → Move B C P  -- it is over
  DoTrap : ℕ → Cause → Line → Move B C P  -- it traps
  DoDropHeld : ℕ → Move B C P  -- it stands above the trap, and is dropped
  DoDropQueued : Ticket B → List (Ticket B) → Move B C P  -- so is the first ticket; others are left
  DoEnd : Move B C P

module _ {B C P : Type 0} (m : Setup B C P) where
  -- the waits of an iteration by its number
  abbrev pub waits : ℕ → List Wait
  waits k = waits_of m.clashes m.width k

  -- The opening: words and a cursor are given, queues are empty, workers idle, nothing is done.
  abbrev pub opening : C → List ℤ → State B C P
  opening cursor words = record { words = words; cursor = cursor; next = 0; seats = replicate m.width opening_seat; trap = None; halted = false; facts = no_facts }

  -- What is enabled. The scheduler halts at the end or where a trap is kept. It drains where all iterations before are
  -- finished, and dispatches where the worker's queue has room.
  abbrev pub event_move : State B C P → Event B C → Option (Move B C P)
  event_move s End = Some DoHalt
  event_move s (Scalar purpose trap rest) = Some (DoScalar purpose trap rest)
  event_move s (Drain purpose trap rest) = if all_finished m.width s.seats s.next then Some (DoDrain purpose (trap s.words) (rest s.words)) else None
  event_move s (Iterate b rest) = if nat_lt (length (seat_at s.seats (s.next % m.width)).queue) m.room then Some (DoDispatch b rest) else None
  event_move s (Close rest) = Some (DoClose rest)

  abbrev pub going_move : State B C P → Option Place → Option (Move B C P)
  going_move s None = event_move s (m.event s.cursor)
  going_move s (Some trap) = Some DoHalt

  abbrev pub scheduler_move : State B C P → Option (Move B C P)
  scheduler_move s = if s.halted then None else going_move s s.trap

  -- An idle worker takes its first ticket, or drops it where it stands above the trap. It ends where the scheduler has
  -- halted and no ticket is left.
  abbrev pub idle_move : State B C P → List (Ticket B) → Option (Move B C P)
  idle_move s [] = if s.halted then Some DoEnd else None
  idle_move s (ticket ∷ queue) = if is_above s.trap ticket.number then Some (DoDropQueued ticket queue) else Some (DoTake ticket queue)

  -- A worker that holds an iteration with no wait left does what its piece says.
  abbrev pub stop_move : ℕ → Stop P → Move B C P
  stop_move k (Loads w next) = DoRead k w next
  stop_move k (Stores w value next) = DoWrite k w value next
  stop_move k (Goes next) = DoGo k next
  stop_move k Finishes = DoFinish k
  stop_move k (Traps cause line) = DoTrap k cause line

  -- Its waits are passed one after the other, each where the other worker has finished that iteration.
  abbrev pub waiting_move : State B C P → ℕ → List Wait → P → Option (Move B C P)
  waiting_move s k [] piece = Some (stop_move k (m.system.stop piece))
  waiting_move s k (w ∷ left) piece = if nat_lt w.number (done_at s.seats w.worker) then Some (DoPass k w left piece) else None

  abbrev pub held_move : State B C P → ℕ → List Wait → P → Option (Move B C P)
  held_move s k left piece = if is_above s.trap k then Some (DoDropHeld k) else waiting_move s k left piece

  abbrev pub worker_move : State B C P → Hand P → List (Ticket B) → Option (Move B C P)
  worker_move s Idle queue = idle_move s queue
  worker_move s (Holding k left piece) queue = held_move s k left piece
  worker_move s Ended queue = None

  -- the one enabled move of an actor
  abbrev pub move_of : State B C P → ℕ → Option (Move B C P)
  move_of s actor = if nat_lt actor m.width then worker_move s (seat_at s.seats actor).hand (seat_at s.seats actor).queue else if actor == m.width then scheduler_move s else None

  -- What is afterwards. A ticket that is put has the next number and its waits; a held one starts at the first piece of
  -- its body, with all its waits left.
  abbrev pub ticket_of : State B C P → B → Ticket B
  ticket_of s b = record { number = s.next; body = b; waits = waits s.next }

  abbrev pub seat_after : List ℤ → Seat B P → Move B C P → Seat B P
  seat_after words seat (DoTake ticket queue) = record seat { hand = Holding ticket.number ticket.waits (m.entry ticket.body); queue = queue }
  seat_after words seat (DoPass k w left piece) = record seat { hand = Holding k left piece }
  seat_after words seat (DoRead k w next) = record seat { hand = Holding k [] (next (word_at words w)) }
  seat_after words seat (DoWrite k w value next) = record seat { hand = Holding k [] next }
  seat_after words seat (DoGo k next) = record seat { hand = Holding k [] next }
  seat_after words seat (DoFinish k) = record seat { hand = Idle; done = suc k }
  seat_after words seat (DoTrap k cause line) = record seat { hand = Idle }
  seat_after words seat (DoDropHeld k) = record seat { hand = Idle }
  seat_after words seat (DoDropQueued ticket queue) = record seat { queue = queue }
  seat_after words seat DoEnd = record seat { hand = Ended }
  seat_after words seat _ = seat

  abbrev pub words_after : List ℤ → Move B C P → List ℤ
  words_after words (DoWrite k w value next) = with_word words w value
  words_after words _ = words

  abbrev pub trap_after : Option Place → Move B C P → Option Place
  trap_after trap (DoTrap k cause line) = Some (least_trap trap (place_of_trap cause line k false))
  trap_after trap _ = trap

  -- a worker's move changes its seat, the words and the trap
  abbrev pub worker_after : State B C P → ℕ → Move B C P → State B C P
  worker_after s u move = record s {
    words = words_after s.words move;
    seats = slice_set s.seats u (seat_after s.words (seat_at s.seats u) move);
    trap = trap_after s.trap move;
  }

  -- An event of the scheduler that traps is kept, with the number of iterations before it, and the cursor stays. Else
  -- the cursor goes past it.
  abbrev pub scalar_after : State B C P → Purpose → Option Trap → C → State B C P
  scalar_after s purpose None rest = record s { cursor = rest; facts = computed s.next purpose s.facts }
  scalar_after s purpose (Some trap) rest = record s { trap = Some (place_of_trap trap.cause trap.line s.next true) }

  abbrev pub state_after : State B C P → ℕ → Move B C P → State B C P
  state_after s u (DoScalar purpose trap rest) = scalar_after s purpose trap rest
  state_after s u (DoClose rest) = record s { cursor = rest }
  state_after s u (DoDrain purpose trap rest) = scalar_after (record s { facts = drained s.facts }) purpose trap rest
  state_after s u (DoDispatch b rest) = record s {
    cursor = rest;
    next = suc s.next;
    seats = slice_set s.seats (s.next % m.width) (seat_with (seat_at s.seats (s.next % m.width)) (ticket_of s b));
    facts = iterated s.next (waits s.next) s.facts;
  }
  state_after s u DoHalt = record s { halted = true }
  state_after s u move = worker_after s u move

  -- one step of an actor: the state behind it, none where the actor has no move
  abbrev pub step : State B C P → ℕ → Option (State B C P)
  step s actor = option_map (state_after s actor) (move_of s actor)

  -- the access to a word of a written array that a move makes; reads of `const` words are none
  abbrev pub accesses_of : List ℤ → Move B C P → List Access
  accesses_of words (DoRead k w next) = option_map_or (λ told. []) (m.system.fixed w) (Read k w (word_at words w) ∷ [])
  accesses_of words (DoWrite k w value next) = Write k w value ∷ []
  accesses_of words _ = []

  -- Whether the part of an actor is ended: of a worker that is ended, of the scheduler that has halted, and of any further
  -- actor always.
  abbrev pub ended_actor : State B C P → ℕ → Bool
  ended_actor s actor = if nat_lt actor m.width then is_ended (seat_at s.seats actor).hand else if actor == m.width then s.halted else true
