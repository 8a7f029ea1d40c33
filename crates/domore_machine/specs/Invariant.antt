-- What holds of every state that a legal history leaves, with the trace of the history.
use Rattle.std.specs.Prelude.{◌≡◌, ℕ, suc, ◌%◌, ◌<◌, ◌≤◌, ◌⊎◌, ℤ, Bool, true, false, ◌&&◌, Option, Some, None, IsSome, List, [], ◌∷◌, ◌++◌, length}
use Rattle.std.specs.List.{list_all}
use Rattle.nest_syntax.specs.declared.place.Place.{Place}
use Rattle.nest_syntax.specs.Outcome.{TrappedAt, Event as Passed}
use Rattle.settle_law.specs.Trees.{Tree}
use Rattle.settle_law.specs.Cuts.{HoldsFixed}
use Rattle.settle_law.specs.Traces.{Access, iteration, Replays, InOrder, settle, part, Fits, IsFinished, IsTrapped}
use Rattle.settle_law.specs.Traces as traces
use Rattle.settle_law.specs.Tasks.{Left}
use Rattle.settle_law.specs.Courses.{Nest, Behind, End, family_of, iteration_at, reached, outcome}
use Rattle.domore_machine.specs.Waits.{Wait}
use Rattle.domore_machine.specs.Facts.{no_facts, facts_from}
use Rattle.domore_machine.specs.Machine.{Setup, State, Seat, Hand, Idle, Holding, Ended, Ticket, seat_at, done_at, all_finished, waits, opening}
use Rattle.domore_machine.specs.Runs.{trace_from}
use Rattle.domore_machine.specs.Theorems.{IsSetupFor, Leads}

abbrev pub Each : {A : Type 0} → (A → Type 0) → List A → Type 0
Each P [] = Unit {0}
Each P (x ∷ xs) = P x × Each P xs

-- Numbers of a seat: the held one, then those of its queue.
abbrev pub held_number : {P : Type 0} → Hand P → List ℕ
held_number Idle = []
held_number (Holding k left piece) = k ∷ []
held_number Ended = []

abbrev pub queued_numbers : {B : Type 0} → List (Ticket B) → List ℕ
queued_numbers [] = []
queued_numbers (ticket ∷ queue) = ticket.number ∷ queued_numbers queue

abbrev pub numbers : {B P : Type 0} → Seat B P → List ℕ
numbers seat = held_number seat.hand ++ queued_numbers seat.queue

-- whether a seat has no number
abbrev pub holds_none : {P : Type 0} → Hand P → Bool
holds_none Idle = true
holds_none (Holding k left piece) = false
holds_none Ended = true

abbrev pub has_no_ticket : {B : Type 0} → List (Ticket B) → Bool
has_no_ticket [] = true
has_no_ticket (ticket ∷ queue) = false

abbrev pub is_free : {B P : Type 0} → Seat B P → Bool
is_free seat = holds_none seat.hand && has_no_ticket seat.queue

abbrev pub In : ℕ → List ℕ → Type 0
In k [] = ⊥
In k (n ∷ ns) = (n ≡ k) ⊎ In k ns

-- They rise, from `low` on and below `next`, and are the worker's own.
abbrev pub Rises : ℕ → ℕ → ℕ → ℕ → List ℕ → Type 0
Rises width u low next [] = Unit {0}
Rises width u low next (n ∷ ns) = (low ≤ n) × (n % width ≡ u) × (n < next) × Rises width u (suc n) next ns

-- a kept trap has at most this number
abbrev pub IsCutBy : Option Place → ℕ → Type 0
IsCutBy None k = ⊥
IsCutBy (Some trap) k = trap.number ≤ k

-- What became of an iteration that was handed out: it is done, which is the case exactly where it is below the worker's
-- `done`, or it is among the numbers of its seat, or it is cut off by a trap.
pub data Fate (done : ℕ) (ns : List ℕ) (trap : Option Place) (k : ℕ) : Type 0 where
  IsDone : k < done → Fate done ns trap k
  IsPending : In k ns → Fate done ns trap k
  IsCut : IsCutBy trap k → Fate done ns trap k

pub record Tickets (width next : ℕ) (trap : Option Place) (u done : ℕ) (ns : List ℕ) : Type 0 where
  pub rises : Rises width u done next ns
  pub fate : (k : ℕ) → k < next → k % width ≡ u → Fate done ns trap k
  pub bounded : done ≤ next

-- a trap is kept of an iteration that was handed out, or of the scheduler behind them
abbrev pub IsBelow : Option Place → ℕ → Type 0
IsBelow None next = Unit {0}
IsBelow (Some trap) next = trap.number ≤ next

pub record AllTickets {B C P : Type 0} (m : Setup B C P) (s : State B C P) : Type 0 where
  pub width : length s.seats ≡ m.width
  pub seats : (u : ℕ) → u < m.width → Tickets m.width s.next s.trap u (done_at s.seats u) (numbers (seat_at s.seats u))
  pub trap : IsBelow s.trap s.next

-- Without a kept trap, all iterations that were handed out are finished exactly where every seat is free.
abbrev pub FinishedWhereFree : Type 0 → Type 0 → Type 0 → Type 0
FinishedWhereFree B C P = (m : Setup B C P) (s : State B C P) → 0 < m.width → AllTickets m s → s.trap ≡ None → all_finished m.width s.seats s.next ≡ list_all is_free s.seats

-- Waits: one of `left` is on the worker of j, for j or later.
abbrev pub Covers : ℕ → List Wait → ℕ → Type 0
Covers width [] j = ⊥
Covers width (w ∷ left) j = ((w.worker ≡ j % width) × (j ≤ w.number)) ⊎ Covers width left j

-- With these waits left, each lower iteration of another worker whose claims clash with those of k is done or waited for.
abbrev pub Cleared : {B P : Type 0} → ℕ → (ℕ → ℕ → Bool) → List (Seat B P) → ℕ → List Wait → Type 0
Cleared width clashes seats k left = (j : ℕ) → j < k → clashes j k ≡ true → (j % width ≡ k % width → ⊥) → (j < done_at seats (j % width)) ⊎ Covers width left j

-- a wait is for a lower iteration, on its own worker
abbrev pub IsWaitOf : ℕ → ℕ → Wait → Type 0
IsWaitOf width k w = (w.number < k) × (w.number % width ≡ w.worker)

abbrev pub HandWaits : {B P : Type 0} → ℕ → (ℕ → ℕ → Bool) → List (Seat B P) → Hand P → Type 0
HandWaits width clashes seats Idle = Unit {0}
HandWaits width clashes seats (Holding k left piece) = Cleared width clashes seats k left × Each (IsWaitOf width k) left
HandWaits width clashes seats Ended = Unit {0}

pub record SeatWaits {B C P : Type 0} (m : Setup B C P) (seats : List (Seat B P)) (seat : Seat B P) : Type 0 where
  pub hand : HandWaits m.width m.clashes seats seat.hand
  pub queue : Each (λ (t : Ticket B). t.waits ≡ waits m t.number) seat.queue

abbrev pub AllWaits : {B C P : Type 0} → Setup B C P → State B C P → Type 0
AllWaits m s = (u : ℕ) → u < m.width → SeatWaits m s.seats (seat_at s.seats u)

-- Where an iteration has an access in the trace, each lower one whose claims clash with its own is done.
abbrev pub Guarded : {B C P : Type 0} → Setup B C P → State B C P → List Access → Type 0
Guarded m s trace = traces.Each (λ a. (j : ℕ) → j < iteration a → m.clashes j (iteration a) ≡ true → j < done_at s.seats (j % m.width)) trace

-- Parts: those of done iterations are finished; the piece of a held one has left what its part leaves; queued ones and
-- later ones have none; that of a worker's kept trap is trapped.
abbrev pub HandParts : {B C P : Type 0} → Setup B C P → Nest → List Access → Hand P → Type 0
HandParts m nest trace Idle = Unit {0}
HandParts m nest trace (Holding k left piece) = Left m.system (family_of m.system.fixed nest k) (part k trace) piece
HandParts m nest trace Ended = Unit {0}

pub record SeatParts {B C P : Type 0} (m : Setup B C P) (nest : Nest) (what : B → ℕ × List ℤ) (trace : List Access) (u : ℕ) (seat : Seat B P) : Type 0 where
  pub finished : (k : ℕ) → k % m.width ≡ u → k < seat.done → IsFinished (family_of m.system.fixed nest k) (part k trace)
  pub hand : HandParts m nest trace seat.hand
  pub queue : Each (λ (t : Ticket B). (iteration_at nest t.number ≡ Some (what t.body)) × (part t.number trace ≡ [])) seat.queue

abbrev pub TrapParts : (ℕ → Tree) → List Access → Option Place → Type 0
TrapParts family trace None = Unit {0}
TrapParts family trace (Some trap) = trap.by_scheduler ≡ false → IsTrapped (family trap.number) (part trap.number trace) trap.cause trap.line

pub record AllParts {B C P : Type 0} (m : Setup B C P) (nest : Nest) (what : B → ℕ × List ℤ) (s : State B C P) (trace : List Access) : Type 0 where
  pub seats : (u : ℕ) → u < m.width → SeatParts m nest what trace u (seat_at s.seats u)
  pub later : (k : ℕ) → s.next ≤ k → part k trace ≡ []
  pub fits : (k : ℕ) → Fits (family_of m.system.fixed nest k) (part k trace)
  pub trapped : TrapParts (family_of m.system.fixed nest) trace s.trap

-- The words: the trace leads from the opening words to them, in order, and `const` words have their values.
pub record WordsKept (fixed : ℕ → Option ℤ) (from : List ℤ) (trace : List Access) (words : List ℤ) : Type 0 where
  pub replays : Replays from trace
  pub in_order : InOrder trace
  pub settles : settle from trace ≡ words
  pub fixed_words : HoldsFixed fixed words

-- The course: while no trap is kept, some events are passed, the cursor stands behind them, and what is counted are their
-- facts.
pub record Going {B C P : Type 0} (m : Setup B C P) (nest : Nest) (what : B → ℕ × List ℤ) (s : State B C P) : Type 0 where
  pub passed : List Passed
  pub behind : Behind nest what m.event passed s.next s.cursor
  pub counted : s.facts ≡ facts_from (waits m) 0 no_facts passed

-- A kept trap of the scheduler stands behind all iterations that were handed out, and is the outcome if textual order
-- gets there.
abbrev pub EarlyTrap : Nest → ℕ → Option Place → Type 0
EarlyTrap nest next None = Unit {0}
EarlyTrap nest next (Some trap) = trap.by_scheduler ≡ true → (trap.number ≡ next) × ((words : List ℤ) → reached nest next ≡ Some words → outcome nest ≡ TrappedAt trap)

-- a kept trap of a worker is of an iteration that was handed out
abbrev pub LateTrap : ℕ → Option Place → Type 0
LateTrap next None = Unit {0}
LateTrap next (Some trap) = trap.by_scheduler ≡ false → trap.number < next

pub record CourseKept {B C P : Type 0} (m : Setup B C P) (nest : Nest) (what : B → ℕ × List ℤ) (s : State B C P) : Type 0 where
  pub going : s.trap ≡ None → Going m nest what s
  pub known : (k : ℕ) → k < s.next → IsSome (iteration_at nest k)
  pub early : EarlyTrap nest s.next s.trap
  pub late : LateTrap s.next s.trap
  pub over : s.halted ≡ true → s.trap ≡ None → m.event s.cursor ≡ End

-- a worker is ended only with an empty queue, behind the scheduler
abbrev pub EndedAreOver : {B C P : Type 0} → Setup B C P → State B C P → Type 0
EndedAreOver m s = (u : ℕ) → u < m.width → (seat_at s.seats u).hand ≡ Ended → ((seat_at s.seats u).queue ≡ []) × (s.halted ≡ true)

pub record Invariant {B C P : Type 0} (m : Setup B C P) (nest : Nest) (what : B → ℕ × List ℤ) (s : State B C P) (trace : List Access) : Type 0 where
  pub tickets : AllTickets m s
  pub waits_left : AllWaits m s
  pub guarded : Guarded m s trace
  pub parts : AllParts m nest what s trace
  pub words : WordsKept m.system.fixed nest.opening trace s.words
  pub course : CourseKept m nest what s
  pub ended : EndedAreOver m s

-- Each legal history leaves a state with the invariant.
abbrev pub HistoriesKeepInvariant : Type 0 → Type 0 → Type 0 → Type 0
HistoriesKeepInvariant B C P = (m : Setup B C P) (nest : Nest) (what : B → ℕ × List ℤ) (start : C) → IsSetupFor m nest what start → (history : List ℕ) (s : State B C P) → Leads m nest start history s → Invariant m nest what s (trace_from m (opening m start nest.opening) history)
