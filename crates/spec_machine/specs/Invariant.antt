-- What holds of every state that a legal history leaves, with the trace since the last commit or restore. It has two
-- layers: what holds always, and what holds of a segment while no abort is kept. Under an abort workers only let go until
-- the segment is restored, and then it is begun from nothing.
use Rattle.std.specs.Prelude.{◌≡◌, ℕ, zero, suc, ◌+◌, ◌-◌, ◌<◌, ◌≤◌, ◌⊎◌, ℤ, true, false, if◌then◌else◌, Option, Some, None, IsSome, List, [], ◌∷◌, ◌++◌, length, nat_lt, nat_le}
use Rattle.nest_syntax.specs.declared.place.Place.{Place}
use Rattle.nest_syntax.specs.Outcome.{TrappedAt, Event as Passed}
use Rattle.settle_law.specs.Cuts.{HoldsFixed}
use Rattle.settle_law.specs.Traces.{Access, Read, Write, iteration, Each, Pairs, Replays, settle, part, Fits, IsFinished, IsTrapped}
use Rattle.settle_law.specs.Tasks.{Left}
use Rattle.settle_law.specs.Claims.{Claims, Covers}
use Rattle.settle_law.specs.Courses.{Nest, Behind, family_of, iteration_at, reached, outcome}
use Rattle.spec_machine.specs.Invocations.{Outside, one_by_one}
use Rattle.spec_machine.specs.Facts.{Pair, Abort}
use Rattle.spec_machine.specs.Machine.{Setup, State, Seat, Hand, Idle, Empty, Running, Stopped, Epoch, seat_at, done_at, saw, is_unordered, epoch_at, share_of, sign_at, overlap_of, opening}
use Rattle.spec_machine.specs.Table.{In}
use Rattle.spec_machine.specs.Runs.{trace_from, ending_of}
use Rattle.spec_machine.specs.Segments.{segments, segments_ahead}
use Rattle.spec_machine.specs.Theorems.{IsSetupFor, Leads, Tells, AreHeld, CausedBy}

-- the epoch of an iteration of open epochs: how many of them end at or before it
abbrev pub epoch_of : {B : Type 0} → List (Epoch B) → ℕ → ℕ
epoch_of [] k = 0
epoch_of (x ∷ epochs) k = if nat_lt k (x.first + x.count) then 0 else suc (epoch_of epochs k)

-- the greatest number below n whose share begins at or before j, or 0
abbrev pub holder : (ℕ → ℕ) → ℕ → ℕ → ℕ
holder begins zero j = 0
holder begins (suc w) j = if nat_le (begins w) j then w else holder begins w j

-- Open epochs, with their iterations from `first` up to and without `next`: the epoch and the worker of each.
pub record Plan : Type 0 where
  pub first : ℕ
  pub next : ℕ
  pub count : ℕ
  pub epoch : ℕ → ℕ
  pub owner : ℕ → ℕ

abbrev pub owner_of : {B C P G : Type 0} → Setup B C P G → List (Epoch B) → ℕ → ℕ
owner_of m epochs k = holder (share_of m (epoch_at m epochs (epoch_of epochs k)) (epoch_of epochs k)) m.width (k - (epoch_at m epochs (epoch_of epochs k)).first)

abbrev pub plan : {B C P G : Type 0} → Setup B C P G → ℕ → ℕ → List (Epoch B) → Plan
plan m first next epochs = record { first = first; next = next; count = length epochs; epoch = epoch_of epochs; owner = owner_of m epochs }

abbrev pub Inside : Plan → ℕ → Type 0
Inside S k = (S.first ≤ k) × (k < S.next)

-- of this task
abbrev pub IsOf : Plan → (e u k : ℕ) → Type 0
IsOf S e u k = Inside S k × (S.epoch k ≡ e) × (S.owner k ≡ u)

-- A segment, while no abort is kept.
module _ {B C P G : Type 0} (m : Setup B C P G) (nest : Nest) (noted : G → Claims) (S : Plan) where
  abbrev pub Done : List Access → ℕ → Type 0
  Done trace k = IsFinished (family_of m.system.fixed nest k) (part k trace)

  -- An access is of a task that has begun, and is noted in its signature.
  pub record IsNoted (seats : List (Seat P G)) (a : Access) : Type 0 where
    pub inside : Inside S (iteration a)
    pub own : S.owner (iteration a) < m.width
    pub begun : S.epoch (iteration a) < length (seat_at seats (S.owner (iteration a))).seen
    pub covers : Covers (noted (sign_at m seats (record { epoch = S.epoch (iteration a); worker = S.owner (iteration a) }))) a

  -- Of an access and a later one: those of one worker are in order; and where the first is of a later epoch, its task
  -- began before the other's was finished.
  pub record IsBefore (seats : List (Seat P G)) (a b : Access) : Type 0 where
    pub own : S.owner (iteration a) ≡ S.owner (iteration b) → iteration a ≤ iteration b
    pub unseen : S.epoch (iteration b) < S.epoch (iteration a) → saw seats (S.epoch (iteration a)) (S.owner (iteration a)) (S.owner (iteration b)) ≤ S.epoch (iteration b)

  -- what a worker's hand says, where `begun` tasks of it have begun and `done` are finished
  abbrev pub BelowTrap : List Access → Option Place → ℕ → Type 0
  BelowTrap trace None u = ⊥
  BelowTrap trace (Some trap) u = (j : ℕ) → Inside S j → S.owner j ≡ u → j < trap.number → Done trace j

  pub record IsRunning (trace : List Access) (u done k : ℕ) (piece : P) : Type 0 where
    pub of_task : IsOf S done u k
    pub left : Left m.system (family_of m.system.fixed nest k) (part k trace) piece
    pub before : (j : ℕ) → IsOf S done u j → j < k → Done trace j
    pub behind : (j : ℕ) → IsOf S done u j → k < j → part j trace ≡ []

  abbrev pub HandOk : List Access → Option Place → (u done begun : ℕ) → Hand P → Type 0
  HandOk trace trap u done begun Idle = (begun ≡ done) × ((j : ℕ) → IsOf S done u j → part j trace ≡ [])
  HandOk trace trap u done begun Empty = (begun ≡ suc done) × (done < S.count) × ((j : ℕ) → IsOf S done u j → ⊥)
  HandOk trace trap u done begun (Running k piece) = (begun ≡ suc done) × (done < S.count) × IsRunning trace u done k piece
  HandOk trace trap u done begun Stopped = (begun ≤ suc done) × BelowTrap trace trap u

  pub record SeatOk (trace : List Access) (trap : Option Place) (u : ℕ) (seat : Seat P G) : Type 0 where
    pub bounded : seat.done ≤ S.count
    pub begun : seat.done ≤ length seat.seen
    pub signs : length seat.signs ≡ length seat.seen
    pub before : (j : ℕ) → Inside S j → S.owner j ≡ u → S.epoch j < seat.done → Done trace j
    pub later : (j : ℕ) → Inside S j → S.owner j ≡ u → seat.done < S.epoch j → part j trace ≡ []
    pub hand : HandOk trace trap u seat.done (length seat.seen) seat.hand

  -- a passed pair: both tasks are finished, and where it is unordered its signatures don't overlap
  pub record PassedOk (seats : List (Seat P G)) (p : Pair) : Type 0 where
    pub early : p.early.epoch < done_at seats p.early.worker
    pub late : p.late.epoch < done_at seats p.late.worker
    pub apart : is_unordered seats p ≡ true → overlap_of m seats p ≡ None

  -- what a signature noted is in the trace, in the part of an iteration of the task
  pub record IsTold (trace : List Access) (e u : ℕ) (claims : Claims) : Type 0 where
    pub read : (w : ℕ) → claims.read w ≡ true → (k : ℕ) × (value : ℤ) × IsOf S e u k × In (Read k w value) trace
    pub written : (w : ℕ) → claims.written w ≡ true → (k : ℕ) × (value : ℤ) × IsOf S e u k × In (Write k w value) trace

  -- a kept trap is of an iteration, and no worker is further behind; its own worker is stopped
  pub record TrapOk (seats : List (Seat P G)) (trace : List Access) (trap : Place) : Type 0 where
    pub inside : Inside S trap.number
    pub of_iteration : trap.by_scheduler ≡ false
    pub reached : (v : ℕ) → v < m.width → S.epoch trap.number ≤ done_at seats v
    pub trapped : IsTrapped (family_of m.system.fixed nest trap.number) (part trap.number trace) trap.cause trap.line
    pub stopped : (seat_at seats (S.owner trap.number)).hand ≡ Stopped

  pub record Sound (mark words : List ℤ) (seats : List (Seat P G)) (distance : ℕ) (cleared : List Pair) (trap : Option Place) (trace : List Access) : Type 0 where
    pub replays : Replays mark trace
    pub settles : settle mark trace ≡ words
    pub fixed_words : HoldsFixed m.system.fixed words
    pub fits : (k : ℕ) → Fits (family_of m.system.fixed nest k) (part k trace)
    pub accesses : Each (IsNoted seats) trace
    pub ordered : Pairs (IsBefore seats) trace
    -- where an iteration has an access, the lower ones of its worker are done
    pub own : Each (λ a. (j : ℕ) → Inside S j → S.owner j ≡ S.owner (iteration a) → j < iteration a → Done trace j) trace
    pub seen : (w e v : ℕ) → saw seats e w v ≤ done_at seats v
    pub near : (w v e : ℕ) → w < m.width → v < m.width → e < length (seat_at seats w).seen → e ≤ saw seats e w v + distance
    pub crew : (u : ℕ) → u < m.width → SeatOk trace trap u (seat_at seats u)
    pub passed : (p : Pair) → In p cleared → PassedOk seats p
    pub told : (e u : ℕ) → u < m.width → IsTold trace e u (noted (sign_at m seats (record { epoch = e; worker = u })))
    pub trapped : (t : Place) → trap ≡ Some t → TrapOk seats trace t

module _ {B C P G : Type 0} (m : Setup B C P G) (nest : Nest) (what : B × ℕ → ℕ × List ℤ) where
  -- the open epochs: one behind the other, with the iterations of the nest
  abbrev pub Chain : ℕ → ℕ → List (Epoch B) → Type 0
  Chain first next [] = first ≡ next
  Chain first next (x ∷ epochs) = (x.first ≡ first) × ((j : ℕ) → j < x.count → iteration_at nest (x.first + j) ≡ Some (what (x.body, j))) × Chain (x.first + x.count) next epochs

  -- While the scheduler has no trap its cursor stands behind some events of the nest. A trap of it stands behind all
  -- iterations so far, and is the outcome if textual order gets there.
  pub record Going (next : ℕ) (cursor : C) : Type 0 where
    pub events : List Passed
    pub behind : Behind nest what (one_by_one m.event) events next (Outside cursor)

  abbrev pub EarlyTrap : ℕ → Option Place → Type 0
  EarlyTrap next None = Unit {0}
  EarlyTrap next (Some trap) = (trap.by_scheduler ≡ true) × (trap.number ≡ next) × ((words : List ℤ) → reached nest next ≡ Some words → outcome nest ≡ TrappedAt trap)

  -- The segments of the nest are those committed, and those ahead, of which the open epochs are the first of the first; a
  -- sealed one is whole.
  pub record SegmentsOk (start : C) (s : State B C P G) : Type 0 where
    pub committed : List (List (Epoch B))
    pub are : segments m nest start ≡ committed ++ segments_ahead m nest s.early s.cursor s.next s.epochs
    pub counts : length committed ≡ s.facts.segments
    pub whole : s.sealed ≡ true → segments_ahead m nest s.early s.cursor s.next s.epochs ≡ s.epochs ∷ segments_ahead m nest s.early s.cursor s.next []

  -- a kept abort is of a segment with an epoch, tells what it is, and has its cause in the nest
  pub record AbortOk (start : C) (s : State B C P G) (cause : Abort) : Type 0 where
    pub given : 0 < length s.epochs
    pub tells : Tells m s cause
    pub caused : (claims : ℕ → Claims) (size : ℕ) → AreHeld m nest claims size → CausedBy m nest start claims size s.facts.segments cause

  pub record Invariant (start : C) (noted : G → Claims) (s : State B C P G) (trace : List Access) : Type 0 where
    pub first : ℕ
    pub width : length s.seats ≡ m.width
    pub marked : reached nest first ≡ Some s.mark
    pub chain : Chain first s.next s.epochs
    pub known : (k : ℕ) → k < s.next → IsSome (iteration_at nest k)
    pub course : s.early ≡ None → Going s.next s.cursor
    pub early : EarlyTrap s.next s.early
    pub segments : SegmentsOk start s
    pub room : length s.epochs ≤ m.room
    pub filled : s.sealed ≡ true → 0 < length s.epochs
    pub either : (s.abort ≡ None) ⊎ (s.trap ≡ None)
    pub strict : IsSome s.trap → s.distance ≡ 0
    pub within : s.distance ≤ m.far
    pub sound : s.abort ≡ None → Sound m nest noted (plan m first s.next s.epochs) s.mark s.words s.seats s.distance s.passed s.trap trace
    pub aborted : (cause : Abort) → s.abort ≡ Some cause → AbortOk start s cause
    pub over : s.concluded ≡ true → ending_of s ≡ outcome nest

-- Each legal history leaves a state with the invariant.
abbrev pub HistoriesKeepInvariant : Type 0 → Type 0 → Type 0 → Type 0 → Type 0
HistoriesKeepInvariant B C P G = (m : Setup B C P G) (nest : Nest) (what : B × ℕ → ℕ × List ℤ) (start : C) (noted : G → Claims) → IsSetupFor m nest what start noted → (history : List ℕ) (s : State B C P G) → Leads m nest start history s → Invariant m nest what start noted s (trace_from m (opening m start nest.opening) [] history)
