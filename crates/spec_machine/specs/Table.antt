-- The table: where each row is enabled, in its own words. `step` chooses among the rows by tests; that it chooses exactly
-- the enabled one, in every state that a legal history leaves, is a law.
use Rattle.std.specs.Prelude.{◌≡◌, ℕ, suc, ◌+◌, ◌<◌, ◌≤◌, ◌⊎◌, ℤ, true, false, Option, Some, None, IsSome, List, [], ◌∷◌, length}
use Rattle.nest_syntax.specs.declared.place.Place.{Place}
use Rattle.settle_law.specs.Tasks.{Stop, Loads, Stores, Goes, Finishes, Traps}
use Rattle.settle_law.specs.Courses.{Trap}
use Rattle.spec_machine.specs.Invocations.{Event, End, Scalar, Drain, Invoke}
use Rattle.spec_machine.specs.Facts.{Pair}
use Rattle.spec_machine.specs.Machine.{Setup, State, Hand, Idle, Empty, Running, Stopped, Move, DoScalar, DoDrain, DoOpen, DoClose, DoCommit, DoRestore, DoConclude, DoBegin, DoRead, DoWrite, DoGo, DoNext, DoFinish, DoFail, DoTrap, DoLetGo, DoStop, DoCheck, DoAbort, seat_at, done_at, is_running, pairs, is_unordered, is_passed, due, from, to, piece_at, first_hand, overlap_of}

abbrev pub In : {A : Type 0} → A → List A → Type 0
In x [] = ⊥
In x (y ∷ ys) = (y ≡ x) ⊎ In x ys

-- an iteration isn't above the trap
abbrev pub NotAbove : Option Place → ℕ → Type 0
NotAbove None k = Unit {0}
NotAbove (Some trap) k = k ≤ trap.number

module _ {B C P G : Type 0} (m : Setup B C P G) (s : State B C P G) where
  -- the scheduler may act, and it is free
  pub record IsGoing (u : ℕ) : Type 0 where
    pub actor : u ≡ m.width
    pub going : s.concluded ≡ false
    pub calm : s.abort ≡ None

  pub record IsFree (u : ℕ) : Type 0 where
    pub going : IsGoing u
    pub unsealed : s.sealed ≡ false
    pub untrapped : s.trap ≡ None
    pub undisturbed : s.early ≡ None

  -- an event that closes a segment
  abbrev pub IsCut : Event B C → Type 0
  IsCut End = Unit {0}
  IsCut (Scalar purpose trap rest) = ⊥
  IsCut (Drain purpose trap rest) = Unit {0}
  IsCut (Invoke b n rest) = ⊥

  -- a worker may act, with this hand
  pub record IsWorking (u : ℕ) (hand : Hand P) : Type 0 where
    pub own : u < m.width
    pub going : s.concluded ≡ false
    pub calm : s.abort ≡ None
    pub holds : (seat_at s.seats u).hand ≡ hand

  -- it stands at an iteration that isn't above the trap, and its piece at this stop
  pub record IsAt (u k : ℕ) (stop : Stop P) : Type 0 where
    pub piece : P
    pub working : IsWorking u (Running k piece)
    pub below : NotAbove s.trap k
    pub stops : m.system.stop piece ≡ stop

  -- the iterations that a worker has left: of its present task, or of its next one
  abbrev pub IsLeft : Hand P → (e u j : ℕ) → Type 0
  IsLeft Idle e u j = (e < length s.epochs) × (from m s.epochs e u ≤ j) × (j < to m s.epochs e u)
  IsLeft Empty e u j = ⊥
  IsLeft (Running k piece) e u j = (k ≤ j) × (j < to m s.epochs e u)
  IsLeft Stopped e u j = ⊥

  abbrev pub FirstIsBelow : Option Place → (e u : ℕ) → Type 0
  FirstIsBelow None e u = Unit {0}
  FirstIsBelow (Some trap) e u = (from m s.epochs e u < to m s.epochs e u) × (from m s.epochs e u < trap.number)

  abbrev pub Enabled : ℕ → Move B C P → Type 0
  Enabled u (DoScalar purpose trap rest) = IsFree u × (length s.epochs < m.room) × (m.event s.cursor ≡ Scalar purpose trap rest)
  Enabled u (DoDrain purpose trap rest) = (traps : List ℤ → Option Trap) × (rests : List ℤ → C) × IsFree u × (s.epochs ≡ []) × (m.event s.cursor ≡ Drain purpose traps rests) × (traps s.words ≡ trap) × (rests s.words ≡ rest)
  Enabled u (DoOpen b n rest) = IsFree u × (length s.epochs < m.room) × (m.event s.cursor ≡ Invoke b n rest)
  Enabled u DoClose = IsGoing u × (s.sealed ≡ false) × (s.trap ≡ None) × (0 < length s.epochs) × ((length s.epochs ≡ m.room) ⊎ (IsCut (m.event s.cursor) ⊎ IsSome s.early))
  Enabled u DoCommit = IsGoing u × (s.sealed ≡ true) × (s.trap ≡ None) × ((v : ℕ) → v < m.width → done_at s.seats v ≡ length s.epochs) × ((p : Pair) → In p (pairs m.width (length s.epochs)) → is_unordered s.seats p ≡ true → is_passed s.passed p ≡ true)
  Enabled u (DoRestore cause) = (u ≡ m.width) × (s.concluded ≡ false) × (s.abort ≡ Some cause) × ((v : ℕ) → v < m.width → is_running (seat_at s.seats v).hand ≡ false)
  Enabled u DoConclude = IsGoing u × ((IsSome s.trap × ((v : ℕ) → v < m.width → (seat_at s.seats v).hand ≡ Stopped)) ⊎ ((s.trap ≡ None) × (s.epochs ≡ []) × ((m.event s.cursor ≡ End) ⊎ IsSome s.early)))
  Enabled u (DoBegin hand) = IsWorking u Idle × (done_at s.seats u < length s.epochs) × ((v : ℕ) → v < m.width → done_at s.seats u ≤ done_at s.seats v + s.distance) × FirstIsBelow s.trap (done_at s.seats u) u × (hand ≡ first_hand m s.epochs (done_at s.seats u) u)
  Enabled u (DoRead k w next) = IsAt u k (Loads w next)
  Enabled u (DoWrite k w value next) = IsAt u k (Stores w value next)
  Enabled u (DoGo k next) = IsAt u k (Goes next)
  Enabled u (DoNext k piece) = (j : ℕ) × IsAt u j Finishes × (k ≡ suc j) × (k < to m s.epochs (done_at s.seats u) u) × (piece ≡ piece_at m s.epochs (done_at s.seats u) k)
  Enabled u DoFinish = (IsWorking u Empty × (s.trap ≡ None)) ⊎ ((k : ℕ) × IsAt u k Finishes × (to m s.epochs (done_at s.seats u) u ≤ suc k))
  Enabled u DoFail = (k : ℕ) × (cause : _) × (line : _) × IsAt u k (Traps cause line) × (0 < s.distance)
  Enabled u (DoTrap k cause line) = IsAt u k (Traps cause line) × (s.distance ≡ 0)
  Enabled u DoLetGo = (u < m.width) × (s.concluded ≡ false) × IsSome s.abort × (is_running (seat_at s.seats u).hand ≡ true)
  Enabled u DoStop = (hand : Hand P) × (trap : Place) × IsWorking u hand × (hand ≡ Stopped → ⊥) × (s.trap ≡ Some trap) × ((j : ℕ) → IsLeft hand (done_at s.seats u) u j → trap.number ≤ j)
  Enabled u (DoCheck p) = (u ≡ suc m.width) × (s.concluded ≡ false) × (s.abort ≡ None) × (s.trap ≡ None) × (due m.width s ≡ Some p) × (overlap_of m s.seats p ≡ None)
  Enabled u (DoAbort p array) = (u ≡ suc m.width) × (s.concluded ≡ false) × (s.abort ≡ None) × (s.trap ≡ None) × (due m.width s ≡ Some p) × (overlap_of m s.seats p ≡ Some array)
