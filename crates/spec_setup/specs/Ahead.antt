-- What can be gone on with, in each state that a legal history leaves.
use Rattle.std.specs.Prelude.{◌≡◌, ℕ, ◌+◌, ◌^◌, ◌<◌, ◌≤◌, ℤ, true, Some, None, List, length}
use Rattle.nest_syntax.specs.declared.place.Place.{Place}
use Rattle.nest_syntax.specs.declared.tree.Program.{Program}
use Rattle.nest_syntax.specs.Arrays.{arrays_of, sizes_of}
use Rattle.settle_law.specs.Courses.{nest_of}
use Rattle.task_code.specs.Code.{Code}
use Rattle.task_frame.specs.declared.piece.Piece.{Piece}
use Rattle.task_frame.specs.Pieces.{reached}
use Rattle.task_frame.specs.Stops.{IsInside, StopsInside}
use Rattle.sched_cursor.specs.Cursor.{Cursor}
use Rattle.sched_cursor.specs.Laws.{restarted}
use Rattle.spec_machine.specs.Facts.{Facts}
use Rattle.spec_machine.specs.Machine.{Setup, State, Epoch, Hand, Idle, Empty, Running, Stopped, seat_at, done_at, from, to, step}
use Rattle.spec_machine.specs.Theorems.{Leads}
use Rattle.spec_setup.specs.Signs.{Signs}
use Rattle.spec_setup.specs.Setups.{Invoked, setup_of, IsPrepared}

-- the counts have room for more
pub record HasFew (facts : Facts) : Type 0 where
  pub invocations : facts.invocations < 2 ^ 63
  pub iterations : facts.iterations ≤ 2 ^ 60
  pub segments : facts.segments < 2 ^ 63
  pub checks : facts.checks < 2 ^ 63
  pub rollbacks : facts.rollbacks < 2 ^ 63

-- What is held goes on: it is of a task that was begun, with the iteration in its block, and the piece stops inside the
-- arrays.
abbrev pub HandGoesOn : {S : Type 0} → Setup Invoked Cursor Piece S → List ℕ → List (Epoch Invoked) → (u done begun : ℕ) → Hand Piece → Type 0
HandGoesOn m sizes epochs u done begun Idle = begun ≡ done
HandGoesOn m sizes epochs u done begun Empty = (begun ≡ done + 1) × (done < length epochs)
HandGoesOn m sizes epochs u done begun (Running k piece) = (begun ≡ done + 1) × (done < length epochs) × (from m epochs done u ≤ k) × (k < to m epochs done u) × IsInside sizes (reached piece).stop
HandGoesOn m sizes epochs u done begun Stopped = Unit {0}

-- A sealed segment has an epoch, the scheduler's trap is told as its own, no more tasks are finished than epochs are open,
-- and while no abort is kept, what is held can be gone on with.
pub record GoesOn {S : Type 0} (m : Setup Invoked Cursor Piece S) (sizes : List ℕ) (s : State Invoked Cursor Piece S) : Type 0 where
  pub few : HasFew s.facts
  pub filled : s.sealed ≡ true → 0 < length s.epochs
  pub early : (trap : Place) → s.early ≡ Some trap → trap.by_scheduler ≡ true
  pub done : (u : ℕ) → done_at s.seats u ≤ length s.epochs
  pub hands : s.abort ≡ None → (u : ℕ) → u < m.width → HandGoesOn m sizes s.epochs u (done_at s.seats u) (length (seat_at s.seats u).seen) (seat_at s.seats u).hand

-- So it is along each history of a program's machine, with few workers and short segments, where the code's stops are
-- inside the arrays.
abbrev pub StatesGoOn : Type 0 → Type 0
StatesGoOn S = (program : Program) (opening : List ℤ) (code : Code) (cursor : Cursor) (signs : Signs S) (width room far : ℕ) → IsPrepared program code cursor signs width room
    → width ≤ 8 → room ≤ 64 → StopsInside (sizes_of (arrays_of program.decls)) code
    → (history : List ℕ) (s : State Invoked Cursor Piece S) → Leads (setup_of program opening code signs width room far) (nest_of program opening) (restarted program cursor) history s
    → GoesOn (setup_of program opening code signs width room far) (sizes_of (arrays_of program.decls)) s

-- No step changes the script of the cursor, in any state.
abbrev pub ScriptsStay : Type 0 → Type 0
ScriptsStay S = (program : Program) (opening : List ℤ) (code : Code) (signs : Signs S) (width room far : ℕ) (s t : State Invoked Cursor Piece S) (actor : ℕ)
    → step (setup_of program opening code signs width room far) s actor ≡ Some t → restarted program t.cursor ≡ restarted program s.cursor
