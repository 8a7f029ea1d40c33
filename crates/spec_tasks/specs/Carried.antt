-- What holds of every history of a speculative machine on a nest, whatever the order of the actors in it. No piece of work
-- is spoken of, so what is forgotten of the pieces takes nothing away.
use Rattle.std.specs.Prelude.{◌≡◌, ℕ, ◌+◌, ◌<◌, ◌≤◌, ℤ, Bool, true, false, Some, None, IsSome, List, [], length}
use Rattle.settle_law.specs.Cuts.{HoldsFixed}
use Rattle.settle_law.specs.Claims.{Claims, claimed}
use Rattle.settle_law.specs.Courses.{Nest, iteration_at, outcome}
use Rattle.settle_law.specs.Tasks.{Stop}
use Rattle.nest_tasks.specs.Forgetting.{forget_stop}
use Rattle.spec_machine.specs.Facts.{Pair, Abort, Rollback}
use Rattle.spec_machine.specs.Machine.{Setup, State, DoCommit, opening, move_of}
use Rattle.spec_machine.specs.Table.{In}
use Rattle.spec_machine.specs.Runs.{trace_from, rollbacks_from, is_finished, ending_of}
use Rattle.spec_machine.specs.Segments.{IsBlamed}
use Rattle.spec_machine.specs.Theorems.{IsSetupFor, Leads, Completes, IsTrueCommit, Tells, AreHeld, CausedBy, IsTrapOf, Rises, CanGoOn}
use Rattle.spec_machine.specs.Measure.{measure}
use Rattle.spec_tasks.specs.Notes.{noted_in}
use Rattle.spec_tasks.specs.Forgetting.{forget_setup, with_notes}

pub record KeepsNest {B C P G : Type 0} (m : Setup B C P G) (nest : Nest) (start : C) (touched : ℕ → Bool) (most : ℕ) : Type 0 where
  -- a commit that is enabled is true, and a complete history ends as the nest does in textual order
  pub commits : (history : List ℕ) (s : State B C P G) (actor : ℕ) → Leads m nest start history s → move_of m s actor ≡ Some DoCommit → IsTrueCommit m nest s (trace_from m (opening m start nest.opening) [] history)
  pub ends : (history : List ℕ) (complete : Completes m nest start history) → ending_of complete.last ≡ outcome nest
  -- a kept abort says what it is, each rollback has its cause in the nest, and a segment is restored once
  pub aborts : (history : List ℕ) (s : State B C P G) (cause : Abort) → Leads m nest start history s → s.abort ≡ Some cause → Tells m s cause
  pub causes : (claims : ℕ → Claims) (size : ℕ) → AreHeld m nest claims size → (history : List ℕ) (s : State B C P G) (rollback : Rollback) → Leads m nest start history s → In rollback (rollbacks_from m (opening m start nest.opening) history) → CausedBy m nest start claims size rollback.segment rollback.cause
  pub below_least : (claims : ℕ → Claims) (size : ℕ) → AreHeld m nest claims size → ((k w : ℕ) → claimed (claims k) w ≡ true → touched w ≡ true) → ((distance g : ℕ) (p : Pair) → IsBlamed m nest start claims size distance g p → p.early.epoch + m.far < p.late.epoch)
      → (history : List ℕ) (s : State B C P G) (rollback : Rollback) → Leads m nest start history s → In rollback (rollbacks_from m (opening m start nest.opening) history) → IsTrapOf m nest start rollback.segment rollback.cause
  pub once : (history : List ℕ) (s : State B C P G) → Leads m nest start history s → Rises 0 (rollbacks_from m (opening m start nest.opening) history)
  -- the epochs have room, all iterations that were passed are the nest's, and `const` words keep their values
  pub room : (history : List ℕ) (s : State B C P G) → Leads m nest start history s → length s.epochs ≤ m.room
  pub known : (history : List ℕ) (s : State B C P G) → Leads m nest start history s → (k : ℕ) → k < s.next → IsSome (iteration_at nest k)
  pub fixed_words : (history : List ℕ) (s : State B C P G) → Leads m nest start history s → s.abort ≡ None → HoldsFixed m.system.fixed s.words
  -- a machine that isn't finished goes on, and no legal history is longer than this
  pub goes_on : (history : List ℕ) (s : State B C P G) → Leads m nest start history s → is_finished s ≡ false → CanGoOn m s
  pub few : (history : List ℕ) (s : State B C P G) → Leads m nest start history s → length history ≤ most

-- A machine keeps a nest where another is set up for it, with notes in place of signatures, of whose pieces it forgets
-- something.
abbrev pub ForgettingKeepsNests : Type 0 → Type 0 → Type 0 → Type 0 → Type 0 → Type 0
ForgettingKeepsNests B C P Q G = (m : Setup B C P G) (f : P → Q) (stop : Q → Stop Q) → ((p : P) → stop (f p) ≡ forget_stop f (m.system.stop p))
    → (nest : Nest) (what : B × ℕ → ℕ × List ℤ) (start : C) → (setup : IsSetupFor (with_notes m) nest what start noted_in)
    → KeepsNest (forget_setup f stop m) nest start setup.touched (measure (with_notes m) nest (opening (with_notes m) start nest.opening))
