-- The least distance of a job: the least difference of epoch numbers, 1 for neighbours, of two tasks of one segment, of
-- different epochs and workers, whose hulls overlap. It doesn't depend on the schedule.
use Rattle.std.specs.Prelude.{◌≡◌, ℕ, ◌+◌, ◌≤◌, ◌<◌, Option, Some, None, List}
use Rattle.nest_mean.specs.Nest.{Nest}
use Rattle.task_code.specs.Code.{Code}
use Rattle.sched_cursor.specs.Cursor.{Cursor}
use Rattle.sched_cursor.specs.Laws.{IsCursorOf, restarted}
use Rattle.progress_board.specs.declared.options.Options.{Options}
use Rattle.progress_board.specs.declared.options.Sign.{Sign}
use Rattle.progress_board.specs.declared.options.Sign.TheVariants as sign
use Rattle.spec_machine.specs.Facts.{Pair, Rollback}
use Rattle.spec_machine.specs.Segments.{IsBlamed}
use Rattle.spec_machine.specs.Table.{In}
use Rattle.spec_machine.specs.Theorems.{IsTrapOf}
use Rattle.spec_setup.specs.Signs.{Signs, HoldNotes, exact_signs, range_signs}
use Rattle.spec_core.specs.Engine.{Engine, setup_for, setup_in, nest_in, far_of}
use Rattle.spec_core.specs.Theorems.{IsHistory, claims_due, words_due, start_of, rollbacks_of}

-- The least distance of the pairs with a property, none where no pair has it.
abbrev pub IsLeastOf : (Pair → Type 0) → Option ℕ → Type 0
IsLeastOf Has None = (p : Pair) → Has p → ⊥
IsLeastOf Has (Some d) = ((p : Pair) × Has p × (p.late.epoch ≡ p.early.epoch + d)) × ((p : Pair) → Has p → p.early.epoch + d ≤ p.late.epoch)

-- A pair of tasks of a segment of the job whose hulls overlap, however far apart. Code has no part in it.
abbrev pub AreBlamed : {S : Type 0} → Signs S → Nest → Options → Code → Cursor → Pair → Type 0
AreBlamed signs job options code cursor p = (distance segment : ℕ) × IsBlamed (setup_for signs job code options) (nest_in job) (restarted job.program cursor) (claims_due job) (words_due job) distance segment p

-- The least distance, which is the same for each code and each cursor of the program.
pub record IsLeastBy {S : Type 0} (signs : Signs S) (job : Nest) (options : Options) (answer : Option ℕ) : Type 0 where
  pub some_cursor : (cursor : Cursor) × IsCursorOf job.program cursor
  pub least : (code : Code) (cursor : Cursor) → IsCursorOf job.program cursor → IsLeastOf (AreBlamed signs job options code cursor) answer

-- by the kind of signature that the options say
abbrev pub IsLeastFor : Sign → Nest → Options → Option ℕ → Type 0
IsLeastFor sign.Exact = IsLeastBy exact_signs
IsLeastFor sign.Range = IsLeastBy range_signs

abbrev pub IsLeast : Nest → Options → Option ℕ → Type 0
IsLeast job options answer = IsLeastFor options.sign job options answer

-- There is one.
abbrev pub OneLeast : Type 0
OneLeast = (job : Nest) (options : Options) (answer other : Option ℕ) → IsLeast job options answer → IsLeast job options other → answer ≡ other

-- a distance below the least, below which each one is where there is none
abbrev pub IsBelow : ℕ → Option ℕ → Type 0
IsBelow distance None = Unit {0}
IsBelow distance (Some least) = distance < least

-- Where the set distance is below the least one, that of as many workers and of as long segments, no segment is given up for
-- an overlap, and for a trap the one alone in which the outcome traps.
abbrev pub BelowLeastAreTraps : Type 0 → Type 0
BelowLeastAreTraps S = (signs : Signs S) → HoldNotes signs → (job : Nest) (asked options : Options) (answer : Option ℕ) (first : Engine S) (history : List ℕ) (e : Engine S)
    → asked.workers ≡ options.workers → asked.segment ≡ options.segment → IsLeastBy signs job asked answer → IsBelow (far_of options) answer → IsHistory signs job options first history e
    → (rollback : Rollback) → In rollback (rollbacks_of signs first history) → IsTrapOf (setup_in signs first) (nest_in job) (start_of first) rollback.segment rollback.cause
