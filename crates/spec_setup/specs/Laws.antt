-- What holds of the speculative setup of a program.
use Rattle.std.specs.Prelude.{ℕ, ℤ, List}
use Rattle.nest_syntax.specs.declared.tree.Program.{Program}
use Rattle.settle_law.specs.Courses.{nest_of}
use Rattle.task_code.specs.Code.{Code}
use Rattle.sched_cursor.specs.Cursor.{Cursor}
use Rattle.sched_cursor.specs.Laws.{restarted}
use Rattle.nest_setup.specs.Setups.{BoundTurns}
use Rattle.nest_setup.specs.Laws.{cost_by}
use Rattle.spec_machine.specs.Theorems.{IsSetupFor}
use Rattle.spec_machine.specs.Measure.{bound}
use Rattle.spec_tasks.specs.Notes.{noted_in}
use Rattle.spec_tasks.specs.Forgetting.{with_notes}
use Rattle.spec_tasks.specs.Carried.{KeepsNest}
use Rattle.spec_setup.specs.Signs.{Signs, HoldNotes, exact_signs, range_signs}
use Rattle.spec_setup.specs.Setups.{what_in, setup_of, fuelled_setup_of, is_word_of, IsPrepared}

-- With the stops that are left beside its pieces, and notes in place of signatures, it is a setup for the nest of the
-- program, from the cursor's start on.
abbrev pub SetupsAreRight : Type 0 → Type 0
SetupsAreRight S = (program : Program) (opening : List ℤ) (code : Code) (cursor : Cursor) (signs : Signs S) (width room far : ℕ) → IsPrepared program code cursor signs width room
    → (stops : ℕ × List ℤ → ℕ) → BoundTurns program opening stops
    → IsSetupFor (with_notes (fuelled_setup_of program opening code stops signs width room far)) (nest_of program opening) (what_in program) (restarted program cursor) noted_in

-- So the machine without that count, and with signatures, keeps the nest, and no history is longer than the bound by the
-- costs.
abbrev pub SetupsKeepNests : Type 0 → Type 0
SetupsKeepNests S = (program : Program) (opening : List ℤ) (code : Code) (cursor : Cursor) (signs : Signs S) (width room far : ℕ) → IsPrepared program code cursor signs width room
    → (stops : ℕ × List ℤ → ℕ) → BoundTurns program opening stops
    → KeepsNest (setup_of program opening code signs width room far) (nest_of program opening) (restarted program cursor) (is_word_of program) (bound (setup_of program opening code signs width room far) (nest_of program opening) (restarted program cursor) (cost_by (nest_of program opening) stops))

-- Both kinds of signature hold what they noted.
pub record SignsHoldNotes : Type 0 where
  pub exact : HoldNotes exact_signs
  pub ranges : HoldNotes range_signs
