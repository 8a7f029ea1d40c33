-- No caller needs this. The iterations of an invocation, one by one, and the scalars with which they are carried out.
use Rattle.std.specs.Prelude.{◌≡◌, ℕ, zero, suc, ◌+◌, ◌-◌, ◌<◌, ℤ, false, if◌then◌else◌, Option, Some, None, List, [], length, sum}
use Rattle.nest_syntax.specs.declared.tree.Program.{Program}
use Rattle.nest_syntax.specs.Among.{is_among}
use Rattle.nest_syntax.specs.Arrays.{arrays_of, sizes_of}
use Rattle.nest_syntax.specs.Locals.{locals_of}
use Rattle.nest_syntax.specs.Shape.{bodies_of}
use Rattle.nest_syntax.specs.Outcome.{body_at}
use Rattle.nest_syntax.specs.Value.{scalar_at}
use Rattle.word_store.specs.Memory.{HasLayout}
use Rattle.nest_mean.specs.Nest.{Nest}
use Rattle.settle_law.specs.Courses.{reached, iteration_at}
use Rattle.addr_slice.specs.Claims.{words_of}
use Rattle.sched_cursor.specs.declared.node.At.{At}
use Rattle.sched_cursor.specs.declared.node.At.TheVariants as at
use Rattle.sched_cursor.specs.Turning.{one_passed}
use Rattle.sched_cursor.specs.Cursor.{Cursor}
use Rattle.sched_cursor.specs.Events as events
use Rattle.sched_cursor.specs.Events.{handed_at}
use Rattle.sched_cursor.specs.Handed.{what_of}
use Rattle.sched_cursor.specs.Laws.{IsCursorOf}
use Rattle.spec_core.specs.Engine.{nest_in}
use Rattle.nest_profile.specs.declared.course.Course.{Course}

-- a cursor behind the next turn of the invocation that was entered, and behind so many of them
abbrev pub turned_at : Cursor → At → Cursor
turned_at c (at.Before next) = c
turned_at c (at.Inside i) = record c { at = at.Inside (record i { turning = one_passed i.turning }); next = c.next + 1 }

abbrev pub turned : ℕ → Cursor → Cursor
turned zero c = c
turned (suc n) c = let before : Cursor = turned n c in turned_at before before.at

-- how many of its turns are left
abbrev pub left_at : At → ℕ
left_at (at.Before next) = 0
left_at (at.Inside i) = i.turning.trips - i.turning.turn

-- The iterations of the next turns are the next ones of the nest.
abbrev pub AreNext : Nest → Cursor → ℕ → Type 0
AreNext job c count = (j : ℕ) → j < count → iteration_at (nest_in job) (c.next + j) ≡ Some (what_of job.program (handed_at (turned j c) (turned j c).at))

abbrev pub locals_at : Program → At → List ℕ
locals_at program (at.Before next) = []
locals_at program (at.Inside i) = locals_of (body_at (bodies_of program) i.body)

abbrev pub variable_at : At → Option ℕ
variable_at (at.Before next) = None
variable_at (at.Inside i) = i.name

-- Scalars that are those of the next iteration, but for the locals of its body; and that are those of the cursor, but for
-- these and the variable of the invocation.
pub record AreGiven (program : Program) (c : Cursor) (scalars : List ℤ) : Type 0 where
  pub as_many : length scalars ≡ length c.scalars
  pub same : (name : ℕ) → is_among (locals_at program c.at) name ≡ false → scalar_at scalars name ≡ scalar_at (events.iteration_at c c.at).1 name

pub record AreTakenOver (program : Program) (c : Cursor) (scalars : List ℤ) : Type 0 where
  pub as_many : length scalars ≡ length c.scalars
  pub same : (name : ℕ) → is_among (locals_at program c.at) name ≡ false → (variable_at c.at ≡ Some name → ⊥) → scalar_at scalars name ≡ scalar_at c.scalars name

-- the words of textual order, where it gets there
abbrev pub words_told : Course → Option (List ℤ)
words_told course = if course.is_reached then Some course.words.words else None

-- What a course keeps: its cursor is one of the program, and the words are those of textual order before the next iteration.
pub record IsCourse (job : Nest) (course : Course) : Type 0 where
  pub cursor_is : IsCursorOf job.program course.cursor
  pub layout : HasLayout course.words job.program.decls
  pub reached_is : reached (nest_in job) course.cursor.next ≡ words_told course
  pub room : words_of course.claims ≡ sum (sizes_of (arrays_of job.program.decls))
  pub names : length course.scalars ≡ length job.program.names
