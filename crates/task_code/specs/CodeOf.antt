-- The code of a program: from each body's entry the hops do what an iteration of the body does.
use Rattle.std.specs.Prelude.{◌≡◌, ◌≤◌, ℕ, ℤ, pos, false, is_some, Option, Some, IsTrue, List, [], ◌∷◌, length, slice_index_or}
use Rattle.nest_syntax.specs.declared.tree.Loop.{Loop}
use Rattle.nest_syntax.specs.declared.tree.Program.{Program}
use Rattle.nest_syntax.specs.Arrays.{arrays_of, sizes_of}
use Rattle.nest_syntax.specs.Value.{scalar_at}
use Rattle.nest_syntax.specs.Locals as text
use Rattle.nest_syntax.specs.Locals.{with_zeros}
use Rattle.nest_syntax.specs.Turn.{turn_of}
use Rattle.nest_syntax.specs.Shape.{Body, invoked_by}
use Rattle.nest_check.specs.Declarations.{has_name}
use Rattle.nest_check.specs.Tables.{scalar_of}
use Rattle.nest_check.specs.Rules.{locals_of}
use Rattle.settle_law.specs.Cuts.{cut}
use Rattle.task_code.specs.declared.code.Entry.{Entry}
use Rattle.task_code.specs.declared.code.Instruction.{Instruction}
use Rattle.task_code.specs.Code.{Code}
use Rattle.task_code.specs.Unfolded.{Unfolds, reached_from, opening_frame}
use Rattle.task_code.specs.Follows.{Follows}
use Rattle.task_code.specs.Ready.{block_ready}
use Rattle.task_code.specs.Compiled.{Holds}
use Rattle.task_code.specs.Bodies.{layout_of, slot_of}
use Rattle.task_code.specs.Sized.{AreSized}

-- What an iteration of a body begins with holds the scalars: `value` that of the invocation's variable, `env` those of the
-- scheduler, by their numbers. A scalar of the scheduler whose name is a local of the body isn't in scope there.
pub record BeginsWith (program : Program) (body : Body) (scalars : List ℤ) (value : ℤ) (env : List ℤ) : Type 0 where
  pub many : length scalars ≡ length program.names
  pub registers : length env ≡ 32
  pub variable : (l : Loop) → body.header ≡ Some l → scalar_at scalars l.name ≡ value
  pub scheduled : (name n : ℕ) → scalar_of program name ≡ Some n → has_name (locals_of body) name ≡ false → slice_index_or env n (pos 0) ≡ scalar_at scalars name

-- From the entry of a body, and the frame that an iteration begins on, the hops make its cut turn. The entry has a local
-- for the invocation's variable exactly where the body isn't an array statement.
pub record IsEntryOf (program : Program) (code : List Instruction) (body : Body) (entry : Entry) : Type 0 where
  pub slotted : is_some entry.slot ≡ is_some body.header
  pub unfolds : (scalars : List ℤ) (value : ℤ) (env : List ℤ) → BeginsWith program body scalars value env
      → Unfolds (sizes_of (arrays_of program.decls)) code (cut (sizes_of (arrays_of program.decls)) 0 (turn_of (arrays_of program.decls) body.stmts scalars)) (reached_from code entry.at (opening_frame entry.slot value env))

-- the entries of bodies, one after the other
abbrev pub AreEntriesOf : Program → List Instruction → List Body → List Entry → Type 0
AreEntriesOf program code [] [] = Unit {0}
AreEntriesOf program code (body ∷ bodies) (entry ∷ entries) = IsEntryOf program code body entry × AreEntriesOf program code bodies entries
AreEntriesOf program code [] (entry ∷ entries) = ⊥
AreEntriesOf program code (body ∷ bodies) [] = ⊥

-- Each body of the program, in textual order, has its entry, and what is read and written are words of its arrays.
pub record IsCodeOf (program : Program) (code : Code) : Type 0 where
  pub entries : AreEntriesOf program code.instructions (invoked_by program) code.entries
  pub sized : AreSized (sizes_of (arrays_of program.decls)) code.instructions

-- No caller needs what follows. A body that can be compiled: its locals have registers, its statements are ready, and the
-- frame that an iteration begins on holds the scalars.
pub record IsReady (program : Program) (body : Body) : Type 0 where
  pub few : length (layout_of body) ≤ 16
  pub ready : IsTrue (block_ready program (layout_of body) body.stmts 0)
  pub opens : (scalars : List ℤ) (value : ℤ) (env : List ℤ) → BeginsWith program body scalars value env
      → Holds program (layout_of body) (with_zeros (text.locals_of body.stmts) scalars) (opening_frame (slot_of body.header) value env)

-- The code from a body's entry does what a turn of the body says.
pub record IsStart (program : Program) (code : List Instruction) (body : Body) (entry : Entry) : Type 0 where
  pub slotted : entry.slot ≡ slot_of body.header
  pub follows : (scalars : List ℤ) (value : ℤ) (env : List ℤ) → BeginsWith program body scalars value env
      → Follows code (turn_of (arrays_of program.decls) body.stmts scalars) entry.at (opening_frame entry.slot value env)

abbrev pub AreStarts : Program → List Instruction → List Body → List Entry → Type 0
AreStarts program code [] [] = Unit {0}
AreStarts program code (body ∷ bodies) (entry ∷ entries) = IsStart program code body entry × AreStarts program code bodies entries
AreStarts program code [] (entry ∷ entries) = ⊥
AreStarts program code (body ∷ bodies) [] = ⊥
