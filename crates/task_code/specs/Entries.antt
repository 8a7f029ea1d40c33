-- What holds of the entries of a program's code, and of its bodies by their numbers.
use Rattle.std.specs.Prelude.{◌≡◌, ℕ, ℤ, true, Some, List, length, slice_get}
use Rattle.nest_syntax.specs.declared.tree.Loop.{Loop}
use Rattle.nest_syntax.specs.declared.tree.Program.{Program}
use Rattle.nest_syntax.specs.Arrays.{Array}
use Rattle.nest_syntax.specs.Shape.{Body, invoked_by, bodies_of, statements_of_each}
use Rattle.nest_syntax.specs.Turn.{turn_of}
use Rattle.nest_syntax.specs.Outcome.{turn_in}
use Rattle.nest_check.specs.Declarations.{has_name}
use Rattle.nest_check.specs.Rules.{locals_of}
use Rattle.task_code.specs.Code.{Code, entry_of}
use Rattle.task_code.specs.CodeOf.{IsEntryOf, IsCodeOf}

-- The code of a program has as many entries as the program has bodies.
abbrev pub EntriesCount : Type 0
EntriesCount = (program : Program) (code : Code) → IsCodeOf program code → length code.entries ≡ length (bodies_of program)

-- The entry with a body's number is the entry of that body.
abbrev pub EntriesAreOfBodies : Type 0
EntriesAreOfBodies = (program : Program) (code : Code) → IsCodeOf program code → (number : ℕ) (body : Body) → slice_get (invoked_by program) number ≡ Some body → IsEntryOf program code.instructions body (entry_of code number)

-- What an iteration does that names its body by a number is the turn of that body.
abbrev pub TurnsAreOfBodies : Type 0
TurnsAreOfBodies = (arrays : List Array) (bodies : List Body) (number : ℕ) (body : Body) → slice_get bodies number ≡ Some body → (scalars : List ℤ) → turn_in arrays (statements_of_each bodies) number scalars ≡ turn_of arrays body.stmts scalars

-- The variable of a body's invocation is among the locals of the body.
abbrev pub VariablesAreLocals : Type 0
VariablesAreLocals = (body : Body) (l : Loop) → body.header ≡ Some l → has_name (locals_of body) l.name ≡ true
