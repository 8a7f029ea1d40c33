-- That the turns of a checked program stay inside its arrays.
use Rattle.std.specs.Prelude.{ℕ, ℤ, List}
use Rattle.nest_syntax.specs.declared.tree.Program.{Program}
use Rattle.nest_syntax.specs.Named.{IsWellNamed}
use Rattle.nest_syntax.specs.Arrays.{arrays_of}
use Rattle.nest_syntax.specs.Inside.{StaysInside}
use Rattle.nest_syntax.specs.Course.{bodies_of}
use Rattle.nest_syntax.specs.Outcome.{turn_in}
use Rattle.nest_check.specs.Kept.{KeepsRules}

-- The turns of the bodies of a program that keeps the rules, with any scalars.
abbrev pub TurnsStayInside : Type 0
TurnsStayInside = (program : Program) → IsWellNamed program → KeepsRules program → (body : ℕ) (scalars : List ℤ) → StaysInside (arrays_of program.decls) (turn_in (arrays_of program.decls) (bodies_of program) body scalars)
