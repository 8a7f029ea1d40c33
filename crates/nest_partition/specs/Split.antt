-- What of a program depends on its written arrays: their names, the data locals of each body, slice expressions.
use Rattle.std.specs.Prelude.{ℕ, List}
use Rattle.nest_syntax.specs.declared.tree.Expr.{Expr}
use Rattle.nest_syntax.specs.declared.tree.Stmt.{Stmt}
use Rattle.nest_syntax.specs.declared.tree.Program.{Program}
use Rattle.nest_syntax.specs.Arrays.{Array, arrays_of}
use Rattle.nest_syntax.specs.Shape.{bodies_of}
use Rattle.data_local.specs.DataLocals.{IsData}
use Rattle.data_local.specs.Bodies.{AreLocalsByBody}
use Rattle.data_local.specs.Written.{TellsWritten}

-- lists of names: of arrays, and of locals for each body
pub record Parts : Type 0 where
  pub written : List ℕ
  pub locals : List (List ℕ)

-- they are the written arrays of a program, and the data locals of each of its bodies
pub record IsSplitOf (program : Program) (parts : Parts) : Type 0 where
  pub written : TellsWritten (arrays_of program.decls) parts.written
  pub locals : AreLocalsByBody (arrays_of program.decls) (bodies_of program) parts.locals

-- a slice expression of a body names no written array and no data local
abbrev pub IsSlice : List Array → List Stmt → Expr → Type 0
IsSlice arrays body e = IsData arrays body e → ⊥
