-- The rule on the bounds of the loops inside a body, as the lines that break it.
use Rattle.std.specs.Prelude.{◌≡◌, ◌⊎◌, List}
use Rattle.nest_syntax.specs.declared.names.Line.{Line}
use Rattle.nest_syntax.specs.declared.tree.Loop.{Loop}
use Rattle.nest_syntax.specs.declared.tree.Stmt.{Stmt}
use Rattle.nest_syntax.specs.declared.tree.Program.{Program}
use Rattle.nest_syntax.specs.Arrays.{Array, arrays_of}
use Rattle.nest_syntax.specs.Shape.{bodies_of}
use Rattle.nest_syntax.specs.Among.{IsOne}
use Rattle.data_local.specs.DataLocals.{IsData}
use Rattle.data_local.specs.Loops.{line_of, loops_in}

-- Whether a line is that of a loop that stands inside a body and has a data expression as a bound.
abbrev pub HasDataBoundIn : List Array → List Stmt → Line → Type 0
HasDataBoundIn arrays body line = (inner : Loop) × IsOne (loops_in body) inner × (inner.line ≡ line) × (IsData arrays body inner.low ⊎ IsData arrays body inner.high)

-- The same in some body of a program: the bounds of such loops must be known from slice locals and `const` arrays.
abbrev pub HasDataBound : Program → Line → Type 0
HasDataBound program line = (body : List Stmt) × IsOne (bodies_of program) body × HasDataBoundIn (arrays_of program.decls) body line
