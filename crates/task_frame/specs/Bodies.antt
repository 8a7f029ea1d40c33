-- The pieces with which iterations of a program's bodies begin.
use Rattle.std.specs.Prelude.{◌≡◌, ℕ, ℤ, Some, List, slice_get}
use Rattle.nest_syntax.specs.declared.tree.Program.{Program}
use Rattle.nest_syntax.specs.Named.{IsWellNamed}
use Rattle.nest_syntax.specs.declared.tree.Stmt.{Stmt}
use Rattle.nest_syntax.specs.Arrays.{Array, arrays_of, sizes_of}
use Rattle.nest_syntax.specs.Shape.{Body, invoked_by, bodies_of}
use Rattle.nest_syntax.specs.Turn.{turn_of}
use Rattle.nest_syntax.specs.Outcome.{turn_in}
use Rattle.nest_check.specs.Kept.{KeepsRules}
use Rattle.settle_law.specs.Cuts.{cut}
use Rattle.settle_law.specs.Tasks.{Realises}
use Rattle.settle_law.specs.Reading.{fixed_in}
use Rattle.turn_cost.specs.Costs.{body_cost}
use Rattle.task_code.specs.Code.{Code}
use Rattle.task_code.specs.CodeOf.{BeginsWith, IsCodeOf}
use Rattle.task_frame.specs.Pieces.{opening_of}
use Rattle.task_frame.specs.System.{system_of, StopsAtMost}

-- In the code of a program that keeps the rules, the piece that opens an iteration of a body realises the body's cut turn on
-- these scalars, whatever the opening words, with as many stops left as the body costs at most.
abbrev pub BodiesAreRealised : Type 0
BodiesAreRealised = (program : Program) (code : Code) → IsWellNamed program → KeepsRules program → IsCodeOf program code
    → (number : ℕ) (body : Body) → slice_get (invoked_by program) number ≡ Some body
    → (words scalars : List ℤ) (value : ℤ) (env : List ℤ) → BeginsWith program body scalars value env
    → Realises (system_of (sizes_of (arrays_of program.decls)) code (fixed_in (arrays_of program.decls) words))
    (cut (sizes_of (arrays_of program.decls)) 0 (turn_in (arrays_of program.decls) (bodies_of program) number scalars))
    (record { piece = opening_of code number value env; left = body_cost body.stmts })

-- The cut turn of a body has no more stops than the body costs, whatever the scalars and whatever it reads.
abbrev pub BodiesStopAtMost : Type 0
BodiesStopAtMost = (arrays : List Array) (sizes : List ℕ) (body : List Stmt) (scalars : List ℤ) → StopsAtMost (cut sizes 0 (turn_of arrays body scalars)) (body_cost body)
