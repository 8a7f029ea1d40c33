-- What the scheduler computes at an event that stands in the text.
use Rattle.std.specs.Prelude.{ℕ, ℤ, pos, Bool, if◌then◌else◌, Some, None, Result, Ok, List, [], ◌∷◌}
use Rattle.std.specs.List.{list_any}
use Rattle.nest_syntax.specs.declared.names.Line.{Line}
use Rattle.nest_syntax.specs.declared.operators.Cause.{Cause}
use Rattle.nest_syntax.specs.declared.operators.Op.{Op}
use Rattle.nest_syntax.specs.declared.tree.Expr.{Expr}
use Rattle.nest_syntax.specs.Words.{is_zero, operation_of, assigned, turns, counted}
use Rattle.nest_syntax.specs.Arrays.{Array}
use Rattle.nest_syntax.specs.Value.{value, and_then, scalar_at, names_written}
use Rattle.nest_syntax.specs.Course.{Purpose, Ordinary, Header}
use Rattle.sched_cursor.specs.declared.node.Header.{Header as LoopHeader}
use Rattle.sched_cursor.specs.declared.node.Node.{Node}
use Rattle.sched_cursor.specs.declared.node.Node.TheVariants as node
use Rattle.sched_cursor.specs.declared.step.Step.{Step}
use Rattle.sched_cursor.specs.declared.step.Step.TheVariants as step
use Rattle.sched_cursor.specs.Turning.{Turning, begun}

-- the expressions that an event evaluates
abbrev pub exprs_of : Node → List Expr
exprs_of (node.Region header items leave) = header.low ∷ header.high ∷ []
exprs_of (node.Change line name op expr next) = expr ∷ []
exprs_of (node.Test line test taken otherwise) = test ∷ []
exprs_of (node.Invoke header body next) = header.low ∷ header.high ∷ []
exprs_of (node.Write line body next) = []

-- whether one of them names a written array
abbrev pub is_drain : List Array → Node → Bool
is_drain arrays this = list_any (names_written arrays) (exprs_of this)

-- the line of its trap, and its purpose
abbrev pub line_of : Node → Line
line_of (node.Region header items leave) = header.line
line_of (node.Change line name op expr next) = line
line_of (node.Test line test taken otherwise) = line
line_of (node.Invoke header body next) = header.line
line_of (node.Write line body next) = line

abbrev pub purpose_of : Node → Purpose
purpose_of (node.Region header items leave) = Ordinary
purpose_of (node.Change line name op expr next) = Ordinary
purpose_of (node.Test line test taken otherwise) = Ordinary
purpose_of (node.Invoke header body next) = Header
purpose_of (node.Write line body next) = Header

-- the turns of a loop with this header
abbrev pub turning_of : List Array → LoopHeader → List ℤ → List ℤ → Result Turning Cause
turning_of arrays h scalars words = and_then (value arrays scalars words h.low) (λ low. and_then (value arrays scalars words h.high) (λ high. and_then (counted (turns low high h.step h.through)) (λ trips. Ok (begun low h.step trips))))

-- the new value of a scalar
abbrev pub changed : List Array → ℕ → Op → Expr → List ℤ → List ℤ → Result ℤ Cause
changed arrays name op expr scalars words = and_then (value arrays scalars words expr) (assigned (operation_of op) (scalar_at scalars name))

-- what an event changes
abbrev pub step_of : List Array → Node → List ℤ → List ℤ → Result Step Cause
step_of arrays (node.Region header items leave) scalars words = and_then (turning_of arrays header scalars words) (λ turning. Ok (step.Enter (record { name = header.name; turning = turning; items = items; leave = leave })))
step_of arrays (node.Change line name op expr next) scalars words = and_then (changed arrays name op expr scalars words) (λ new. Ok (step.Change name new next))
step_of arrays (node.Test line test taken otherwise) scalars words = and_then (value arrays scalars words test) (λ v. Ok (step.Go (if is_zero v then otherwise else taken)))
step_of arrays (node.Invoke header body next) scalars words = and_then (turning_of arrays header scalars words) (λ turning. Ok (step.Invoke (record { body = body; name = Some header.name; turning = turning; next = next })))
step_of arrays (node.Write line body next) scalars words = Ok (step.Invoke (record { body = body; name = None; turning = begun (pos 0) 1 1; next = next }))
