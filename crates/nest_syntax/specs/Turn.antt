-- What one iteration does. A turn is a tree: each node is the next thing done, and behind a Load stands one subtree
-- for each word that may be read. It is the one place where the order of evaluation, the tests of subscripts, the
-- traps with their lines, the pure operations and the points where a worker may be interrupted (Go) are said. `Value`
-- says the order of an expression's parts without the steps, and the law `reckonings_are_values` that the two agree.
use Rattle.std.specs.Prelude.{ℕ, zero, suc, ℤ, pos, if◌then◌else◌, Option, Some, None, Result, Ok, Err, List, [], ◌∷◌, map}
use Rattle.nest_syntax.specs.declared.names.Line.{Line}
use Rattle.nest_syntax.specs.declared.operators.Bin.{Bin}
use Rattle.nest_syntax.specs.declared.operators.Bin.TheVariants as bin
use Rattle.nest_syntax.specs.declared.operators.Cause.{Cause}
use Rattle.nest_syntax.specs.declared.operators.Cause.TheVariants as cause
use Rattle.nest_syntax.specs.declared.tree.Expr.{Expr}
use Rattle.nest_syntax.specs.declared.tree.Expr.TheOpen.{Expr-F}
use Rattle.nest_syntax.specs.declared.tree.Expr.TheFolds.{fold-Expr}
use Rattle.nest_syntax.specs.declared.tree.Stmt.{Stmt}
use Rattle.nest_syntax.specs.declared.tree.Stmt.TheOpen.{Stmt-F, Arm-F, Loop-F}
use Rattle.nest_syntax.specs.declared.tree.Stmt.TheFolds.{fold-Stmt, fold-Loop}
use Rattle.nest_syntax.specs.declared.tree.Loop.{Loop}
use Rattle.nest_syntax.specs.Words.{is_zero, truth, apply, apply_un, operation_of, turns, counted, variable}
use Rattle.nest_syntax.specs.Arrays.{Array, located}
use Rattle.nest_syntax.specs.Value.{scalar_at, with_scalar}
use Rattle.nest_syntax.specs.Locals.{locals_of, with_zeros}

pub data Turn : Type 0 where
  Finished : Turn  -- the iteration is over
  Trapped : Cause → Line → Turn  -- it ends in a trap
  Load : ℕ → ℕ → (ℤ → Turn) → Turn  -- a word is read: its array and its place
  Store : ℕ → ℕ → ℤ → Turn → Turn  -- a word is written
  Op : Turn → Turn  -- one pure operation
  Go : Turn → Turn  -- a point where the worker may be interrupted

-- What an expression or a statement does, from the scalars, before what follows it. An expression hands its value on,
-- and is told the line of its statement; a statement hands the scalars on.
abbrev pub Reckoning : Type 0
Reckoning = Line → List ℤ → (ℤ → Turn) → Turn

abbrev pub Effect : Type 0
Effect = List ℤ → (List ℤ → Turn) → Turn

-- goes on with the result of an operation, or traps in its place
abbrev pub done_with : Line → Result ℤ Cause → (ℤ → Turn) → Turn
done_with line (Ok result) go = Op (go result)
done_with line (Err cause) go = Trapped cause line

-- goes on with a place inside its array, or traps
abbrev pub inside : Line → Option (ℕ × ℕ) → (ℕ → ℕ → Turn) → Turn
inside line None go = Trapped cause.Index line
inside line (Some p) go = go p.0 p.1

-- a binary operation behind its left operand; a test of `&&` and `||` is followed by a Go
abbrev pub operation_turn : Bin → ℤ → Reckoning → Reckoning
operation_turn bin.Both left right line scalars go = Go (if is_zero left then go (pos 0) else right line scalars (λ value. Go (go (truth value))))
operation_turn bin.Either left right line scalars go = Go (if is_zero left then right line scalars (λ value. Go (go (truth value))) else go (pos 1))
operation_turn operation left right line scalars go = right line scalars (λ value. done_with line (apply operation left value) go)

-- one layer of an expression: operands from left to right, a subscript is tested and then read
abbrev pub reckoning_node : List Array → Expr-F Reckoning → Reckoning
reckoning_node arrays (Expr-F.Number n) line scalars go = go n
reckoning_node arrays (Expr-F.Scalar name) line scalars go = go (scalar_at scalars name)
reckoning_node arrays (Expr-F.Word name place) line scalars go = place line scalars (λ at. inside line (located arrays name at) (λ array n. Load array n go))
reckoning_node arrays (Expr-F.Unary operation part) line scalars go = part line scalars (λ value. Op (go (apply_un operation value)))
reckoning_node arrays (Expr-F.Binary operation left right) line scalars go = left line scalars (λ value. operation_turn operation value right line scalars go)
reckoning_node arrays (Expr-F.Choice test first second) line scalars go = test line scalars (λ value. Go (if is_zero value then second line scalars go else first line scalars go))

abbrev pub reckoning : List Array → Expr → Reckoning
reckoning arrays = fold-Expr Reckoning (reckoning_node arrays)

-- the new value of an assignment: the operation of an `op=`, or the value itself
abbrev pub assigning : Line → Option Bin → ℤ → ℤ → (ℤ → Turn) → Turn
assigning line None old value go = go value
assigning line (Some operation) old value go = done_with line (apply operation old value) go

-- a write to a place inside its array: behind `op=` the word is read first
abbrev pub writing : Line → Option Bin → ℕ → ℕ → ℤ → Turn → Turn
writing line None array place value go = Store array place value go
writing line (Some operation) array place value go = Load array place (λ old. assigning line (Some operation) old value (λ new. Store array place new go))

-- one statement after the other
abbrev pub sequence : List Effect → Effect
sequence [] scalars go = go scalars
sequence (first ∷ others) scalars go = first scalars (λ after. sequence others after go)

-- n turns of a loop from turn k on, each followed by a Go
abbrev pub repeat : ℕ → ℕ → (ℕ → ℤ) → ℕ → Effect → Effect
repeat zero k variable_in name body scalars go = go scalars
repeat (suc n) k variable_in name body scalars go = body (with_scalar scalars name (variable_in k)) (λ after. Go (repeat n (suc k) variable_in name body after go))

-- a loop whose bounds are known: too many turns trap
abbrev pub looping : Line → Result ℕ Cause → (ℕ → ℤ) → ℕ → Effect → Effect
looping line (Ok n) variable_in name body scalars go = Go (repeat n 0 variable_in name body scalars go)
looping line (Err cause) variable_in name body scalars go = Trapped cause line

-- an arm of an `if`: its block or, where its test is 0, what the `if` does otherwise
abbrev pub Arm_effect : Type 0
Arm_effect = List ℤ → Turn → (List ℤ → Turn) → Turn

-- the first arm whose test isn't 0, or else the last block
abbrev pub choose : List Arm_effect → Effect → Effect
choose [] other scalars go = other scalars go
choose (arm ∷ arms) other scalars go = arm scalars (choose arms other scalars go) go

-- one layer of a statement, an arm and a loop
abbrev pub effect_node : List Array → Stmt-F Effect Arm_effect Effect → Effect
effect_node arrays (Stmt-F.Declare line name value) scalars go = reckoning arrays value line scalars (λ new. Op (go (with_scalar scalars name new)))
effect_node arrays (Stmt-F.Assign line name op value) scalars go = reckoning arrays value line scalars (λ right. assigning line (operation_of op) (scalar_at scalars name) right (λ new. Op (go (with_scalar scalars name new))))
effect_node arrays (Stmt-F.Write line name place op value) scalars go = reckoning arrays place line scalars (λ at. reckoning arrays value line scalars (λ right. inside line (located arrays name at) (λ array n. writing line (operation_of op) array n right (go scalars))))
effect_node arrays (Stmt-F.If arms other) scalars go = choose arms (sequence other) scalars go
effect_node arrays (Stmt-F.Loop inner) scalars go = inner scalars go

abbrev pub arm_node : List Array → Arm-F Effect Arm_effect Effect → Arm_effect
arm_node arrays arm scalars otherwise go = reckoning arrays arm.test arm.line scalars (λ value. Go (if is_zero value then otherwise else sequence arm.body scalars go))

abbrev pub loop_node : List Array → Loop-F Effect Arm_effect Effect → Effect
loop_node arrays l scalars go = reckoning arrays l.low l.line scalars (λ low. reckoning arrays l.high l.line scalars (λ high. looping l.line (counted (turns low high l.step l.through)) (variable low l.step) l.name (sequence l.body) scalars go))

-- what a statement does in a body
abbrev pub effect : List Array → Stmt → Effect
effect arrays = fold-Stmt Effect Arm_effect Effect (effect_node arrays) (arm_node arrays) (loop_node arrays)

-- what a loop does in a body
abbrev pub loop_effect : List Array → Loop → Effect
loop_effect arrays = fold-Loop Effect Arm_effect Effect (effect_node arrays) (arm_node arrays) (loop_node arrays)

-- the turn of a body: an iteration of it with these scalars, the invocation's variable among them; its locals begin with 0
abbrev pub turn_of : List Array → List Stmt → List ℤ → Turn
turn_of arrays body scalars = sequence (map (effect arrays) body) (with_zeros (locals_of body) scalars) (λ after. Finished)
