-- What a turn of a body takes at most, read off its text. A loop counts with the most turns that one may have, so the
-- number may pass 2^64.
use Rattle.std.specs.Prelude.{ℕ, suc, ◌+◌, ◌*◌, ◌≤◌, ℤ, List, [], ◌∷◌, map}
use Rattle.nest_syntax.specs.declared.operators.Bin.{Bin}
use Rattle.nest_syntax.specs.declared.operators.Bin.TheVariants as bin
use Rattle.nest_syntax.specs.declared.operators.Op.{Op as Change}
use Rattle.nest_syntax.specs.declared.operators.Op.TheVariants as op
use Rattle.nest_syntax.specs.declared.tree.Expr.{Expr, fold-Expr}
use Rattle.nest_syntax.specs.declared.tree.Expr.TheOpen.{Expr-F}
use Rattle.nest_syntax.specs.declared.tree.Stmt.{Stmt}
use Rattle.nest_syntax.specs.declared.tree.Stmt.TheOpen.{Stmt-F, Arm-F, Loop-F}
use Rattle.nest_syntax.specs.declared.tree.Stmt.TheFolds.{fold-Stmt, fold-Arm, fold-Loop}
use Rattle.nest_syntax.specs.declared.tree.Arm.{Arm}
use Rattle.nest_syntax.specs.declared.tree.Loop.{Loop}
use Rattle.nest_syntax.specs.Words.{most_turns}
use Rattle.nest_syntax.specs.Arrays.{Array}
use Rattle.nest_syntax.specs.Turn.{Turn, Finished, Trapped, Load, Store, Op, Go, turn_of}

-- A turn has at most so many operations and stops, on any path that it can take.
abbrev pub AtMost : Turn → ℕ → Type 0
AtMost Finished n = Unit {0}
AtMost (Trapped cause line) n = Unit {0}
AtMost (Load array place go) n = (m : ℕ) × (suc m ≤ n) × ((value : ℤ) → AtMost (go value) m)
AtMost (Store array place value rest) n = (m : ℕ) × (suc m ≤ n) × AtMost rest m
AtMost (Op rest) n = (m : ℕ) × (suc m ≤ n) × AtMost rest m
AtMost (Go rest) n = (m : ℕ) × (suc m ≤ n) × AtMost rest m

-- a binary operator is one operation, or behind each part of `&&` and `||` a Go
abbrev pub operator_cost : Bin → ℕ
operator_cost bin.Both = 2
operator_cost bin.Either = 2
operator_cost operation = 1

-- the operations and stops of an expression, of all its parts
abbrev pub expr_cost_node : Expr-F ℕ → ℕ
expr_cost_node (Expr-F.Number n) = 0
expr_cost_node (Expr-F.Scalar name) = 0
expr_cost_node (Expr-F.Word array place) = place + 1
expr_cost_node (Expr-F.Unary operation part) = part + 1
expr_cost_node (Expr-F.Binary operation left right) = left + (right + operator_cost operation)
expr_cost_node (Expr-F.Choice test first second) = test + (1 + (first + second))

abbrev pub expr_cost : Expr → ℕ
expr_cost = fold-Expr ℕ expr_cost_node

-- `op=` has an operation, and reads a word that it writes
abbrev pub change_cost : Change → ℕ
change_cost op.Set = 0
change_cost operation = 1

abbrev pub in_all : List ℕ → ℕ
in_all [] = 0
in_all (n ∷ numbers) = n + in_all numbers

abbrev pub stmt_cost_node : Stmt-F ℕ ℕ ℕ → ℕ
stmt_cost_node (Stmt-F.Declare line name value) = expr_cost value + 1
stmt_cost_node (Stmt-F.Assign line name operation value) = expr_cost value + (change_cost operation + 1)
stmt_cost_node (Stmt-F.Write line array place operation value) = expr_cost place + (expr_cost value + (change_cost operation + (change_cost operation + 1)))
stmt_cost_node (Stmt-F.If arms other) = in_all arms + in_all other
stmt_cost_node (Stmt-F.Loop inner) = inner

abbrev pub arm_cost_node : Arm-F ℕ ℕ ℕ → ℕ
arm_cost_node arm = expr_cost arm.test + (1 + in_all arm.body)

abbrev pub loop_cost_node : Loop-F ℕ ℕ ℕ → ℕ
loop_cost_node l = expr_cost l.low + (expr_cost l.high + (1 + most_turns * (in_all l.body + 1)))

abbrev pub stmt_cost : Stmt → ℕ
stmt_cost = fold-Stmt ℕ ℕ ℕ stmt_cost_node arm_cost_node loop_cost_node

abbrev pub arm_cost : Arm → ℕ
arm_cost = fold-Arm ℕ ℕ ℕ stmt_cost_node arm_cost_node loop_cost_node

abbrev pub loop_cost : Loop → ℕ
loop_cost = fold-Loop ℕ ℕ ℕ stmt_cost_node arm_cost_node loop_cost_node

abbrev pub body_cost : List Stmt → ℕ
body_cost body = in_all (map stmt_cost body)

-- A turn of a body has no more operations and stops, whatever the scalars and whatever it reads.
abbrev pub TurnsCostAtMost : Type 0
TurnsCostAtMost = (arrays : List Array) (body : List Stmt) (scalars : List ℤ) → AtMost (turn_of arrays body scalars) (body_cost body)
