-- The loops and the expressions of a program, each with its line.
use Rattle.std.specs.Prelude.{ℕ, suc, max, List, [], ◌∷◌, ◌++◌}
use Rattle.std.specs.List.{flat_map}
use Rattle.nest_syntax.specs.declared.names.Line.{Line}
use Rattle.nest_syntax.specs.declared.tree.Expr.{Expr, fold-Expr}
use Rattle.nest_syntax.specs.declared.tree.Expr.TheOpen.{Expr-F}
use Rattle.nest_syntax.specs.declared.tree.Loop.{Loop}
use Rattle.nest_syntax.specs.declared.tree.Arm.{Arm}
use Rattle.nest_syntax.specs.declared.tree.Stmt.{Stmt}
use Rattle.nest_syntax.specs.declared.tree.Stmt.TheOpen.{Stmt-F, Arm-F, Loop-F}
use Rattle.nest_syntax.specs.declared.tree.Stmt.TheFolds.{fold-Stmt, fold-Arm, fold-Loop}

-- one layer of the depth of an expression: a number or a name 1, any other one more than its deepest part
abbrev pub depth_node : Expr-F ℕ → ℕ
depth_node (Expr-F.Number n) = 1
depth_node (Expr-F.Scalar name) = 1
depth_node (Expr-F.Word array place) = suc place
depth_node (Expr-F.Unary op part) = suc part
depth_node (Expr-F.Binary op left right) = suc (max left right)
depth_node (Expr-F.Choice test first second) = suc (max test (max first second))

abbrev pub depth : Expr → ℕ
depth = fold-Expr ℕ depth_node

-- A loop with its step and its depth, or an expression. The line is that of the innermost statement, arm or loop.
pub data Part : Type 0 where
  ALoop : Line → ℕ → ℕ → Part
  AnExpression : Line → Expr → Part

-- the parts of a statement, from the depth at which its loops stand
abbrev pub Parts_at : Type 0
Parts_at = ℕ → List Part

abbrev pub all_at : List Parts_at → Parts_at
all_at parts at = flat_map (λ (p : Parts_at). p at) parts

abbrev pub parts_node : Stmt-F Parts_at Parts_at Parts_at → Parts_at
parts_node (Stmt-F.Declare line name value) at = AnExpression line value ∷ []
parts_node (Stmt-F.Assign line name op value) at = AnExpression line value ∷ []
parts_node (Stmt-F.Write line array place op value) at = AnExpression line place ∷ AnExpression line value ∷ []
parts_node (Stmt-F.If arms other) at = all_at arms at ++ all_at other at
parts_node (Stmt-F.Loop l) at = l at

abbrev pub arm_parts_node : Arm-F Parts_at Parts_at Parts_at → Parts_at
arm_parts_node arm at = AnExpression arm.line arm.test ∷ all_at arm.body at

abbrev pub loop_parts_node : Loop-F Parts_at Parts_at Parts_at → Parts_at
loop_parts_node l at = ALoop l.line l.step at ∷ AnExpression l.line l.low ∷ AnExpression l.line l.high ∷ all_at l.body (suc at)

abbrev pub parts : Stmt → Parts_at
parts = fold-Stmt Parts_at Parts_at Parts_at parts_node arm_parts_node loop_parts_node

abbrev pub parts_in_arm : Arm → Parts_at
parts_in_arm = fold-Arm Parts_at Parts_at Parts_at parts_node arm_parts_node loop_parts_node

abbrev pub parts_in_loop : Loop → Parts_at
parts_in_loop = fold-Loop Parts_at Parts_at Parts_at parts_node arm_parts_node loop_parts_node
