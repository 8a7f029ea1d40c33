-- The names that a body uses as scalars: those that it reads without a subscript, and those that it assigns.
use Rattle.std.specs.Prelude.{ℕ, List, [], ◌∷◌, ◌++◌, map}
use Rattle.std.specs.List.{concat}
use Rattle.nest_syntax.specs.declared.tree.Expr.{Expr, fold-Expr}
use Rattle.nest_syntax.specs.declared.tree.Expr.TheOpen.{Expr-F}
use Rattle.nest_syntax.specs.declared.tree.Arm.{Arm}
use Rattle.nest_syntax.specs.declared.tree.Loop.{Loop}
use Rattle.nest_syntax.specs.declared.tree.Stmt.{Stmt}
use Rattle.nest_syntax.specs.declared.tree.Stmt.TheOpen.{Stmt-F, Arm-F, Loop-F}
use Rattle.nest_syntax.specs.declared.tree.Stmt.TheFolds.{fold-Stmt, fold-Arm, fold-Loop}

-- the scalars that an expression reads: one layer, with the names of its parts in their places
abbrev pub reads_node : Expr-F (List ℕ) → List ℕ
reads_node (Expr-F.Scalar name) = name ∷ []
reads_node (Expr-F.Word array place) = place
reads_node (Expr-F.Unary op part) = part
reads_node (Expr-F.Binary op left right) = left ++ right
reads_node (Expr-F.Choice test first second) = test ++ (first ++ second)
reads_node other = []

abbrev pub scalars_read : Expr → List ℕ
scalars_read = fold-Expr (List ℕ) reads_node

-- one layer of a statement, an arm and a loop
abbrev pub uses_node : Stmt-F (List ℕ) (List ℕ) (List ℕ) → List ℕ
uses_node (Stmt-F.Declare line name value) = scalars_read value
uses_node (Stmt-F.Assign line name op value) = name ∷ scalars_read value
uses_node (Stmt-F.Write line array place op value) = scalars_read place ++ scalars_read value
uses_node (Stmt-F.If arms other) = concat arms ++ concat other
uses_node (Stmt-F.Loop inner) = inner

abbrev pub uses_arm_node : Arm-F (List ℕ) (List ℕ) (List ℕ) → List ℕ
uses_arm_node arm = scalars_read arm.test ++ concat arm.body

abbrev pub uses_loop_node : Loop-F (List ℕ) (List ℕ) (List ℕ) → List ℕ
uses_loop_node l = scalars_read l.low ++ (scalars_read l.high ++ concat l.body)

abbrev pub uses : Stmt → List ℕ
uses = fold-Stmt (List ℕ) (List ℕ) (List ℕ) uses_node uses_arm_node uses_loop_node

abbrev pub uses_in_arm : Arm → List ℕ
uses_in_arm = fold-Arm (List ℕ) (List ℕ) (List ℕ) uses_node uses_arm_node uses_loop_node

abbrev pub uses_in_loop : Loop → List ℕ
uses_in_loop = fold-Loop (List ℕ) (List ℕ) (List ℕ) uses_node uses_arm_node uses_loop_node

-- the names that a body uses as scalars, in the order of its text
abbrev pub names_used : List Stmt → List ℕ
names_used body = concat (map uses body)
