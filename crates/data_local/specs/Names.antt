-- The names that an expression names as scalars, without a subscript.
use Rattle.std.specs.Prelude.{ℕ, List, [], ◌∷◌, ◌++◌}
use Rattle.nest_syntax.specs.declared.tree.Expr.{Expr}
use Rattle.nest_syntax.specs.declared.tree.Expr.TheOpen.{Expr-F}
use Rattle.nest_syntax.specs.declared.tree.Expr.TheFolds.{fold-Expr}

-- one layer of an expression, with the names of its parts in their places
abbrev pub scalars_node : Expr-F (List ℕ) → List ℕ
scalars_node (Expr-F.Number n) = []
scalars_node (Expr-F.Scalar name) = name ∷ []
scalars_node (Expr-F.Word name place) = place
scalars_node (Expr-F.Unary operation part) = part
scalars_node (Expr-F.Binary operation left right) = left ++ right
scalars_node (Expr-F.Choice test first second) = test ++ (first ++ second)

-- the names without a subscript, in the order of the text, as often as they stand there
abbrev pub scalars_in : Expr → List ℕ
scalars_in = fold-Expr (List ℕ) scalars_node
