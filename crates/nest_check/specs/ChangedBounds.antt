-- The rule on high bounds, as the lines that break it: none may change while its loop runs.
use Rattle.std.specs.Prelude.{ℕ, Bool, false, ◌||◌, List, [], ◌∷◌, ◌++◌, map}
use Rattle.std.specs.List.{list_any}
use Rattle.nest_syntax.specs.declared.names.Line.{Line}
use Rattle.nest_syntax.specs.declared.tree.Expr.{Expr}
use Rattle.nest_syntax.specs.declared.tree.Expr.TheOpen.{Expr-F}
use Rattle.nest_syntax.specs.declared.tree.Expr.TheFolds.{fold-Expr}
use Rattle.nest_syntax.specs.declared.tree.Arm.{Arm}
use Rattle.nest_syntax.specs.declared.tree.Loop.{Loop}
use Rattle.nest_syntax.specs.declared.tree.Stmt.{Stmt}
use Rattle.nest_syntax.specs.declared.tree.Stmt.TheOpen.{Stmt-F, Arm-F, Loop-F}
use Rattle.nest_syntax.specs.declared.tree.Stmt.TheFolds.{fold-Stmt, fold-Arm, fold-Loop}
use Rattle.nest_syntax.specs.declared.tree.Program.{Program}
use Rattle.nest_syntax.specs.Lowest.{lines_where}
use Rattle.nest_syntax.specs.Among.{is_among}
use Rattle.data_local.specs.Names.{scalars_in}
use Rattle.data_local.specs.Loops.{line_of, loops_of}

-- one layer of an expression, with the arrays of its parts in their places
abbrev pub arrays_node : Expr-F (List ℕ) → List ℕ
arrays_node (Expr-F.Number n) = []
arrays_node (Expr-F.Scalar name) = []
arrays_node (Expr-F.Word name place) = name ∷ place
arrays_node (Expr-F.Unary operation part) = part
arrays_node (Expr-F.Binary operation left right) = left ++ right
arrays_node (Expr-F.Choice test first second) = test ++ (first ++ second)

-- the names with a subscript
abbrev pub arrays_in : Expr → List ℕ
arrays_in = fold-Expr (List ℕ) arrays_node

-- one layer of a statement, an arm and a loop
abbrev pub changes_node : List ℕ → List ℕ → Stmt-F Bool Bool Bool → Bool
changes_node scalars arrays (Stmt-F.Declare line name value) = false
changes_node scalars arrays (Stmt-F.Assign line name op value) = is_among scalars name
changes_node scalars arrays (Stmt-F.Write line array place op value) = is_among arrays array
changes_node scalars arrays (Stmt-F.If arms other) = list_any (λ a. a) arms || list_any (λ s. s) other
changes_node scalars arrays (Stmt-F.Loop inner) = inner

abbrev pub changes_arm_node : Arm-F Bool Bool Bool → Bool
changes_arm_node arm = list_any (λ s. s) arm.body

abbrev pub changes_loop_node : Loop-F Bool Bool Bool → Bool
changes_loop_node l = list_any (λ s. s) l.body

-- whether a statement assigns, at any depth, one of these scalars, or a word of one of these arrays
abbrev pub changes : List ℕ → List ℕ → Stmt → Bool
changes scalars arrays = fold-Stmt Bool Bool Bool (changes_node scalars arrays) changes_arm_node changes_loop_node

abbrev pub changes_in_arm : List ℕ → List ℕ → Arm → Bool
changes_in_arm scalars arrays = fold-Arm Bool Bool Bool (changes_node scalars arrays) changes_arm_node changes_loop_node

abbrev pub changes_in_loop : List ℕ → List ℕ → Loop → Bool
changes_in_loop scalars arrays = fold-Loop Bool Bool Bool (changes_node scalars arrays) changes_arm_node changes_loop_node

abbrev pub changes_one_in_arms : List ℕ → List ℕ → List Arm → Bool
changes_one_in_arms scalars arrays arms = list_any (λ a. a) (map (changes_in_arm scalars arrays) arms)

abbrev pub changes_one : List ℕ → List ℕ → List Stmt → Bool
changes_one scalars arrays stmts = list_any (λ s. s) (map (changes scalars arrays) stmts)

-- whether the high bound of a loop names its own variable, or a scalar or an array that the loop assigns
abbrev pub changes_its_bound : Loop → Bool
changes_its_bound l = is_among (scalars_in l.high) l.name || changes_one (scalars_in l.high) (arrays_in l.high) l.body

-- the lines of the loops that change their high bound, which breaks the rule
abbrev pub lines_of_changed_bounds : Program → List Line
lines_of_changed_bounds program = lines_where line_of changes_its_bound (loops_of program)
