-- Programs whose name numbers are numbers of names.
use Rattle.std.specs.Prelude.{◌≢◌, ℕ, ◌<◌, ◌^◌, Bool, true, ◌&&◌, nat_lt, IsTrue, List, length}
use Rattle.std.specs.List.{list_all, AllPairs}
use Rattle.nest_syntax.specs.declared.tree.Expr.{Expr, fold-Expr}
use Rattle.nest_syntax.specs.declared.tree.Expr.TheOpen.{Expr-F}
use Rattle.nest_syntax.specs.declared.tree.Stmt.TheFolds.{fold-Loop}
use Rattle.nest_syntax.specs.declared.tree.Stmt.TheOpen.{Stmt-F, Arm-F, Loop-F}
use Rattle.nest_syntax.specs.declared.tree.Loop.{Loop}
use Rattle.nest_syntax.specs.declared.tree.Decl.{Decl}
use Rattle.nest_syntax.specs.declared.tree.Decl.TheVariants as decl
use Rattle.nest_syntax.specs.declared.tree.Program.{Program}

-- The names of a list are fewer than 2^32, and no two are alike.
pub record AreNames (names : List (List ℕ)) : Type 0 where
  pub few : length names < 2 ^ 32
  pub differ : AllPairs (λ a b. a ≢ b) names

-- Each name number in an expression is below `count`: at one layer, where the parts have their answers.
abbrev pub node_named : ℕ → Expr-F Bool → Bool
node_named count (Expr-F.Number n) = true
node_named count (Expr-F.Scalar name) = nat_lt name count
node_named count (Expr-F.Word array place) = nat_lt array count && place
node_named count (Expr-F.Unary op part) = part
node_named count (Expr-F.Binary op left right) = left && right
node_named count (Expr-F.Choice test first second) = test && (first && second)

-- Each name number in an expression is below `count`.
abbrev pub expr_named : ℕ → Expr → Bool
expr_named count = fold-Expr Bool (node_named count)

-- The same of a statement, an arm and a loop.
abbrev pub stmt_named : ℕ → Stmt-F Bool Bool Bool → Bool
stmt_named count (Stmt-F.Declare line name value) = nat_lt name count && expr_named count value
stmt_named count (Stmt-F.Assign line name op value) = nat_lt name count && expr_named count value
stmt_named count (Stmt-F.Write line array place op value) = nat_lt array count && (expr_named count place && expr_named count value)
stmt_named count (Stmt-F.If arms other) = list_all (λ arm. arm) arms && list_all (λ stmt. stmt) other
stmt_named count (Stmt-F.Loop inner) = inner

abbrev pub arm_named : ℕ → Arm-F Bool Bool Bool → Bool
arm_named count arm = expr_named count arm.test && list_all (λ stmt. stmt) arm.body

abbrev pub header_named : ℕ → Loop-F Bool Bool Bool → Bool
header_named count head =
    nat_lt head.name count && (expr_named count head.low && (expr_named count head.high && list_all (λ stmt. stmt) head.body))

abbrev pub loop_named : ℕ → Loop → Bool
loop_named count = fold-Loop Bool Bool Bool (stmt_named count) (arm_named count) (header_named count)

abbrev pub decl_named : ℕ → Decl → Bool
decl_named count (decl.Array line name length fixed) = nat_lt name count
decl_named count (decl.Scalar line name value) = nat_lt name count

-- A program is well named: its names are fewer than 2^32 and differ, and each name number in it is below their count.
pub record IsWellNamed (program : Program) : Type 0 where
  pub names : AreNames program.names
  pub decls : IsTrue (list_all (decl_named (length program.names)) program.decls)
  pub regions : IsTrue (list_all (loop_named (length program.names)) program.regions)
