-- The givings of a body: its declarations and assignments of scalars, at any depth. A giving depends on its value, and on
-- the tests around it: for each `if`, the test of its arm and of the earlier arms, and in the last `else` block the tests
-- of all arms. A loop's header gives nothing.
use Rattle.std.specs.Prelude.{ℕ, List, [], ◌∷◌, ◌++◌, map}
use Rattle.nest_syntax.specs.declared.tree.Expr.{Expr}
use Rattle.nest_syntax.specs.declared.tree.Arm.{Arm}
use Rattle.nest_syntax.specs.declared.tree.Loop.{Loop}
use Rattle.nest_syntax.specs.declared.tree.Stmt.{Stmt}
use Rattle.nest_syntax.specs.declared.tree.Stmt.TheOpen.{Stmt-F, Arm-F, Loop-F}
use Rattle.nest_syntax.specs.declared.tree.Stmt.TheFolds.{fold-Stmt, fold-Arm, fold-Loop}

-- a scalar that is given a value, and the expressions that decide on it
pub record Giving : Type 0 where
  pub name : ℕ
  pub depends : List Expr

-- the givings of a part of a body, from the tests around it
abbrev pub Given : Type 0
Given = List Expr → List Giving

-- one part after the other
abbrev pub in_turn : List Given → Given
in_turn [] tests = []
in_turn (first ∷ others) tests = first tests ++ in_turn others tests

-- an arm: its test, and the givings of its block
abbrev pub Tried : Type 0
Tried = Expr × Given

-- the arms of an `if` and its last block: each arm stands under its own test and the earlier ones
abbrev pub by_arms : List Tried → Given → Given
by_arms [] other tests = other tests
by_arms (arm ∷ arms) other tests = arm.1 (arm.0 ∷ tests) ++ by_arms arms other (arm.0 ∷ tests)

-- one layer of a statement, an arm and a loop
abbrev pub given_node : Stmt-F Given Tried Given → Given
given_node (Stmt-F.Declare line name value) tests = record { name = name; depends = value ∷ tests } ∷ []
given_node (Stmt-F.Assign line name op value) tests = record { name = name; depends = value ∷ tests } ∷ []
given_node (Stmt-F.Write line array place op value) tests = []
given_node (Stmt-F.If arms other) tests = by_arms arms (in_turn other) tests
given_node (Stmt-F.Loop inner) tests = inner tests

abbrev pub tried_node : Arm-F Given Tried Given → Tried
tried_node arm = (arm.test, in_turn arm.body)

abbrev pub given_loop_node : Loop-F Given Tried Given → Given
given_loop_node l tests = in_turn l.body tests

abbrev pub given : Stmt → Given
given = fold-Stmt Given Tried Given given_node tried_node given_loop_node

abbrev pub tried : Arm → Tried
tried = fold-Arm Given Tried Given given_node tried_node given_loop_node

abbrev pub given_by_loop : Loop → Given
given_by_loop = fold-Loop Given Tried Given given_node tried_node given_loop_node

-- the givings of statements that follow one another
abbrev pub given_by : List Stmt → Given
given_by stmts = in_turn (map given stmts)

-- the givings of a body
abbrev pub givings : List Stmt → List Giving
givings body = given_by body []
