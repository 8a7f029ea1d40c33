-- No caller of `data_locals_by_body` needs this. How the givings of a body are kept: as rows, each a giving or a test,
-- in the order of the text. A row tells under which test it stands, by the test's number; what that test stands under
-- isn't repeated. The definitions here take the newest row first.
use Rattle.std.specs.Prelude.{◌≡◌, ℕ, suc, ◌+◌, ◌*◌, ◌≤◌, ◌==◌, if◌then◌else◌, List, [], ◌∷◌, ◌++◌, map, length, reverse}
use Rattle.nest_syntax.specs.declared.tree.Expr.{Expr}
use Rattle.nest_syntax.specs.Arrays.{Array}
use Rattle.nest_syntax.specs.Value.{names_written}
use Rattle.data_local.specs.declared.reach.Edge.{Edge}
use Rattle.data_local.specs.declared.rows.Row.{Row}
use Rattle.data_local.specs.declared.rows.Row.TheVariants as row
use Rattle.nest_syntax.specs.Among.{is_among}
use Rattle.data_local.specs.Names.{scalars_in}
use Rattle.data_local.specs.Givings.{Giving, Given, Tried, by_arms}

-- the test with this number and those that it stands under; 0 is the number of none
abbrev pub tests_at : List Row → ℕ → List Expr
tests_at [] k = []
tests_at (row.Test number test under ∷ older) k = if k == number then test.now ∷ tests_at older under else tests_at older k
tests_at (row.Gives name value under ∷ older) k = tests_at older k

-- the givings that rows tell
abbrev pub told : List Row → List Giving
told [] = []
told (row.Test number test under ∷ older) = told older
told (row.Gives name value under ∷ older) = told older ++ record { name = name; depends = value.now ∷ tests_at older under } ∷ []

-- that each test has the number of its row, from 1, and each row stands under an earlier test
abbrev pub IsBuilt : List Row → Type 0
IsBuilt [] = Unit {0}
IsBuilt (row.Test number test under ∷ older) = (number ≡ suc (length older)) × (under ≤ length older) × IsBuilt older
IsBuilt (row.Gives name value under ∷ older) = (under ≤ length older) × IsBuilt older

-- What a walk adds to the rows under a test: these givings. The tests so far are what they were.
pub record Adds (old new : List Row) (under : ℕ) (gives : Given) : Type 0 where
  pub tells : told (reverse new) ≡ told (reverse old) ++ gives (tests_at (reverse old) under)
  pub stable : (k : ℕ) → k ≤ length old → tests_at (reverse new) k ≡ tests_at (reverse old) k
  pub longer : length old ≤ length new
  pub built : IsBuilt (reverse old) → IsBuilt (reverse new)

-- What a walk over arms adds: their givings. What is given behind them stands under the last test.
pub record AddsArms (old new : List Row) (under last : ℕ) (arms : List Tried) : Type 0 where
  pub tells : (other : Given) → told (reverse new) ++ other (tests_at (reverse new) last) ≡ told (reverse old) ++ by_arms arms other (tests_at (reverse old) under)
  pub stable : (k : ℕ) → k ≤ length old → tests_at (reverse new) k ≡ tests_at (reverse old) k
  pub longer : length old ≤ length new
  pub within : last ≤ length new
  pub built : IsBuilt (reverse old) → IsBuilt (reverse new)

-- the nodes of the graph: even numbers for names, odd ones for tests
abbrev pub node_of_name : ℕ → ℕ
node_of_name name = 2 * name

abbrev pub node_of_test : ℕ → ℕ
node_of_test number = 2 * number + 1

-- the edges to a node from the names in an expression
abbrev pub edges_from : ℕ → List ℕ → List Edge
edges_from to names = map (λ name. record { from = node_of_name name; to = to }) names

abbrev pub edges_to : ℕ → Expr → ℕ → List Edge
edges_to to e under = edges_from to (scalars_in e) ++ record { from = node_of_test under; to = to } ∷ []

-- the edges to the node of a row, from the names in its expression and from the test that it stands under
abbrev pub row_edges : Row → List Edge
row_edges (row.Test number test under) = edges_to (node_of_test number) test.now under
row_edges (row.Gives name value under) = edges_to (node_of_name name) value.now under

abbrev pub start_of : List Array → ℕ → Expr → List ℕ
start_of arrays to e = if names_written arrays e then to ∷ [] else []

-- the node of a row whose expression names a written array
abbrev pub row_starts : List Array → Row → List ℕ
row_starts arrays (row.Test number test under) = start_of arrays (node_of_test number) test.now
row_starts arrays (row.Gives name value under) = start_of arrays (node_of_name name) value.now

-- the name that a row gives, where its node is among these
abbrev pub row_names : List ℕ → Row → List ℕ
row_names nodes (row.Test number test under) = []
row_names nodes (row.Gives name value under) = if is_among nodes (node_of_name name) then name ∷ [] else []
