-- What the scheduler does in a program, in textual order: the scalars that it sets, and the bodies that it runs.
use Rattle.std.specs.Prelude.{◌≡◌, ℕ, suc, ◌<◌, Bool, true, Option, Some, None, List, [], ◌∷◌, ◌++◌, slice_get}
use Rattle.std.specs.List.{flat_map}
use Rattle.nest_syntax.specs.declared.tree.Arm.{Arm}
use Rattle.nest_syntax.specs.declared.tree.Loop.{Loop}
use Rattle.nest_syntax.specs.declared.tree.Stmt.{Stmt}
use Rattle.nest_syntax.specs.declared.tree.Stmt.TheOpen.{Stmt-F, Arm-F, Loop-F}
use Rattle.nest_syntax.specs.declared.tree.Stmt.TheFolds.{fold-Stmt, fold-Arm}
use Rattle.sched_cursor.specs.declared.node.Node.{Node}
use Rattle.sched_cursor.specs.declared.node.Node.TheVariants as node

-- a scalar is set, by its name, or a body is run, whose invocation has this variable and this step, none where it is an
-- array statement
pub data Doing : Type 0 where
  Sets : ℕ → Doing
  Runs : Option (ℕ × ℕ) → Doing

abbrev pub doings_node : Stmt-F (List Doing) (List Doing) (List Doing) → List Doing
doings_node (Stmt-F.Declare line name value) = Sets name ∷ []
doings_node (Stmt-F.Assign line name op value) = Sets name ∷ []
doings_node (Stmt-F.Write line array place op value) = Runs None ∷ []
doings_node (Stmt-F.If arms other) = flat_map (λ (ds : List Doing). ds) arms ++ flat_map (λ (ds : List Doing). ds) other
doings_node (Stmt-F.Loop l) = l

abbrev pub arm_doings_node : Arm-F (List Doing) (List Doing) (List Doing) → List Doing
arm_doings_node arm = flat_map (λ (ds : List Doing). ds) arm.body

abbrev pub loop_doings_node : Loop-F (List Doing) (List Doing) (List Doing) → List Doing
loop_doings_node l = Runs (Some (l.name, l.step)) ∷ []

-- what is done at an item and at all that it holds
abbrev pub doings : Stmt → List Doing
doings = fold-Stmt (List Doing) (List Doing) (List Doing) doings_node arm_doings_node loop_doings_node

abbrev pub doings_in_arm : Arm → List Doing
doings_in_arm = fold-Arm (List Doing) (List Doing) (List Doing) doings_node arm_doings_node loop_doings_node

abbrev pub doings_of : List Stmt → List Doing
doings_of stmts = flat_map doings stmts

abbrev pub doings_in_region : Loop → List Doing
doings_in_region l = Sets l.name ∷ doings_of l.body

-- how many bodies are run
abbrev pub runs : List Doing → ℕ
runs [] = 0
runs (Sets name ∷ ds) = runs ds
runs (Runs variable ∷ ds) = suc (runs ds)

-- What is known of the names and the bodies of a program: how many names there are, which are those of scheduler scalars,
-- how many bodies there are, and the variable and the step of each one's invocation.
pub record Naming : Type 0 where
  pub names : ℕ
  pub scheduled : ℕ → Bool
  pub bodies : ℕ
  pub variable : ℕ → Option (ℕ × ℕ)

-- what is done agrees with it, where `first` is the number of the first body: each name that is set is that of a scheduler
-- scalar, and each body has its variable and its step
abbrev pub AreTold : Naming → ℕ → List Doing → Type 0
AreTold naming first [] = Unit {0}
AreTold naming first (Sets name ∷ ds) = (naming.scheduled name ≡ true) × AreTold naming first ds
AreTold naming first (Runs variable ∷ ds) = ((naming.variable first ≡ variable) × (first < naming.bodies)) × AreTold naming (suc first) ds

-- and so does a script
abbrev pub NodeTells : Naming → Node → Type 0
NodeTells naming (node.Region header items leave) = naming.scheduled header.name ≡ true
NodeTells naming (node.Change line name op value next) = naming.scheduled name ≡ true
NodeTells naming (node.Test line test taken otherwise) = Unit {0}
NodeTells naming (node.Invoke header body next) = (naming.variable body ≡ Some (header.name, header.step)) × (body < naming.bodies)
NodeTells naming (node.Write line body next) = (naming.variable body ≡ None) × (body < naming.bodies)

abbrev pub NodesTell : Naming → List Node → Type 0
NodesTell naming nodes = (n : ℕ) (this : Node) → slice_get nodes n ≡ Some this → NodeTells naming this
