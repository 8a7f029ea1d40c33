-- The locals of a body: the names that it declares, and those of the loops in it. The variable of the invocation isn't
-- one of them. An iteration begins with 0 for each local, whatever a scalar of the scheduler with the same name has.
use Rattle.std.specs.Prelude.{ℕ, ℤ, pos, Bool, false, if◌then◌else◌, List, [], ◌∷◌, ◌++◌, map}
use Rattle.std.specs.List.{concat}
use Rattle.nest_syntax.specs.declared.tree.Arm.{Arm}
use Rattle.nest_syntax.specs.declared.tree.Loop.{Loop}
use Rattle.nest_syntax.specs.declared.tree.Stmt.{Stmt}
use Rattle.nest_syntax.specs.declared.tree.Stmt.TheOpen.{Stmt-F, Arm-F, Loop-F}
use Rattle.nest_syntax.specs.declared.tree.Stmt.TheFolds.{fold-Stmt, fold-Arm, fold-Loop}
use Rattle.nest_syntax.specs.Value.{with_scalar}

-- The names that a statement, an arm and a loop declare, with those of their loops' variables, in the order of the text
-- and as often as they stand there. With `assigned` those that they assign are among them. One layer, with the names of
-- the parts in their places:
abbrev pub given_node : Bool → Stmt-F (List ℕ) (List ℕ) (List ℕ) → List ℕ
given_node assigned (Stmt-F.Declare line name value) = name ∷ []
given_node assigned (Stmt-F.Assign line name op value) = if assigned then name ∷ [] else []
given_node assigned (Stmt-F.If arms other) = concat arms ++ concat other
given_node assigned (Stmt-F.Loop inner) = inner
given_node assigned other = []

abbrev pub given_arm_node : Arm-F (List ℕ) (List ℕ) (List ℕ) → List ℕ
given_arm_node arm = concat arm.body

abbrev pub given_loop_node : Loop-F (List ℕ) (List ℕ) (List ℕ) → List ℕ
given_loop_node l = l.name ∷ concat l.body

abbrev pub given : Bool → Stmt → List ℕ
given assigned = fold-Stmt (List ℕ) (List ℕ) (List ℕ) (given_node assigned) given_arm_node given_loop_node

abbrev pub given_in_arm : Bool → Arm → List ℕ
given_in_arm assigned = fold-Arm (List ℕ) (List ℕ) (List ℕ) (given_node assigned) given_arm_node given_loop_node

abbrev pub given_in_loop : Bool → Loop → List ℕ
given_in_loop assigned = fold-Loop (List ℕ) (List ℕ) (List ℕ) (given_node assigned) given_arm_node given_loop_node

-- the same of a block
abbrev pub names_given : Bool → List Stmt → List ℕ
names_given assigned stmts = concat (map (given assigned) stmts)

-- the locals of a body
abbrev pub locals_of : List Stmt → List ℕ
locals_of body = names_given false body

-- the scalars with 0 for these names
abbrev pub with_zeros : List ℕ → List ℤ → List ℤ
with_zeros [] scalars = scalars
with_zeros (name ∷ names) scalars = with_zeros names (with_scalar scalars name (pos 0))
