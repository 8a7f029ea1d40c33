-- The bodies of a program, each with the level and the scope in which it stands: for a body that a loop invokes, the
-- loop's variable is bound there. The names that the body uses are bound as its occurrences from there say.
use Rattle.std.specs.Prelude.{◌≡◌, Bool, true, false, List, [], ◌∷◌, ◌++◌, map, length}
use Rattle.std.specs.List.{flat_map}
use Rattle.nest_syntax.specs.declared.tree.Arm.{Arm}
use Rattle.nest_syntax.specs.declared.tree.Loop.{Loop}
use Rattle.nest_syntax.specs.declared.tree.Stmt.{Stmt}
use Rattle.nest_syntax.specs.declared.tree.Stmt.TheVariants as stmt
use Rattle.nest_syntax.specs.declared.tree.Stmt.TheOpen.{Stmt-F, Arm-F, Loop-F}
use Rattle.nest_syntax.specs.declared.tree.Stmt.TheFolds.{para-Stmt, para-Arm}
use Rattle.nest_syntax.specs.declared.tree.Program.{Program}
use Rattle.nest_syntax.specs.Among.{Each}
use Rattle.nest_syntax.specs.Shape.{Body, body_of_loop, body_of_write, invoked_by}
use Rattle.nest_scope.specs.declared.occurrences.Binding.{Binding}
use Rattle.nest_scope.specs.declared.occurrences.Binding.TheVariants as binding
use Rattle.nest_scope.specs.declared.occurrences.Level.{Level}
use Rattle.nest_scope.specs.declared.occurrences.Level.TheVariants as level
use Rattle.nest_scope.specs.declared.occurrences.Occurrence.{Occurrence}
use Rattle.nest_scope.specs.Occurrences.{Scope, with_bound, variable_at, in_stmt, in_block, behind_decls, unbound}
use Rattle.nest_scope.specs.Rules.{redeclares, uses_unknown, writes_const, assigns_loop_variable, assigns_scheduler_scalar, lines_redeclared, lines_unknown, lines_const_written, lines_loop_variable_assigned, lines_scheduler_scalar_assigned}

-- a body as it is entered
pub record Entered : Type 0 where
  pub body : Body
  pub level : Level
  pub scope : Scope

-- what a part of a region enters, from the scope before it
abbrev pub Entering : Type 0
Entering = Scope → List Entered

-- items, each in the scope behind the one before
abbrev pub entered_in_turn : List (Stmt × Entering) → Entering
entered_in_turn [] scope = []
entered_in_turn (s ∷ stmts) scope = s.1 scope ++ entered_in_turn stmts (in_stmt s.0 level.Items scope).behind

-- arms, each in the same scope
abbrev pub entered_by_arms : List (Arm × Entering) → Entering
entered_by_arms [] scope = []
entered_by_arms (arm ∷ arms) scope = arm.1 scope ++ entered_by_arms arms scope

-- one layer of an item, an arm and a loop
abbrev pub entered_node : Stmt-F (Stmt × Entering) (Arm × Entering) (Loop × Entering) → Entering
entered_node (Stmt-F.Declare line name value) scope = []
entered_node (Stmt-F.Assign line name op value) scope = []
entered_node (Stmt-F.Write line array place op value) scope = record { body = body_of_write line (stmt.Write line array place op value); level = level.Items; scope = scope } ∷ []
entered_node (Stmt-F.If arms other) scope = entered_by_arms arms scope ++ entered_in_turn other scope
entered_node (Stmt-F.Loop l) scope = record { body = body_of_loop l.0; level = level.Body; scope = with_bound scope l.0.name (variable_at level.Items) } ∷ []

abbrev pub entered_arm_node : Arm-F (Stmt × Entering) (Arm × Entering) (Loop × Entering) → Entering
entered_arm_node arm scope = entered_in_turn arm.body scope

abbrev pub entered_loop_node : Loop-F (Stmt × Entering) (Arm × Entering) (Loop × Entering) → Entering
entered_loop_node l scope = entered_in_turn l.body scope

-- the bodies that an item enters, and those of an arm and a block
abbrev pub entered_by : Stmt → Entering
entered_by = para-Stmt Entering Entering Entering entered_node entered_arm_node entered_loop_node

abbrev pub entered_by_arm : Arm → Entering
entered_by_arm = para-Arm Entering Entering Entering entered_node entered_arm_node entered_loop_node

abbrev pub entered_in : List Stmt → Entering
entered_in stmts = entered_in_turn (map (λ s. (s, entered_by s)) stmts)

abbrev pub entered_in_region : Scope → Loop → List Entered
entered_in_region scope region = entered_in region.body (with_bound scope region.name (variable_at level.Outside))

-- the scope behind the declarations of a program
abbrev pub declared_scope : Program → Scope
declared_scope program = behind_decls program.decls (unbound (length program.names))

-- the bodies of a program in textual order
abbrev pub entered_of : Program → List Entered
entered_of program = flat_map (entered_in_region (declared_scope program)) program.regions

-- whether a name is bound to a scalar of the scheduler
abbrev pub is_schedulers : Binding → Bool
is_schedulers binding.SchedulerScalar = true
is_schedulers binding.RegionVariable = true
is_schedulers to = false

-- A name is bound to what it is used as: a use is of a scalar or an array in scope, a write is of an array that isn't
-- `const`, an assignment is of no loop's variable and, in a body, of no scheduler scalar, and a declaration is of a name
-- that is free.
pub record IsBound (o : Occurrence) : Type 0 where
  pub declared_once : redeclares o ≡ false
  pub known : uses_unknown o ≡ false
  pub constant : writes_const o ≡ false
  pub variables : assigns_loop_variable o ≡ false
  pub scheduled : assigns_scheduler_scalar o ≡ false

-- that each name in a body is
abbrev pub HasBoundNames : Entered → Type 0
HasBoundNames entered = Each IsBound (in_block entered.body.stmts entered.level entered.scope)

-- A law: the bodies that are entered are those of the shape, and in a program that keeps the rules on names each name in
-- each of them is bound to what it is used as.
abbrev pub BodiesAreEntered : Type 0
BodiesAreEntered = (program : Program) → map (λ (e : Entered). e.body) (entered_of program) ≡ invoked_by program

abbrev pub BodiesHaveBoundNames : Type 0
BodiesHaveBoundNames = (program : Program) → lines_redeclared program ≡ [] → lines_unknown program ≡ [] → lines_const_written program ≡ [] → lines_loop_variable_assigned program ≡ [] → lines_scheduler_scalar_assigned program ≡ []
    → Each HasBoundNames (entered_of program)
