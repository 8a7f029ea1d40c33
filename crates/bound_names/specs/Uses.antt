-- The uses of names in a body, in the order of its text, each with what the body binds there: a scope as a list, the
-- innermost first. A declaration binds its name behind its value, a loop its variable in its high bound and its block.
use Rattle.std.specs.Prelude.{ℕ, ◌==◌, if◌then◌else◌, Option, Some, None, List, [], ◌∷◌, ◌++◌, map}
use Rattle.std.specs.Option.{option_map_or}
use Rattle.nest_syntax.specs.declared.names.Line.{Line}
use Rattle.nest_syntax.specs.declared.tree.Expr.{Expr, fold-Expr}
use Rattle.nest_syntax.specs.declared.tree.Expr.TheOpen.{Expr-F}
use Rattle.nest_syntax.specs.declared.tree.Arm.{Arm}
use Rattle.nest_syntax.specs.declared.tree.Loop.{Loop}
use Rattle.nest_syntax.specs.declared.tree.Stmt.{Stmt}
use Rattle.nest_syntax.specs.declared.tree.Stmt.TheOpen.{Stmt-F, Arm-F, Loop-F}
use Rattle.nest_syntax.specs.declared.tree.Stmt.TheFolds.{para-Stmt, para-Arm, para-Loop}
use Rattle.nest_syntax.specs.Shape.{Body}
use Rattle.nest_scope.specs.declared.occurrences.Action.{Action}
use Rattle.nest_scope.specs.declared.occurrences.Action.TheVariants as action

-- what binds a name in a body: the loop that invokes the body, a loop inside the body, or a declaration, told by its line
-- and its value
pub data Binder : Type 0 where
  Invocation : Loop → Binder
  Inside : Loop → Binder
  Declaration : Line → Expr → Binder

-- the names that are bound, the innermost first
abbrev pub Bindings : Type 0
Bindings = List (ℕ × Binder)

-- what binds a name, if anything in the body does
abbrev pub binder_of : Bindings → ℕ → Option Binder
binder_of [] name = None
binder_of (b ∷ bindings) name = if name == b.0 then Some b.1 else binder_of bindings name

-- a name where it stands: what is done with it, and what is bound there
pub record Use : Type 0 where
  pub name : ℕ
  pub action : Action
  pub bindings : Bindings

abbrev pub use_of : Bindings → Action → ℕ → Use
use_of bindings does name = record { name = name; action = does; bindings = bindings }

-- the names that an expression reads: one layer, and the whole
abbrev pub reads_node : Bindings → Expr-F (List Use) → List Use
reads_node bindings (Expr-F.Number n) = []
reads_node bindings (Expr-F.Scalar name) = use_of bindings action.ScalarRead name ∷ []
reads_node bindings (Expr-F.Word array place) = use_of bindings action.WordRead array ∷ place
reads_node bindings (Expr-F.Unary op part) = part
reads_node bindings (Expr-F.Binary op left right) = left ++ right
reads_node bindings (Expr-F.Choice test first second) = test ++ (first ++ second)

abbrev pub uses_in_expr : Bindings → Expr → List Use
uses_in_expr bindings = fold-Expr (List Use) (reads_node bindings)

-- what a statement gives: its uses, and the names that are bound behind it
pub record Used : Type 0 where
  pub uses : List Use
  pub behind : Bindings

abbrev pub Using : Type 0
Using = Bindings → Used

-- the uses of an arm or a block, and of a loop whose variable is bound by it in this way
abbrev pub Listing : Type 0
Listing = Bindings → List Use

abbrev pub ByBinder : Type 0
ByBinder = Binder → Listing

-- the statements of a block, each with what is bound behind the one before
abbrev pub in_turn : List Using → Listing
in_turn [] bindings = []
in_turn (s ∷ stmts) bindings = (s bindings).uses ++ in_turn stmts (s bindings).behind

-- arms, each with the same names bound
abbrev pub in_arms : List Listing → Listing
in_arms [] bindings = []
in_arms (arm ∷ arms) bindings = arm bindings ++ in_arms arms bindings

-- one layer of a statement, an arm and a loop
abbrev pub used_node : Stmt-F (Stmt × Using) (Arm × Listing) (Loop × ByBinder) → Using
used_node (Stmt-F.Declare line name value) bindings = record {
  uses = use_of bindings action.Declared name ∷ uses_in_expr bindings value;
  behind = (name, Declaration line value) ∷ bindings;
}
used_node (Stmt-F.Assign line name op value) bindings = record {
  uses = use_of bindings action.Assigned name ∷ uses_in_expr bindings value;
  behind = bindings;
}
used_node (Stmt-F.Write line array place op value) bindings = record {
  uses = use_of bindings action.WordWritten array ∷ (uses_in_expr bindings place ++ uses_in_expr bindings value);
  behind = bindings;
}
used_node (Stmt-F.If arms other) bindings = record {
  uses = in_arms (map (λ (a : Arm × Listing). a.1) arms) bindings ++ in_turn (map (λ (s : Stmt × Using). s.1) other) bindings;
  behind = bindings;
}
used_node (Stmt-F.Loop l) bindings = record { uses = l.1 (Inside l.0) bindings; behind = bindings }

abbrev pub used_arm_node : Arm-F (Stmt × Using) (Arm × Listing) (Loop × ByBinder) → Listing
used_arm_node arm bindings = uses_in_expr bindings arm.test ++ in_turn (map (λ (s : Stmt × Using). s.1) arm.body) bindings

abbrev pub used_loop_node : Loop-F (Stmt × Using) (Arm × Listing) (Loop × ByBinder) → ByBinder
used_loop_node l binder bindings = let within = (l.name, binder) ∷ bindings in
    use_of bindings action.Declared l.name ∷ (uses_in_expr bindings l.low ++ (uses_in_expr within l.high ++ in_turn (map (λ (s : Stmt × Using). s.1) l.body) within))

abbrev pub used_by : Stmt → Using
used_by = para-Stmt Using Listing ByBinder used_node used_arm_node used_loop_node

abbrev pub uses_in_arm : Arm → Listing
uses_in_arm = para-Arm Using Listing ByBinder used_node used_arm_node used_loop_node

abbrev pub uses_in_loop : Loop → ByBinder
uses_in_loop = para-Loop Using Listing ByBinder used_node used_arm_node used_loop_node

abbrev pub uses_in : List Stmt → Listing
uses_in stmts = in_turn (map used_by stmts)

-- what is bound where a body begins: the variable of the loop that invokes it, where one does
abbrev pub opening_bindings : Body → Bindings
opening_bindings body = option_map_or (λ (l : Loop). (l.name, Invocation l) ∷ []) body.header []
