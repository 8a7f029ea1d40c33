-- What it says of each part of a body that its names are bound in it: of a block its first statement, with what is bound
-- behind it, and of each kind of statement and expression its names and its parts.
use Rattle.std.proofs.Common.{ℕ, List, [], ◌∷◌, ◌++◌, map, sym, ap, ◌∙◌, subst}
use Rattle.nest_syntax.specs.declared.names.Line.{Line}
use Rattle.nest_syntax.specs.declared.operators.Bin.{Bin}
use Rattle.nest_syntax.specs.declared.operators.Un.{Un}
use Rattle.nest_syntax.specs.declared.operators.Op.{Op}
use Rattle.nest_syntax.specs.declared.tree.Expr.{Expr, Expr-F, fold-roll-Expr}
use Rattle.nest_syntax.specs.declared.tree.Expr.TheVariants as expr
use Rattle.nest_syntax.specs.declared.tree.Expr.TheVariants.{rolls-Scalar, rolls-Word, rolls-Unary, rolls-Binary, rolls-Choice}
use Rattle.nest_syntax.specs.declared.tree.Arm.{Arm}
use Rattle.nest_syntax.specs.declared.tree.Loop.{Loop}
use Rattle.nest_syntax.specs.declared.tree.Stmt.{Stmt}
use Rattle.nest_syntax.specs.declared.tree.Stmt.TheVariants as stmt
use Rattle.nest_syntax.specs.declared.tree.Program.{Program}
use Rattle.nest_syntax.specs.Among.{Each}
use Rattle.nest_syntax.specs.Shape.{Body}
use Rattle.nest_syntax.proofs.Inductions.{each_left, each_right}
use Rattle.nest_scope.specs.declared.occurrences.Action.TheVariants as action
use Rattle.bound_names.specs.Uses.{Inside, Bindings, binder_of, Use, reads_node, uses_in_expr, in_arms, used_by, uses_in_arm, uses_in}
use Rattle.bound_names.specs.Meant.{MeantAs, IsMeant, BoundIn, ExprBoundIn}
use Rattle.bound_names.proofs.Equations.{used-declare, used-assign, used-write, used-if, used-loop, uses_in_arm-is, uses_in_loop-is}

module _ (program : Program) (body : Body) (bindings : Bindings) where
  abbrev Meant : List Use → Type 0
  Meant = Each (IsMeant program body)

  -- one statement
  abbrev pub StmtBoundIn : Stmt → Type 0
  StmtBoundIn s = Meant (used_by s bindings).uses

  pub bound_first : (s : Stmt) (stmts : List Stmt) → BoundIn program body bindings (s ∷ stmts) → StmtBoundIn s × BoundIn program body (used_by s bindings).behind stmts
  bound_first s stmts all = (each_left (IsMeant program body) (used_by s bindings).uses (uses_in stmts (used_by s bindings).behind) all, each_right (IsMeant program body) (used_by s bindings).uses (uses_in stmts (used_by s bindings).behind) all)

  pub bound_declare : (line : Line) (name : ℕ) (e : Expr) → StmtBoundIn (stmt.Declare line name e) → MeantAs program body name (binder_of bindings name) action.Declared × ExprBoundIn program body bindings e
  bound_declare line name e all = subst Meant (ap (λ u. u.uses) (used-declare bindings line name e)) all

  pub bound_assign : (line : Line) (name : ℕ) (o : Op) (e : Expr) → StmtBoundIn (stmt.Assign line name o e) → MeantAs program body name (binder_of bindings name) action.Assigned × ExprBoundIn program body bindings e
  bound_assign line name o e all = subst Meant (ap (λ u. u.uses) (used-assign bindings line name o e)) all

  pub bound_write : (line : Line) (array : ℕ) (p : Expr) (o : Op) (e : Expr) → StmtBoundIn (stmt.Write line array p o e) → MeantAs program body array (binder_of bindings array) action.WordWritten × (ExprBoundIn program body bindings p × ExprBoundIn program body bindings e)
  bound_write line array p o e all =
      let parts = subst Meant (ap (λ u. u.uses) (used-write bindings line array p o e)) all in
      (parts.0, (each_left (IsMeant program body) (uses_in_expr bindings p) (uses_in_expr bindings e) parts.1, each_right (IsMeant program body) (uses_in_expr bindings p) (uses_in_expr bindings e) parts.1))

  -- an arm: its test and its block
  abbrev pub ArmBoundIn : Arm → Type 0
  ArmBoundIn a = ExprBoundIn program body bindings a.test × BoundIn program body bindings a.body

  arms_bound : (arms : List Arm) → Meant (in_arms (map uses_in_arm arms) bindings) → Each ArmBoundIn arms
  arms_bound [] all = tt
  arms_bound (a ∷ arms) all =
      let here = subst Meant (uses_in_arm-is bindings a) (each_left (IsMeant program body) (uses_in_arm a bindings) (in_arms (map uses_in_arm arms) bindings) all) in (
        (each_left (IsMeant program body) (uses_in_expr bindings a.test) (uses_in a.body bindings) here, each_right (IsMeant program body) (uses_in_expr bindings a.test) (uses_in a.body bindings) here),
        arms_bound arms (each_right (IsMeant program body) (uses_in_arm a bindings) (in_arms (map uses_in_arm arms) bindings) all),
      )

  pub bound_if : (arms : List Arm) (other : List Stmt) → StmtBoundIn (stmt.If arms other) → Each ArmBoundIn arms × BoundIn program body bindings other
  bound_if arms other all =
      let parts = subst Meant (ap (λ u. u.uses) (used-if bindings arms other)) all in
      (arms_bound arms (each_left (IsMeant program body) (in_arms (map uses_in_arm arms) bindings) (uses_in other bindings) parts), each_right (IsMeant program body) (in_arms (map uses_in_arm arms) bindings) (uses_in other bindings) parts)

  -- a loop inside the body: its variable is bound by nothing else there
  abbrev within : Loop → Bindings
  within l = (l.name, Inside l) ∷ bindings

  pub bound_loop : (l : Loop) → StmtBoundIn (stmt.Loop l)
      → MeantAs program body l.name (binder_of bindings l.name) action.Declared × (ExprBoundIn program body bindings l.low × (ExprBoundIn program body ((l.name, Inside l) ∷ bindings) l.high × BoundIn program body ((l.name, Inside l) ∷ bindings) l.body))
  bound_loop l all =
      let parts = subst Meant (ap (λ u. u.uses) (used-loop bindings l) ∙ uses_in_loop-is bindings l (Inside l)) all in
      let rest = each_right (IsMeant program body) (uses_in_expr bindings l.low) (uses_in_expr (within l) l.high ++ uses_in l.body (within l)) parts.1 in (
        parts.0,
        (
          each_left (IsMeant program body) (uses_in_expr bindings l.low) (uses_in_expr (within l) l.high ++ uses_in l.body (within l)) parts.1,
          (each_left (IsMeant program body) (uses_in_expr (within l) l.high) (uses_in l.body (within l)) rest, each_right (IsMeant program body) (uses_in_expr (within l) l.high) (uses_in l.body (within l)) rest),
        ),
      )

  -- an expression
  pub bound_scalar : (name : ℕ) → ExprBoundIn program body bindings (expr.Scalar name) → MeantAs program body name (binder_of bindings name) action.ScalarRead
  bound_scalar name all = (subst Meant (ap (uses_in_expr bindings) (sym (rolls-Scalar name)) ∙ fold-roll-Expr (List Use) (reads_node bindings) (Expr-F.Scalar name)) all).0

  pub bound_word : (array : ℕ) (p : Expr) → ExprBoundIn program body bindings (expr.Word array p) → MeantAs program body array (binder_of bindings array) action.WordRead × ExprBoundIn program body bindings p
  bound_word array p all = subst Meant (ap (uses_in_expr bindings) (sym (rolls-Word array p)) ∙ fold-roll-Expr (List Use) (reads_node bindings) (Expr-F.Word array p)) all

  pub bound_unary : (o : Un) (a : Expr) → ExprBoundIn program body bindings (expr.Unary o a) → ExprBoundIn program body bindings a
  bound_unary o a all = subst Meant (ap (uses_in_expr bindings) (sym (rolls-Unary o a)) ∙ fold-roll-Expr (List Use) (reads_node bindings) (Expr-F.Unary o a)) all

  pub bound_binary : (o : Bin) (a b : Expr) → ExprBoundIn program body bindings (expr.Binary o a b) → ExprBoundIn program body bindings a × ExprBoundIn program body bindings b
  bound_binary o a b all =
      let parts = subst Meant (ap (uses_in_expr bindings) (sym (rolls-Binary o a b)) ∙ fold-roll-Expr (List Use) (reads_node bindings) (Expr-F.Binary o a b)) all in
      (each_left (IsMeant program body) (uses_in_expr bindings a) (uses_in_expr bindings b) parts, each_right (IsMeant program body) (uses_in_expr bindings a) (uses_in_expr bindings b) parts)

  pub bound_choice : (t a b : Expr) → ExprBoundIn program body bindings (expr.Choice t a b) → ExprBoundIn program body bindings t × (ExprBoundIn program body bindings a × ExprBoundIn program body bindings b)
  bound_choice t a b all =
      let parts = subst Meant (ap (uses_in_expr bindings) (sym (rolls-Choice t a b)) ∙ fold-roll-Expr (List Use) (reads_node bindings) (Expr-F.Choice t a b)) all in
      let rest = each_right (IsMeant program body) (uses_in_expr bindings t) (uses_in_expr bindings a ++ uses_in_expr bindings b) parts in
      (each_left (IsMeant program body) (uses_in_expr bindings t) (uses_in_expr bindings a ++ uses_in_expr bindings b) parts, (each_left (IsMeant program body) (uses_in_expr bindings a) (uses_in_expr bindings b) rest, each_right (IsMeant program body) (uses_in_expr bindings a) (uses_in_expr bindings b) rest))
