-- The walk at each kind of node, as equations, and what the names in an expression are at each.
use Rattle.std.proofs.Common.{◌≡◌, ℕ, ℤ, List, [], ◌∷◌, ◌++◌, map, sym, ap, ◌∙◌}
use Rattle.nest_syntax.specs.declared.names.Line.{Line}
use Rattle.nest_syntax.specs.declared.operators.Bin.{Bin}
use Rattle.nest_syntax.specs.declared.operators.Un.{Un}
use Rattle.nest_syntax.specs.declared.operators.Op.{Op as Change}
use Rattle.nest_syntax.specs.declared.tree.Expr.{Expr}
use Rattle.nest_syntax.specs.declared.tree.Expr.TheOpen.{Expr-F}
use Rattle.nest_syntax.specs.declared.tree.Expr.TheFolds.{fold-roll-Expr, para-roll-Expr}
use Rattle.nest_syntax.specs.declared.tree.Expr.TheVariants as expr
use Rattle.nest_syntax.specs.declared.tree.Expr.TheVariants.{rolls-Number, rolls-Scalar, rolls-Word, rolls-Unary, rolls-Binary, rolls-Choice}
use Rattle.nest_syntax.specs.declared.tree.Arm.{Arm}
use Rattle.nest_syntax.specs.declared.tree.Loop.{Loop}
use Rattle.nest_syntax.specs.declared.tree.Stmt.{Stmt}
use Rattle.nest_syntax.specs.declared.tree.Stmt.TheOpen.{Stmt-F}
use Rattle.nest_syntax.specs.declared.tree.Stmt.TheFolds.{fold-roll-Stmt, fold_out-Arm, fold_out-Loop}
use Rattle.nest_syntax.specs.declared.tree.Stmt.TheVariants as stmt
use Rattle.nest_syntax.specs.declared.tree.Stmt.TheVariants.{rolls-Declare, rolls-Assign, rolls-Write, rolls-If, rolls-Loop}
use Rattle.data_local.specs.Names.{scalars_in, scalars_node}
use Rattle.claim_walk.specs.Walk.{Walk, Setting, Effect, Tried, walk, walk_node, nothing, stmt_node, arm_node, loop_node, walk_stmt, walk_arm, walk_loop, walk_block, after, turned, value_of, choose}

module _ (set : Setting) (known : List ℤ) where
  pub walk-number : (n : ℤ) → walk set known (expr.Number n) ≡ nothing
  walk-number n = ap (walk set known) (sym (rolls-Number n)) ∙ para-roll-Expr Walk (walk_node set known) (Expr-F.Number n)

  pub walk-scalar : (name : ℕ) → walk set known (expr.Scalar name) ≡ nothing
  walk-scalar name = ap (walk set known) (sym (rolls-Scalar name)) ∙ para-roll-Expr Walk (walk_node set known) (Expr-F.Scalar name)

  pub walk-word : (name : ℕ) (p : Expr) → walk set known (expr.Word name p) ≡ walk_node set known (Expr-F.Word name (p, walk set known p))
  walk-word name p = ap (walk set known) (sym (rolls-Word name p)) ∙ para-roll-Expr Walk (walk_node set known) (Expr-F.Word name p)

  pub walk-unary : (o : Un) (a : Expr) → walk set known (expr.Unary o a) ≡ walk_node set known (Expr-F.Unary o (a, walk set known a))
  walk-unary o a = ap (walk set known) (sym (rolls-Unary o a)) ∙ para-roll-Expr Walk (walk_node set known) (Expr-F.Unary o a)

  pub walk-binary : (o : Bin) (a b : Expr) → walk set known (expr.Binary o a b) ≡ walk_node set known (Expr-F.Binary o (a, walk set known a) (b, walk set known b))
  walk-binary o a b = ap (walk set known) (sym (rolls-Binary o a b)) ∙ para-roll-Expr Walk (walk_node set known) (Expr-F.Binary o a b)

  pub walk-choice : (t a b : Expr) → walk set known (expr.Choice t a b) ≡ walk_node set known (Expr-F.Choice (t, walk set known t) (a, walk set known a) (b, walk set known b))
  walk-choice t a b = ap (walk set known) (sym (rolls-Choice t a b)) ∙ para-roll-Expr Walk (walk_node set known) (Expr-F.Choice t a b)

module _ (set : Setting) where
  pub walk-declare : (line : Line) (name : ℕ) (e : Expr) → walk_stmt set (stmt.Declare line name e) ≡ stmt_node set (Stmt-F.Declare line name e)
  walk-declare line name e = ap (walk_stmt set) (sym (rolls-Declare line name e)) ∙ fold-roll-Stmt Effect Tried Effect (stmt_node set) (arm_node set) (loop_node set) (Stmt-F.Declare line name e)

  pub walk-assign : (line : Line) (name : ℕ) (o : Change) (e : Expr) → walk_stmt set (stmt.Assign line name o e) ≡ stmt_node set (Stmt-F.Assign line name o e)
  walk-assign line name o e = ap (walk_stmt set) (sym (rolls-Assign line name o e)) ∙ fold-roll-Stmt Effect Tried Effect (stmt_node set) (arm_node set) (loop_node set) (Stmt-F.Assign line name o e)

  pub walk-write : (line : Line) (name : ℕ) (p : Expr) (o : Change) (e : Expr) → walk_stmt set (stmt.Write line name p o e) ≡ stmt_node set (Stmt-F.Write line name p o e)
  walk-write line name p o e = ap (walk_stmt set) (sym (rolls-Write line name p o e)) ∙ fold-roll-Stmt Effect Tried Effect (stmt_node set) (arm_node set) (loop_node set) (Stmt-F.Write line name p o e)

  pub walk-if : (arms : List Arm) (other : List Stmt) → walk_stmt set (stmt.If arms other) ≡ choose set (map (walk_arm set) arms) (walk_block set other)
  walk-if arms other = ap (walk_stmt set) (sym (rolls-If arms other)) ∙ fold-roll-Stmt Effect Tried Effect (stmt_node set) (arm_node set) (loop_node set) (Stmt-F.If arms other)

  pub walk-loop : (l : Loop) → walk_stmt set (stmt.Loop l) ≡ walk_loop set l
  walk-loop l = ap (walk_stmt set) (sym (rolls-Loop l)) ∙ fold-roll-Stmt Effect Tried Effect (stmt_node set) (arm_node set) (loop_node set) (Stmt-F.Loop l)

  pub walk_arm-is : (a : Arm) → walk_arm set a ≡ (a.test, λ known. walk set known a.test, walk_block set a.body)
  walk_arm-is a = fold_out-Arm Effect Tried Effect (stmt_node set) (arm_node set) (loop_node set) a

  pub walk_loop-is : (l : Loop) → walk_loop set l ≡ (λ known. after (walk set known l.low) (after (walk set known l.high) (turned l.step l.through l.name (walk_block set l.body) (value_of set known l.low) (value_of set known l.high))) known)
  walk_loop-is l = fold_out-Loop Effect Tried Effect (stmt_node set) (arm_node set) (loop_node set) l

-- the scalars that an expression names
pub scalars-number : (n : ℤ) → scalars_in (expr.Number n) ≡ []
scalars-number n = ap scalars_in (sym (rolls-Number n)) ∙ fold-roll-Expr (List ℕ) scalars_node (Expr-F.Number n)

pub scalars-scalar : (name : ℕ) → scalars_in (expr.Scalar name) ≡ name ∷ []
scalars-scalar name = ap scalars_in (sym (rolls-Scalar name)) ∙ fold-roll-Expr (List ℕ) scalars_node (Expr-F.Scalar name)

pub scalars-word : (name : ℕ) (p : Expr) → scalars_in (expr.Word name p) ≡ scalars_in p
scalars-word name p = ap scalars_in (sym (rolls-Word name p)) ∙ fold-roll-Expr (List ℕ) scalars_node (Expr-F.Word name p)

pub scalars-unary : (o : Un) (a : Expr) → scalars_in (expr.Unary o a) ≡ scalars_in a
scalars-unary o a = ap scalars_in (sym (rolls-Unary o a)) ∙ fold-roll-Expr (List ℕ) scalars_node (Expr-F.Unary o a)

pub scalars-binary : (o : Bin) (a b : Expr) → scalars_in (expr.Binary o a b) ≡ scalars_in a ++ scalars_in b
scalars-binary o a b = ap scalars_in (sym (rolls-Binary o a b)) ∙ fold-roll-Expr (List ℕ) scalars_node (Expr-F.Binary o a b)

pub scalars-choice : (t a b : Expr) → scalars_in (expr.Choice t a b) ≡ scalars_in t ++ (scalars_in a ++ scalars_in b)
scalars-choice t a b = ap scalars_in (sym (rolls-Choice t a b)) ∙ fold-roll-Expr (List ℕ) scalars_node (Expr-F.Choice t a b)
