-- Induction over expressions and over statements, one case for each kind of them.
use Rattle.std.proofs.Common.{◌≡◌, ℕ, ℤ, List, [], ◌∷◌, ◌++◌, map, sym, subst}
use Rattle.nest_syntax.specs.declared.names.Line.{Line}
use Rattle.nest_syntax.specs.declared.operators.Op.{Op}
use Rattle.nest_syntax.specs.declared.operators.Bin.{Bin}
use Rattle.nest_syntax.specs.declared.operators.Un.{Un}
use Rattle.nest_syntax.specs.declared.tree.Expr.{Expr, Expr-F, roll-Expr, map-Expr, ind-Expr}
use Rattle.nest_syntax.specs.declared.tree.Expr.TheVariants as expr
use Rattle.nest_syntax.specs.declared.tree.Expr.TheVariants.{rolls-Number, rolls-Scalar, rolls-Word, rolls-Unary, rolls-Binary, rolls-Choice}
use Rattle.nest_syntax.specs.declared.tree.Arm.{Arm, roll-Arm}
use Rattle.nest_syntax.specs.declared.tree.Loop.{Loop, roll-Loop}
use Rattle.nest_syntax.specs.declared.tree.Stmt.{Stmt, roll-Stmt}
use Rattle.nest_syntax.specs.declared.tree.Stmt.TheOpen.{Stmt-F, Arm-F, Loop-F}
use Rattle.nest_syntax.specs.declared.tree.Stmt.TheFolds.{map-Stmt, map-Arm, map-Loop, ind-Stmt}
use Rattle.nest_syntax.specs.declared.tree.Stmt.TheVariants as stmt
use Rattle.nest_syntax.specs.declared.tree.Stmt.TheVariants.{rolls-Declare, rolls-Assign, rolls-Write, rolls-If, rolls-Loop}
use Rattle.nest_syntax.specs.Among.{Each}

module _ (P : Expr → Type 0)
    (at_number : (n : ℤ) → P (expr.Number n))
    (at_scalar : (name : ℕ) → P (expr.Scalar name))
    (at_word : (name : ℕ) (place : Expr) → P place → P (expr.Word name place))
    (at_unary : (o : Un) (a : Expr) → P a → P (expr.Unary o a))
    (at_binary : (o : Bin) (a b : Expr) → P a → P b → P (expr.Binary o a b))
    (at_choice : (t a b : Expr) → P t → P a → P b → P (expr.Choice t a b)) where
  abbrev Such : Type 0
  Such = (e : Expr) × P e

  expr_layer : (y : Expr-F Such) → P (roll-Expr (map-Expr Such Expr (λ e. e.0) y))
  expr_layer (Expr-F.Number n) = subst P (sym (rolls-Number n)) (at_number n)
  expr_layer (Expr-F.Scalar name) = subst P (sym (rolls-Scalar name)) (at_scalar name)
  expr_layer (Expr-F.Word name place) = subst P (sym (rolls-Word name place.0)) (at_word name place.0 place.1)
  expr_layer (Expr-F.Unary o a) = subst P (sym (rolls-Unary o a.0)) (at_unary o a.0 a.1)
  expr_layer (Expr-F.Binary o a b) = subst P (sym (rolls-Binary o a.0 b.0)) (at_binary o a.0 b.0 a.1 b.1)
  expr_layer (Expr-F.Choice t a b) = subst P (sym (rolls-Choice t.0 a.0 b.0)) (at_choice t.0 a.0 b.0 t.1 a.1 b.1)

  pub expr_induction : (e : Expr) → P e
  expr_induction = ind-Expr P (λ x y is. subst (λ d. P (roll-Expr d)) is (expr_layer y))

module _ (P : Stmt → Type 0)
    (at_declare : (line : Line) (name : ℕ) (e : Expr) → P (stmt.Declare line name e))
    (at_assign : (line : Line) (name : ℕ) (o : Op) (e : Expr) → P (stmt.Assign line name o e))
    (at_write : (line : Line) (name : ℕ) (p : Expr) (o : Op) (e : Expr) → P (stmt.Write line name p o e))
    (at_if : (arms : List Arm) (other : List Stmt) → Each (λ (a : Arm). Each P a.body) arms → Each P other → P (stmt.If arms other))
    (at_loop : (l : Loop) → Each P l.body → P (stmt.Loop l)) where
  abbrev InArm : Arm → Type 0
  InArm a = Each P a.body

  abbrev InLoop : Loop → Type 0
  InLoop l = Each P l.body

  abbrev A_stmt : Type 0
  A_stmt = (s : Stmt) × P s

  abbrev An_arm : Type 0
  An_arm = (a : Arm) × InArm a

  abbrev A_loop : Type 0
  A_loop = (l : Loop) × InLoop l

  each_stmt : (stmts : List A_stmt) → Each P (map (λ q. q.0) stmts)
  each_stmt [] = tt
  each_stmt (q ∷ qs) = (q.1, each_stmt qs)

  each_arm : (arms : List An_arm) → Each InArm (map (λ q. q.0) arms)
  each_arm [] = tt
  each_arm (q ∷ qs) = (q.1, each_arm qs)

  layer : (y : Stmt-F A_stmt An_arm A_loop) → P (roll-Stmt (map-Stmt A_stmt An_arm A_loop Stmt Arm Loop (λ q. q.0) (λ q. q.0) (λ q. q.0) y))
  layer (Stmt-F.Declare line name e) = subst P (sym (rolls-Declare line name e)) (at_declare line name e)
  layer (Stmt-F.Assign line name o e) = subst P (sym (rolls-Assign line name o e)) (at_assign line name o e)
  layer (Stmt-F.Write line name p o e) = subst P (sym (rolls-Write line name p o e)) (at_write line name p o e)
  layer (Stmt-F.If arms other) = subst P (sym (rolls-If (map (λ q. q.0) arms) (map (λ q. q.0) other))) (at_if (map (λ q. q.0) arms) (map (λ q. q.0) other) (each_arm arms) (each_stmt other))
  layer (Stmt-F.Loop l) = subst P (sym (rolls-Loop l.0)) (at_loop l.0 l.1)

  pub stmt_induction : (s : Stmt) → P s
  stmt_induction = ind-Stmt P InArm InLoop
      (λ x y is. subst (λ z. P (roll-Stmt z)) is (layer y))
      (λ x y is. subst (λ (z : Arm-F Stmt Arm Loop). Each P z.body) is (each_stmt y.body))
      (λ x y is. subst (λ (z : Loop-F Stmt Arm Loop). Each P z.body) is (each_stmt y.body))

pub each_left : {A : Type 0} (P : A → Type 0) (xs ys : List A) → Each P (xs ++ ys) → Each P xs
each_left P [] ys each = tt
each_left P (x ∷ xs) ys each = (each.0, each_left P xs ys each.1)

pub each_right : {A : Type 0} (P : A → Type 0) (xs ys : List A) → Each P (xs ++ ys) → Each P ys
each_right P [] ys each = each
each_right P (x ∷ xs) ys each = each_right P xs ys each.1

pub each_both : {A : Type 0} (P : A → Type 0) (xs ys : List A) → Each P xs → Each P ys → Each P (xs ++ ys)
each_both P [] ys first second = second
each_both P (x ∷ xs) ys first second = (first.0, each_both P xs ys first.1 second)
