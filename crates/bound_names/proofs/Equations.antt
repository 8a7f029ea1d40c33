-- What the walk over a body gives at each kind of node.
use Rattle.std.proofs.Common.{◌≡◌, ℕ, List, [], ◌∷◌, ◌++◌, map, refl, sym, ap, ◌∙◌}
use Rattle.nest_syntax.specs.declared.names.Line.{Line}
use Rattle.nest_syntax.specs.declared.operators.Op.{Op}
use Rattle.nest_syntax.specs.declared.tree.Expr.{Expr}
use Rattle.nest_syntax.specs.declared.tree.Arm.{Arm, roll-out-Arm, out-Arm}
use Rattle.nest_syntax.specs.declared.tree.Loop.{Loop, roll-out-Loop, out-Loop}
use Rattle.nest_syntax.specs.declared.tree.Stmt.{Stmt, roll-Stmt}
use Rattle.nest_syntax.specs.declared.tree.Stmt.TheOpen.{Stmt-F}
use Rattle.nest_syntax.specs.declared.tree.Stmt.TheFolds.{map-Stmt, para-roll-Stmt, para-roll-Arm, para-roll-Loop}
use Rattle.nest_syntax.specs.declared.tree.Stmt.TheVariants as stmt
use Rattle.nest_syntax.specs.declared.tree.Stmt.TheVariants.{rolls-Declare, rolls-Assign, rolls-Write, rolls-If, rolls-Loop}
use Rattle.nest_scope.specs.declared.occurrences.Action.TheVariants as action
use Rattle.bound_names.specs.Uses.{Binder, Inside, Declaration, Bindings, use_of, uses_in_expr, Used, Using, Listing, ByBinder, in_turn, in_arms, used_node, used_arm_node, used_loop_node, used_by, uses_in_arm, uses_in_loop, uses_in}

seconds : {A B : Type 0} (f : A → B) (xs : List A) → map (λ (p : A × B). p.1) (map (λ x. (x, f x)) xs) ≡ map f xs
seconds f [] = refl
seconds f (x ∷ xs) = ap (λ ys. f x ∷ ys) (seconds f xs)

module _ (bindings : Bindings) where
  abbrev node_of : Stmt-F Stmt Arm Loop → Used
  node_of x = used_node (map-Stmt Stmt Arm Loop (Stmt × Using) (Arm × Listing) (Loop × ByBinder) (λ s. (s, used_by s)) (λ a. (a, uses_in_arm a)) (λ l. (l, uses_in_loop l)) x) bindings

  used-node : (x : Stmt-F Stmt Arm Loop) → used_by (roll-Stmt x) bindings ≡ node_of x
  used-node x = ap (λ (f : Using). f bindings) (para-roll-Stmt Using Listing ByBinder used_node used_arm_node used_loop_node x)

  pub used-declare : (line : Line) (name : ℕ) (e : Expr) → used_by (stmt.Declare line name e) bindings ≡ record { uses = use_of bindings action.Declared name ∷ uses_in_expr bindings e; behind = (name, Declaration line e) ∷ bindings }
  used-declare line name e = ap (λ s. used_by s bindings) (sym (rolls-Declare line name e)) ∙ used-node (Stmt-F.Declare line name e)

  pub used-assign : (line : Line) (name : ℕ) (o : Op) (e : Expr) → used_by (stmt.Assign line name o e) bindings ≡ record { uses = use_of bindings action.Assigned name ∷ uses_in_expr bindings e; behind = bindings }
  used-assign line name o e = ap (λ s. used_by s bindings) (sym (rolls-Assign line name o e)) ∙ used-node (Stmt-F.Assign line name o e)

  pub used-write : (line : Line) (array : ℕ) (p : Expr) (o : Op) (e : Expr)
      → used_by (stmt.Write line array p o e) bindings ≡ record { uses = use_of bindings action.WordWritten array ∷ (uses_in_expr bindings p ++ uses_in_expr bindings e); behind = bindings }
  used-write line array p o e = ap (λ s. used_by s bindings) (sym (rolls-Write line array p o e)) ∙ used-node (Stmt-F.Write line array p o e)

  pub used-if : (arms : List Arm) (other : List Stmt) → used_by (stmt.If arms other) bindings ≡ record { uses = in_arms (map uses_in_arm arms) bindings ++ uses_in other bindings; behind = bindings }
  used-if arms other =
      ap (λ s. used_by s bindings) (sym (rolls-If arms other))
      ∙ used-node (Stmt-F.If arms other)
      ∙ ap (λ (fs : List Listing). record { uses = in_arms fs bindings ++ in_turn (map (λ (s : Stmt × Using). s.1) (map (λ s. (s, used_by s)) other)) bindings; behind = bindings }) (seconds uses_in_arm arms)
      ∙ ap (λ (fs : List Using). record { uses = in_arms (map uses_in_arm arms) bindings ++ in_turn fs bindings; behind = bindings }) (seconds used_by other)

  pub used-loop : (l : Loop) → used_by (stmt.Loop l) bindings ≡ record { uses = uses_in_loop l (Inside l) bindings; behind = bindings }
  used-loop l = ap (λ s. used_by s bindings) (sym (rolls-Loop l)) ∙ used-node (Stmt-F.Loop l)

  pub uses_in_arm-is : (a : Arm) → uses_in_arm a bindings ≡ uses_in_expr bindings a.test ++ uses_in a.body bindings
  uses_in_arm-is a =
      ap (λ r. uses_in_arm r bindings) (sym (roll-out-Arm a))
      ∙ ap (λ (f : Listing). f bindings) (para-roll-Arm Using Listing ByBinder used_node used_arm_node used_loop_node (out-Arm a))
      ∙ ap (λ (fs : List Using). uses_in_expr bindings a.test ++ in_turn fs bindings) (seconds used_by a.body)

  pub uses_in_loop-is : (l : Loop) (binder : Binder) → uses_in_loop l binder bindings
      ≡ use_of bindings action.Declared l.name ∷ (uses_in_expr bindings l.low ++ (uses_in_expr ((l.name, binder) ∷ bindings) l.high ++ uses_in l.body ((l.name, binder) ∷ bindings)))
  uses_in_loop-is l binder =
      ap (λ r. uses_in_loop r binder bindings) (sym (roll-out-Loop l))
      ∙ ap (λ (f : ByBinder). f binder bindings) (para-roll-Loop Using Listing ByBinder used_node used_arm_node used_loop_node (out-Loop l))
      ∙ ap (λ (fs : List Using). use_of bindings action.Declared l.name ∷ (uses_in_expr bindings l.low ++ (uses_in_expr ((l.name, binder) ∷ bindings) l.high ++ in_turn fs ((l.name, binder) ∷ bindings)))) (seconds used_by l.body)
