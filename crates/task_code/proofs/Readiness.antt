-- What a statement that can be compiled has: registers for its names, temporaries for its values, and parts that can be
-- compiled too.
use Rattle.std.proofs.Common.{◌≡◌, ℕ, ◌+◌, ◌<◌, Bool, true, false, ◌&&◌, nat_lt, Option, List, [], ◌∷◌, map, refl, sym, ap, ◌∙◌}
use Rattle.std.specs.Prelude.{IsTrue, is_some}
use Rattle.std.specs.List.{list_all}
use Rattle.std.proofs.lemmas.Bool.{ltb-true}
use Rattle.nest_syntax.specs.declared.names.Line.{Line}
use Rattle.nest_syntax.specs.declared.operators.Op.{Op as Change}
use Rattle.nest_syntax.specs.declared.tree.Expr.{Expr}
use Rattle.nest_syntax.specs.declared.tree.Arm.{Arm}
use Rattle.nest_syntax.specs.declared.tree.Loop.{Loop}
use Rattle.nest_syntax.specs.declared.tree.Stmt.{Stmt}
use Rattle.nest_syntax.specs.declared.tree.Stmt.TheOpen.{Stmt-F}
use Rattle.nest_syntax.specs.declared.tree.Stmt.TheFolds.{fold-roll-Stmt, fold_out-Arm, fold_out-Loop}
use Rattle.nest_syntax.specs.declared.tree.Stmt.TheVariants as stmt
use Rattle.nest_syntax.specs.declared.tree.Stmt.TheVariants.{rolls-Declare, rolls-Assign, rolls-Write, rolls-If, rolls-Loop}
use Rattle.nest_syntax.specs.declared.tree.Program.{Program}
use Rattle.nest_check.specs.Declarations.{index_of_name}
use Rattle.task_code.specs.Ready.{expr_ready, ready_stmt_node, ready_arm_node, ready_loop_node, stmt_ready, arm_ready, loop_ready, block_ready}

both_left : (a b : Bool) → IsTrue (a && b) → IsTrue a
both_left true b both = refl
both_left false b both = both

both_right : (a b : Bool) → IsTrue (a && b) → IsTrue b
both_right true b both = both
both_right false b both = cc

-- a test of the results of a map
mapped : {A B : Type 0} (f : A → B) (p : B → Bool) (xs : List A) → list_all p (map f xs) ≡ list_all (λ x. p (f x)) xs
mapped f p [] = refl
mapped f p (x ∷ xs) = ap (λ rest. p (f x) && rest) (mapped f p xs)

module _ (program : Program) (locals : List ℕ) (into : ℕ) where
  abbrev Ready : Stmt → Type 0
  Ready s = IsTrue (stmt_ready program locals s into)

  at_node : (s : Stmt) (b : Bool) → stmt_ready program locals s into ≡ b → Ready s → IsTrue b
  at_node s b is ready = sym is ∙ ready

  pub declare_ready : (line : Line) (name : ℕ) (e : Expr) → Ready (stmt.Declare line name e) → IsTrue (is_some (index_of_name locals name)) × (into < 32) × IsTrue (expr_ready program locals e into)
  declare_ready line name e ready =
      let is : stmt_ready program locals (stmt.Declare line name e) into ≡ (is_some (index_of_name locals name) && (nat_lt into 32 && expr_ready program locals e into)) =
      ap (λ s. stmt_ready program locals s into) (sym (rolls-Declare line name e)) ∙ ap (λ (f : ℕ → Bool). f into) (fold-roll-Stmt (ℕ → Bool) (ℕ → Bool) (ℕ → Bool) (ready_stmt_node program locals) (ready_arm_node program locals) (ready_loop_node program locals) (Stmt-F.Declare line name e)) in
      let all = at_node (stmt.Declare line name e) _ is ready in
      let rest = both_right (is_some (index_of_name locals name)) _ all in
      (both_left (is_some (index_of_name locals name)) _ all, ltb-true into 32 (both_left (nat_lt into 32) _ rest), both_right (nat_lt into 32) _ rest)

  pub assign_ready : (line : Line) (name : ℕ) (o : Change) (e : Expr) → Ready (stmt.Assign line name o e) → IsTrue (is_some (index_of_name locals name)) × (into < 32) × IsTrue (expr_ready program locals e into)
  assign_ready line name o e ready =
      let is : stmt_ready program locals (stmt.Assign line name o e) into ≡ (is_some (index_of_name locals name) && (nat_lt into 32 && expr_ready program locals e into)) =
      ap (λ s. stmt_ready program locals s into) (sym (rolls-Assign line name o e)) ∙ ap (λ (f : ℕ → Bool). f into) (fold-roll-Stmt (ℕ → Bool) (ℕ → Bool) (ℕ → Bool) (ready_stmt_node program locals) (ready_arm_node program locals) (ready_loop_node program locals) (Stmt-F.Assign line name o e)) in
      let all = at_node (stmt.Assign line name o e) _ is ready in
      let rest = both_right (is_some (index_of_name locals name)) _ all in
      (both_left (is_some (index_of_name locals name)) _ all, ltb-true into 32 (both_left (nat_lt into 32) _ rest), both_right (nat_lt into 32) _ rest)

  pub write_ready : (line : Line) (name : ℕ) (p : Expr) (o : Change) (e : Expr) → Ready (stmt.Write line name p o e) → (into + 2 < 32) × IsTrue (expr_ready program locals p into) × IsTrue (expr_ready program locals e (into + 1))
  write_ready line name p o e ready =
      let is : stmt_ready program locals (stmt.Write line name p o e) into ≡ (nat_lt (into + 2) 32 && (expr_ready program locals p into && expr_ready program locals e (into + 1))) =
      ap (λ s. stmt_ready program locals s into) (sym (rolls-Write line name p o e)) ∙ ap (λ (f : ℕ → Bool). f into) (fold-roll-Stmt (ℕ → Bool) (ℕ → Bool) (ℕ → Bool) (ready_stmt_node program locals) (ready_arm_node program locals) (ready_loop_node program locals) (Stmt-F.Write line name p o e)) in
      let all = at_node (stmt.Write line name p o e) _ is ready in
      let rest = both_right (nat_lt (into + 2) 32) _ all in
      (ltb-true (into + 2) 32 (both_left (nat_lt (into + 2) 32) _ all), both_left (expr_ready program locals p into) _ rest, both_right (expr_ready program locals p into) _ rest)

  pub if_ready : (arms : List Arm) (other : List Stmt) → Ready (stmt.If arms other) → IsTrue (list_all (λ a. arm_ready program locals a into) arms) × IsTrue (block_ready program locals other into)
  if_ready arms other ready =
      let is : stmt_ready program locals (stmt.If arms other) into ≡ (list_all (λ (f : ℕ → Bool). f into) (map (arm_ready program locals) arms) && list_all (λ (f : ℕ → Bool). f into) (map (stmt_ready program locals) other)) =
      ap (λ s. stmt_ready program locals s into) (sym (rolls-If arms other)) ∙ ap (λ (f : ℕ → Bool). f into) (fold-roll-Stmt (ℕ → Bool) (ℕ → Bool) (ℕ → Bool) (ready_stmt_node program locals) (ready_arm_node program locals) (ready_loop_node program locals) (Stmt-F.If arms other)) in
      let all = at_node (stmt.If arms other) _ is ready in (
        sym (mapped (arm_ready program locals) (λ (f : ℕ → Bool). f into) arms) ∙ both_left (list_all (λ (f : ℕ → Bool). f into) (map (arm_ready program locals) arms)) _ all,
        sym (mapped (stmt_ready program locals) (λ (f : ℕ → Bool). f into) other) ∙ both_right (list_all (λ (f : ℕ → Bool). f into) (map (arm_ready program locals) arms)) _ all,
      )

  pub loop_stmt_ready : (l : Loop) → Ready (stmt.Loop l) → IsTrue (loop_ready program locals l into)
  loop_stmt_ready l ready = sym (ap (λ s. stmt_ready program locals s into) (sym (rolls-Loop l)) ∙ ap (λ (f : ℕ → Bool). f into) (fold-roll-Stmt (ℕ → Bool) (ℕ → Bool) (ℕ → Bool) (ready_stmt_node program locals) (ready_arm_node program locals) (ready_loop_node program locals) (Stmt-F.Loop l))) ∙ ready

  pub arm_parts_ready : (a : Arm) → IsTrue (arm_ready program locals a into) → IsTrue (expr_ready program locals a.test into) × IsTrue (block_ready program locals a.body into)
  arm_parts_ready a ready =
      let is : arm_ready program locals a into ≡ (expr_ready program locals a.test into && list_all (λ (f : ℕ → Bool). f into) (map (stmt_ready program locals) a.body)) =
      ap (λ (f : ℕ → Bool). f into) (fold_out-Arm (ℕ → Bool) (ℕ → Bool) (ℕ → Bool) (ready_stmt_node program locals) (ready_arm_node program locals) (ready_loop_node program locals) a) in
      let all : IsTrue (expr_ready program locals a.test into && list_all (λ (f : ℕ → Bool). f into) (map (stmt_ready program locals) a.body)) = sym is ∙ ready in
      (both_left (expr_ready program locals a.test into) _ all, sym (mapped (stmt_ready program locals) (λ (f : ℕ → Bool). f into) a.body) ∙ both_right (expr_ready program locals a.test into) _ all)

  pub record LoopParts (l : Loop) : Type 0 where
    pub named : IsTrue (is_some (index_of_name locals l.name))
    pub positive : 0 < l.step
    pub few : into + 1 < 32
    pub low : IsTrue (expr_ready program locals l.low into)
    pub high : IsTrue (expr_ready program locals l.high (into + 1))
    pub body : IsTrue (block_ready program locals l.body (into + 2))

  pub loop_parts_ready : (l : Loop) → IsTrue (loop_ready program locals l into) → LoopParts l
  loop_parts_ready l ready =
      let is : loop_ready program locals l into ≡ (is_some (index_of_name locals l.name) && (nat_lt 0 l.step && (nat_lt (into + 1) 32 && (expr_ready program locals l.low into && (expr_ready program locals l.high (into + 1) && list_all (λ (f : ℕ → Bool). f (into + 2)) (map (stmt_ready program locals) l.body)))))) =
      ap (λ (f : ℕ → Bool). f into) (fold_out-Loop (ℕ → Bool) (ℕ → Bool) (ℕ → Bool) (ready_stmt_node program locals) (ready_arm_node program locals) (ready_loop_node program locals) l) in
      let all : IsTrue (is_some (index_of_name locals l.name) && (nat_lt 0 l.step && (nat_lt (into + 1) 32 && (expr_ready program locals l.low into && (expr_ready program locals l.high (into + 1) && list_all (λ (f : ℕ → Bool). f (into + 2)) (map (stmt_ready program locals) l.body)))))) = sym is ∙ ready in
      let from_step = both_right (is_some (index_of_name locals l.name)) _ all in
      let from_few = both_right (nat_lt 0 l.step) _ from_step in
      let from_low = both_right (nat_lt (into + 1) 32) _ from_few in
      let from_high = both_right (expr_ready program locals l.low into) _ from_low in
      record {
        named = both_left (is_some (index_of_name locals l.name)) _ all;
        positive = ltb-true 0 l.step (both_left (nat_lt 0 l.step) _ from_step);
        few = ltb-true (into + 1) 32 (both_left (nat_lt (into + 1) 32) _ from_few);
        low = both_left (expr_ready program locals l.low into) _ from_low;
        high = both_left (expr_ready program locals l.high (into + 1)) _ from_high;
        body = sym (mapped (stmt_ready program locals) (λ (f : ℕ → Bool). f (into + 2)) l.body) ∙ both_right (expr_ready program locals l.high (into + 1)) _ from_high;
      }
