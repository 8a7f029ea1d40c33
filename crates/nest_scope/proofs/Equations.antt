-- What the folds that list occurrences are at each kind of node that has more than one part.
use Rattle.std.proofs.Common.{◌≡◌, ℕ, List, ◌∷◌, ◌++◌, map, sym, ap, ◌∙◌}
use Rattle.nest_syntax.specs.declared.names.Line.{Line}
use Rattle.nest_syntax.specs.declared.operators.Bin.{Bin}
use Rattle.nest_syntax.specs.declared.operators.Op.{Op}
use Rattle.nest_syntax.specs.declared.tree.Expr.{Expr}
use Rattle.nest_syntax.specs.declared.tree.Expr.TheOpen.{Expr-F}
use Rattle.nest_syntax.specs.declared.tree.Expr.TheFolds.{fold-roll-Expr}
use Rattle.nest_syntax.specs.declared.tree.Expr.TheVariants as expr
use Rattle.nest_syntax.specs.declared.tree.Expr.TheVariants.{rolls-Binary, rolls-Choice}
use Rattle.nest_syntax.specs.declared.tree.Arm.{Arm}
use Rattle.nest_syntax.specs.declared.tree.Loop.{Loop}
use Rattle.nest_syntax.specs.declared.tree.Stmt.{Stmt, roll-Stmt}
use Rattle.nest_syntax.specs.declared.tree.Stmt.TheOpen.{Stmt-F}
use Rattle.nest_syntax.specs.declared.tree.Stmt.TheFolds.{map-Stmt, fold-roll-Stmt, fold_out-Arm, fold_out-Loop}
use Rattle.nest_syntax.specs.declared.tree.Stmt.TheVariants as stmt
use Rattle.nest_syntax.specs.declared.tree.Stmt.TheVariants.{rolls-Declare, rolls-Assign, rolls-Write, rolls-If, rolls-Loop}
use Rattle.nest_scope.specs.declared.occurrences.Level.{Level}
use Rattle.nest_scope.specs.declared.occurrences.Action.TheVariants as action
use Rattle.nest_scope.specs.declared.occurrences.Occurrence.{Occurrence}
use Rattle.nest_scope.specs.Occurrences.{Scope, Walk, Listing, bound, with_bound, inner, declared_at, variable_at, occurrence, read_node, read_in, in_same_scope, stmt_node, arm_node, loop_node, in_stmt, in_arm, in_loop, in_block}

-- the names that an expression reads
module _ (line : Line) (level : Level) (scope : Scope) where
  pub read-binary : (o : Bin) (a b : Expr) → read_in line level scope (expr.Binary o a b) ≡ read_in line level scope a ++ read_in line level scope b
  read-binary o a b = ap (read_in line level scope) (sym (rolls-Binary o a b)) ∙ fold-roll-Expr (List Occurrence) (read_node line level scope) (Expr-F.Binary o a b)

  pub read-choice : (t a b : Expr) → read_in line level scope (expr.Choice t a b) ≡ read_in line level scope t ++ (read_in line level scope a ++ read_in line level scope b)
  read-choice t a b = ap (read_in line level scope) (sym (rolls-Choice t a b)) ∙ fold-roll-Expr (List Occurrence) (read_node line level scope) (Expr-F.Choice t a b)

-- the occurrences of a statement, an arm and a loop
module _ (level : Level) (scope : Scope) where
  pub occurrences-declare : (line : Line) (name : ℕ) (e : Expr) → (in_stmt (stmt.Declare line name e) level scope).occurrences ≡ occurrence line level action.Declared (bound scope name) ∷ read_in line level scope e
  occurrences-declare line name e =
      ap (λ s. (in_stmt s level scope).occurrences) (sym (rolls-Declare line name e))
      ∙ ap (λ (p : Walk). (p level scope).occurrences) (fold-roll-Stmt Walk Listing Listing stmt_node arm_node loop_node (Stmt-F.Declare line name e))

  pub occurrences-assign : (line : Line) (name : ℕ) (o : Op) (e : Expr) → (in_stmt (stmt.Assign line name o e) level scope).occurrences ≡ occurrence line level action.Assigned (bound scope name) ∷ read_in line level scope e
  occurrences-assign line name o e =
      ap (λ s. (in_stmt s level scope).occurrences) (sym (rolls-Assign line name o e))
      ∙ ap (λ (p : Walk). (p level scope).occurrences) (fold-roll-Stmt Walk Listing Listing stmt_node arm_node loop_node (Stmt-F.Assign line name o e))

  pub occurrences-write : (line : Line) (array : ℕ) (place : Expr) (o : Op) (e : Expr)
      → (in_stmt (stmt.Write line array place o e) level scope).occurrences ≡ occurrence line level action.WordWritten (bound scope array) ∷ (read_in line level scope place ++ read_in line level scope e)
  occurrences-write line array place o e =
      ap (λ s. (in_stmt s level scope).occurrences) (sym (rolls-Write line array place o e))
      ∙ ap (λ (p : Walk). (p level scope).occurrences) (fold-roll-Stmt Walk Listing Listing stmt_node arm_node loop_node (Stmt-F.Write line array place o e))

  pub occurrences-if : (arms : List Arm) (other : List Stmt) → (in_stmt (stmt.If arms other) level scope).occurrences ≡ in_same_scope (map in_arm arms) level scope ++ in_block other level scope
  occurrences-if arms other =
      ap (λ s. (in_stmt s level scope).occurrences) (sym (rolls-If arms other))
      ∙ ap (λ (p : Walk). (p level scope).occurrences) (fold-roll-Stmt Walk Listing Listing stmt_node arm_node loop_node (Stmt-F.If arms other))

  pub occurrences-arm : (arm : Arm) → in_arm arm level scope ≡ read_in arm.line level scope arm.test ++ in_block arm.body level scope
  occurrences-arm arm = ap (λ (w : Listing). w level scope) (fold_out-Arm Walk Listing Listing stmt_node arm_node loop_node arm)

  pub occurrences-loop : (l : Loop) → in_loop l level scope ≡ occurrence l.line level action.Declared (bound scope l.name)
      ∷ (read_in l.line level scope l.low ++ (read_in l.line level (with_bound scope l.name (variable_at level)) l.high ++ in_block l.body (inner level) (with_bound scope l.name (variable_at level))))
  occurrences-loop l = ap (λ (w : Listing). w level scope) (fold_out-Loop Walk Listing Listing stmt_node arm_node loop_node l)

-- the scope behind a statement
module _ (level : Level) (scope : Scope) where
  behind-node : (x : Stmt-F Stmt Arm Loop) → (in_stmt (roll-Stmt x) level scope).behind ≡ (stmt_node (map-Stmt Stmt Arm Loop Walk Listing Listing in_stmt in_arm in_loop x) level scope).behind
  behind-node x = ap (λ (p : Walk). (p level scope).behind) (fold-roll-Stmt Walk Listing Listing stmt_node arm_node loop_node x)

  pub behind-declare : (line : Line) (name : ℕ) (e : Expr) → (in_stmt (stmt.Declare line name e) level scope).behind ≡ with_bound scope name (declared_at level)
  behind-declare line name e = ap (λ s. (in_stmt s level scope).behind) (sym (rolls-Declare line name e)) ∙ behind-node (Stmt-F.Declare line name e)

  pub behind-assign : (line : Line) (name : ℕ) (o : Op) (e : Expr) → (in_stmt (stmt.Assign line name o e) level scope).behind ≡ scope
  behind-assign line name o e = ap (λ s. (in_stmt s level scope).behind) (sym (rolls-Assign line name o e)) ∙ behind-node (Stmt-F.Assign line name o e)

  pub behind-write : (line : Line) (array : ℕ) (place : Expr) (o : Op) (e : Expr) → (in_stmt (stmt.Write line array place o e) level scope).behind ≡ scope
  behind-write line array place o e = ap (λ s. (in_stmt s level scope).behind) (sym (rolls-Write line array place o e)) ∙ behind-node (Stmt-F.Write line array place o e)

  pub behind-if : (arms : List Arm) (other : List Stmt) → (in_stmt (stmt.If arms other) level scope).behind ≡ scope
  behind-if arms other = ap (λ s. (in_stmt s level scope).behind) (sym (rolls-If arms other)) ∙ behind-node (Stmt-F.If arms other)

  pub behind-loop : (l : Loop) → (in_stmt (stmt.Loop l) level scope).behind ≡ scope
  behind-loop l = ap (λ s. (in_stmt s level scope).behind) (sym (rolls-Loop l)) ∙ behind-node (Stmt-F.Loop l)
