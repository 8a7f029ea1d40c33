-- The walk over a body beside the occurrences of names there: where the scope and what is bound agree, they agree at each
-- use, so what follows there of an occurrence that breaks no rule holds of each use.
use Rattle.std.proofs.Common.{◌≡◌, ◌≢◌, ℕ, ◌<◌, ◌==◌, ◌&&◌, nat_lt, if◌then◌else◌, Bool, true, false, IsTrue, Option, Some, None, ◌⊎◌, inl, inr, List, [], ◌∷◌, ◌++◌, map, length, refl, sym, ap, ◌∙◌, subst}
use Rattle.std.specs.List.{list_all}
use Rattle.std.proofs.lemmas.Bool.{and_parts, ltb-true}
use Rattle.std.proofs.lemmas.Bool.Decides.{eqb_tells}
use Rattle.std.proofs.lemmas.List.{get_or-set_same, length-set}
use Rattle.nest_syntax.specs.declared.names.Line.{Line}
use Rattle.nest_syntax.specs.declared.operators.Op.{Op}
use Rattle.nest_syntax.specs.declared.tree.Expr.{Expr, Expr-F, roll-Expr, map-Expr, ind-Expr, fold-roll-Expr}
use Rattle.nest_syntax.specs.declared.tree.Arm.{Arm}
use Rattle.nest_syntax.specs.declared.tree.Loop.{Loop}
use Rattle.nest_syntax.specs.declared.tree.Stmt.{Stmt}
use Rattle.nest_syntax.specs.declared.tree.Stmt.TheOpen.{Stmt-F}
use Rattle.nest_syntax.specs.declared.tree.Stmt.TheFolds.{fold-Stmt, fold-Arm, fold-roll-Stmt, fold_out-Arm, fold_out-Loop}
use Rattle.nest_syntax.specs.declared.tree.Stmt.TheVariants as stmt
use Rattle.nest_syntax.specs.declared.tree.Stmt.TheVariants.{rolls-Declare, rolls-If, rolls-Loop}
use Rattle.nest_syntax.specs.Among.{Each}
use Rattle.nest_syntax.specs.Named.{expr_named, stmt_named, arm_named, header_named, loop_named}
use Rattle.nest_syntax.proofs.Inductions.{stmt_induction, each_left, each_right, each_both}
use Rattle.nest_scope.specs.declared.occurrences.Binding.{Binding}
use Rattle.nest_scope.specs.declared.occurrences.Binding.TheVariants as binding
use Rattle.nest_scope.specs.declared.occurrences.Level.{Level}
use Rattle.nest_scope.specs.declared.occurrences.Level.TheVariants as level
use Rattle.nest_scope.specs.declared.occurrences.Action.{Action}
use Rattle.nest_scope.specs.declared.occurrences.Action.TheVariants as action
use Rattle.nest_scope.specs.declared.occurrences.Occurrence.{Occurrence}
use Rattle.nest_scope.specs.Occurrences.{Scope, bound, with_bound, occurrence, read_node, read_in, in_same_scope, in_stmt, in_arm, in_loop, in_block}
use Rattle.nest_scope.specs.Entered.{IsBound}
use Rattle.nest_scope.proofs.Entered.{loop_is}
use Rattle.nest_scope.proofs.Equations.{occurrences-declare, occurrences-assign, occurrences-write, occurrences-if, occurrences-arm, occurrences-loop, behind-declare, behind-assign, behind-write, behind-if, behind-loop}
use Rattle.body_names.proofs.Names.{bound_other}
use Rattle.bound_names.specs.Uses.{Binder, Invocation, Inside, Declaration, Bindings, binder_of, Use, use_of, reads_node, uses_in_expr, in_arms, used_by, uses_in_arm, uses_in_loop, uses_in}
use Rattle.bound_names.proofs.Equations.{used-declare, used-assign, used-write, used-if, used-loop, uses_in_arm-is, uses_in_loop-is}

-- that each name number in a statement and an arm is below the count of names
abbrev pub named : ℕ → Stmt → Bool
named count = fold-Stmt Bool Bool Bool (stmt_named count) (arm_named count) (header_named count)

abbrev pub named_arm : ℕ → Arm → Bool
named_arm count = fold-Arm Bool Bool Bool (stmt_named count) (arm_named count) (header_named count)

abbrev pub all_named : ℕ → List Stmt → Bool
all_named count stmts = list_all (λ s. s) (map (named count) stmts)

named-declare : (count : ℕ) (line : Line) (name : ℕ) (e : Expr) → named count (stmt.Declare line name e) ≡ (nat_lt name count && expr_named count e)
named-declare count line name e = ap (named count) (sym (rolls-Declare line name e)) ∙ fold-roll-Stmt Bool Bool Bool (stmt_named count) (arm_named count) (header_named count) (Stmt-F.Declare line name e)

pub named-if : (count : ℕ) (arms : List Arm) (other : List Stmt) → named count (stmt.If arms other) ≡ (list_all (λ a. a) (map (named_arm count) arms) && all_named count other)
named-if count arms other = ap (named count) (sym (rolls-If arms other)) ∙ fold-roll-Stmt Bool Bool Bool (stmt_named count) (arm_named count) (header_named count) (Stmt-F.If arms other)

pub named-loop : (count : ℕ) (l : Loop) → named count (stmt.Loop l) ≡ loop_named count l
named-loop count l = ap (named count) (sym (rolls-Loop l)) ∙ fold-roll-Stmt Bool Bool Bool (stmt_named count) (arm_named count) (header_named count) (Stmt-F.Loop l)

pub named_arm-is : (count : ℕ) (a : Arm) → named_arm count a ≡ (expr_named count a.test && all_named count a.body)
named_arm-is count a = fold_out-Arm Bool Bool Bool (stmt_named count) (arm_named count) (header_named count) a

pub loop_named-is : (count : ℕ) (l : Loop) → loop_named count l ≡ (nat_lt l.name count && (expr_named count l.low && (expr_named count l.high && all_named count l.body)))
loop_named-is count l = fold_out-Loop Bool Bool Bool (stmt_named count) (arm_named count) (header_named count) l

-- what a scope has for a name that is bound so
abbrev pub kind_of : Option Binder → Binding → Binding
kind_of None outside = outside
kind_of (Some (Invocation l)) outside = binding.LoopVariable
kind_of (Some (Inside l)) outside = binding.LoopVariable
kind_of (Some (Declaration line value)) outside = binding.Local

-- what is bound in the body agrees with its scope, whose other names are bound as around the body
pub record Agrees (count : ℕ) (around scope : Scope) (bindings : Bindings) : Type 0 where
  pub many : length scope ≡ count
  pub kinds : (name : ℕ) → bound scope name ≡ kind_of (binder_of bindings name) (bound around name)

-- so it is with one more name bound
pub agrees_with : (count : ℕ) (around scope : Scope) (bindings : Bindings) (name : ℕ) (binder : Binder) (to : Binding) → ((outside : Binding) → kind_of (Some binder) outside ≡ to) → IsTrue (nat_lt name count) → Agrees count around scope bindings
    → Agrees count around (with_bound scope name to) ((name, binder) ∷ bindings)
agrees_with count around scope bindings name binder to is inside agrees = record {
  many = length-set scope name to ∙ agrees.many;
  kinds = λ other. by other (eqb_tells other name);
}
  where
    there : name < length scope
    there = subst (λ n. name < n) (sym agrees.many) (ltb-true name count inside)

    by : (other : ℕ) → (((other == name) ≡ true) × (other ≡ name)) ⊎ (((other == name) ≡ false) × (other ≢ name)) → bound (with_bound scope name to) other ≡ kind_of (binder_of ((name, binder) ∷ bindings) other) (bound around other)
    by other (inl same) =
        ap (bound (with_bound scope name to)) same.1 ∙ get_or-set_same scope name to binding.Unbound there
        ∙ sym (ap (λ t. kind_of (if t then Some binder else binder_of bindings other) (bound around other)) same.0 ∙ is (bound around other))
    by other (inr apart) = bound_other scope name other to apart.1 ∙ agrees.kinds other ∙ sym (ap (λ t. kind_of (if t then Some binder else binder_of bindings other) (bound around other)) apart.0)

module _ (count : ℕ) (around : Scope) (Meant : Use → Type 0) (step : (bindings : Bindings) (does : Action) (name : ℕ) (line : Line) → IsBound (occurrence line level.Body does (kind_of (binder_of bindings name) (bound around name))) → Meant (use_of bindings does name)) where
  -- a use in a body, and one that assigns nothing at any level
  use_meant : (scope : Scope) (bindings : Bindings) → Agrees count around scope bindings → (does : Action) (name : ℕ) (line : Line) → IsBound (occurrence line level.Body does (bound scope name)) → Meant (use_of bindings does name)
  use_meant scope bindings agrees does name line is = step bindings does name line (subst (λ to. IsBound (occurrence line level.Body does to)) (agrees.kinds name) is)

  module _ (line : Line) (at : Level) (scope : Scope) (bindings : Bindings) (agrees : Agrees count around scope bindings) where
    read_meant : (name : ℕ) → IsBound (occurrence line at action.ScalarRead (bound scope name)) → Meant (use_of bindings action.ScalarRead name)
    read_meant name is = use_meant scope bindings agrees action.ScalarRead name line (record { declared_once = is.declared_once; known = is.known; constant = is.constant; variables = is.variables; scheduled = refl })

    word_meant : (name : ℕ) → IsBound (occurrence line at action.WordRead (bound scope name)) → Meant (use_of bindings action.WordRead name)
    word_meant name is = use_meant scope bindings agrees action.WordRead name line (record { declared_once = is.declared_once; known = is.known; constant = is.constant; variables = is.variables; scheduled = refl })

    written_meant : (name : ℕ) → IsBound (occurrence line at action.WordWritten (bound scope name)) → Meant (use_of bindings action.WordWritten name)
    written_meant name is = use_meant scope bindings agrees action.WordWritten name line (record { declared_once = is.declared_once; known = is.known; constant = is.constant; variables = is.variables; scheduled = refl })

    abbrev reads : Expr → List Occurrence
    reads = read_in line at scope

    abbrev uses : Expr → List Use
    uses = uses_in_expr bindings

    abbrev ExprMeant : Expr → Type 0
    ExprMeant e = Each IsBound (reads e) → Each Meant (uses e)

    abbrev An_expr : Type 0
    An_expr = (e : Expr) × ExprMeant e

    both_meant : (xs ys : List Occurrence) (us vs : List Use) → (Each IsBound xs → Each Meant us) → (Each IsBound ys → Each Meant vs) → Each IsBound (xs ++ ys) → Each Meant (us ++ vs)
    both_meant xs ys us vs first second all = each_both Meant us vs (first (each_left IsBound xs ys all)) (second (each_right IsBound xs ys all))

    abbrev NodeMeant : Expr-F Expr → Type 0
    NodeMeant x = Each IsBound (read_node line at scope (map-Expr Expr (List Occurrence) reads x)) → Each Meant (reads_node bindings (map-Expr Expr (List Use) uses x))

    layer : (y : Expr-F An_expr) → NodeMeant (map-Expr An_expr Expr (λ q. q.0) y)
    layer (Expr-F.Number n) = λ all. tt
    layer (Expr-F.Scalar name) = λ all. (read_meant name all.0, tt)
    layer (Expr-F.Word array place) = λ all. (word_meant array all.0, place.1 all.1)
    layer (Expr-F.Unary op part) = part.1
    layer (Expr-F.Binary op left right) = both_meant (reads left.0) (reads right.0) (uses left.0) (uses right.0) left.1 right.1
    layer (Expr-F.Choice test first second) = both_meant (reads test.0) (reads first.0 ++ reads second.0) (uses test.0) (uses first.0 ++ uses second.0) test.1 (both_meant (reads first.0) (reads second.0) (uses first.0) (uses second.0) first.1 second.1)

    expr_meant : (e : Expr) → ExprMeant e
    expr_meant = ind-Expr ExprMeant (λ x y is.
        let here : NodeMeant x = subst NodeMeant is (layer y) in
        subst (λ os. Each IsBound os → Each Meant (uses (roll-Expr x))) (sym (fold-roll-Expr (List Occurrence) (read_node line at scope) x))
        (subst (λ us. Each IsBound (read_node line at scope (map-Expr Expr (List Occurrence) reads x)) → Each Meant us) (sym (fold-roll-Expr (List Use) (reads_node bindings) x)) here))

    pub write_meant : (array : ℕ) (p : Expr) (o : Op) (e : Expr) → Each IsBound (in_stmt (stmt.Write line array p o e) at scope).occurrences → Each Meant (used_by (stmt.Write line array p o e) bindings).uses
    write_meant array p o e all =
        let parts : Each IsBound (occurrence line at action.WordWritten (bound scope array) ∷ (reads p ++ reads e)) = subst (Each IsBound) (occurrences-write at scope line array p o e) all in
        subst (Each Meant) (sym (ap (λ u. u.uses) (used-write bindings line array p o e))) (written_meant array parts.0, both_meant (reads p) (reads e) (uses p) (uses e) (expr_meant p) (expr_meant e) parts.1)

  -- a statement in a body
  abbrev StmtMeant : Stmt → Type 0
  StmtMeant s = (scope : Scope) (bindings : Bindings) → Agrees count around scope bindings → IsTrue (named count s) → Each IsBound (in_stmt s level.Body scope).occurrences
      → Each Meant (used_by s bindings).uses × Agrees count around (in_stmt s level.Body scope).behind (used_by s bindings).behind

  abbrev BlockMeant : List Stmt → Type 0
  BlockMeant stmts = (scope : Scope) (bindings : Bindings) → Agrees count around scope bindings → IsTrue (all_named count stmts) → Each IsBound (in_block stmts level.Body scope) → Each Meant (uses_in stmts bindings)

  block_meant : (stmts : List Stmt) → Each StmtMeant stmts → BlockMeant stmts
  block_meant [] each scope bindings agrees names all = tt
  block_meant (s ∷ stmts) each scope bindings agrees names all =
      let here : List Occurrence = (in_stmt s level.Body scope).occurrences in
      let behind : Scope = (in_stmt s level.Body scope).behind in
      let parts = and_parts (named count s) (all_named count stmts) names in
      let first = each.0 scope bindings agrees parts.0 (each_left IsBound here (in_block stmts level.Body behind) all) in
      each_both Meant (used_by s bindings).uses (uses_in stmts (used_by s bindings).behind) first.0
      (block_meant stmts each.1 behind (used_by s bindings).behind first.1 parts.1 (each_right IsBound here (in_block stmts level.Body behind) all))

  arms_meant : (arms : List Arm) → Each (λ (a : Arm). Each StmtMeant a.body) arms → (scope : Scope) (bindings : Bindings) → Agrees count around scope bindings → IsTrue (list_all (λ a. a) (map (named_arm count) arms)) → Each IsBound (in_same_scope (map in_arm arms) level.Body scope)
      → Each Meant (in_arms (map uses_in_arm arms) bindings)
  arms_meant [] each scope bindings agrees names all = tt
  arms_meant (a ∷ arms) each scope bindings agrees names all =
      let rest : List Occurrence = in_same_scope (map in_arm arms) level.Body scope in
      let parts = and_parts (named_arm count a) (list_all (λ a. a) (map (named_arm count) arms)) names in
      let inside = and_parts (expr_named count a.test) (all_named count a.body) (subst IsTrue (named_arm-is count a) parts.0) in
      let test : List Occurrence = read_in a.line level.Body scope a.test in
      let here : Each IsBound (test ++ in_block a.body level.Body scope) = subst (Each IsBound) (occurrences-arm level.Body scope a) (each_left IsBound (in_arm a level.Body scope) rest all) in
      each_both Meant (uses_in_arm a bindings) (in_arms (map uses_in_arm arms) bindings)
      (subst (Each Meant) (sym (uses_in_arm-is bindings a))
      (each_both Meant (uses_in_expr bindings a.test) (uses_in a.body bindings)
      (expr_meant a.line level.Body scope bindings agrees a.test (each_left IsBound test (in_block a.body level.Body scope) here))
      (block_meant a.body each.0 scope bindings agrees inside.1 (each_right IsBound test (in_block a.body level.Body scope) here))))
      (arms_meant arms each.1 scope bindings agrees parts.1 (each_right IsBound (in_arm a level.Body scope) rest all))

  pub loop_meant : (l : Loop) (binder : Binder) → ((outside : Binding) → kind_of (Some binder) outside ≡ binding.LoopVariable) → Each StmtMeant l.body → (scope : Scope) (bindings : Bindings) → Agrees count around scope bindings → IsTrue (loop_named count l) → Each IsBound (in_loop l level.Body scope)
      → Each Meant (uses_in_loop l binder bindings)
  loop_meant l binder is in_body scope bindings agrees names all =
      let inside : Scope = with_bound scope l.name binding.LoopVariable in
      let within : Bindings = (l.name, binder) ∷ bindings in
      let low : List Occurrence = read_in l.line level.Body scope l.low in
      let high : List Occurrence = read_in l.line level.Body inside l.high in
      let body : List Occurrence = in_block l.body level.Body inside in
      let parts : Each IsBound (occurrence l.line level.Body action.Declared (bound scope l.name) ∷ (low ++ (high ++ body))) = subst (Each IsBound) (occurrences-loop level.Body scope l) all in
      let a = and_parts (nat_lt l.name count) (expr_named count l.low && (expr_named count l.high && all_named count l.body)) (subst IsTrue (loop_named-is count l) names) in
      let b = and_parts (expr_named count l.low) (expr_named count l.high && all_named count l.body) a.1 in
      let c = and_parts (expr_named count l.high) (all_named count l.body) b.1 in
      let agrees_within : Agrees count around inside within = agrees_with count around scope bindings l.name binder binding.LoopVariable is a.0 agrees in
      let rest : Each IsBound (high ++ body) = each_right IsBound low (high ++ body) parts.1 in
      subst (Each Meant) (sym (uses_in_loop-is bindings l binder)) (
        use_meant scope bindings agrees action.Declared l.name l.line parts.0,
        each_both Meant (uses_in_expr bindings l.low) (uses_in_expr within l.high ++ uses_in l.body within)
            (expr_meant l.line level.Body scope bindings agrees l.low (each_left IsBound low (high ++ body) parts.1))
            (each_both Meant (uses_in_expr within l.high) (uses_in l.body within)
            (expr_meant l.line level.Body inside within agrees_within l.high (each_left IsBound high body rest))
            (block_meant l.body in_body inside within agrees_within c.1 (each_right IsBound high body rest))),
      )

  stmt_meant : (s : Stmt) → StmtMeant s
  stmt_meant = stmt_induction StmtMeant
      (λ line name e scope bindings agrees names all.
      let parts : Each IsBound (occurrence line level.Body action.Declared (bound scope name) ∷ read_in line level.Body scope e) = subst (Each IsBound) (occurrences-declare level.Body scope line name e) all in
      let inside = and_parts (nat_lt name count) (expr_named count e) (subst IsTrue (named-declare count line name e) names) in (
        subst (Each Meant) (sym (ap (λ u. u.uses) (used-declare bindings line name e))) (use_meant scope bindings agrees action.Declared name line parts.0, expr_meant line level.Body scope bindings agrees e parts.1),
        subst (λ s. Agrees count around s (used_by (stmt.Declare line name e) bindings).behind) (sym (behind-declare level.Body scope line name e))
            (subst (Agrees count around (with_bound scope name binding.Local)) (sym (ap (λ u. u.behind) (used-declare bindings line name e)))
            (agrees_with count around scope bindings name (Declaration line e) binding.Local (λ outside. refl) inside.0 agrees)),
      ))
      (λ line name o e scope bindings agrees names all.
      let parts : Each IsBound (occurrence line level.Body action.Assigned (bound scope name) ∷ read_in line level.Body scope e) = subst (Each IsBound) (occurrences-assign level.Body scope line name o e) all in (
        subst (Each Meant) (sym (ap (λ u. u.uses) (used-assign bindings line name o e))) (use_meant scope bindings agrees action.Assigned name line parts.0, expr_meant line level.Body scope bindings agrees e parts.1),
        subst (λ s. Agrees count around s (used_by (stmt.Assign line name o e) bindings).behind) (sym (behind-assign level.Body scope line name o e)) (subst (Agrees count around scope) (sym (ap (λ u. u.behind) (used-assign bindings line name o e))) agrees),
      ))
      (λ line array p o e scope bindings agrees names all. (
        write_meant line level.Body scope bindings agrees array p o e all,
        subst (λ s. Agrees count around s (used_by (stmt.Write line array p o e) bindings).behind) (sym (behind-write level.Body scope line array p o e)) (subst (Agrees count around scope) (sym (ap (λ u. u.behind) (used-write bindings line array p o e))) agrees),
      ))
      (λ arms other in_arms in_other scope bindings agrees names all.
      let first : List Occurrence = in_same_scope (map in_arm arms) level.Body scope in
      let parts : Each IsBound (first ++ in_block other level.Body scope) = subst (Each IsBound) (occurrences-if level.Body scope arms other) all in
      let inside = and_parts (list_all (λ a. a) (map (named_arm count) arms)) (all_named count other) (subst IsTrue (named-if count arms other) names) in (
        subst (Each Meant) (sym (ap (λ u. u.uses) (used-if bindings arms other)))
            (each_both Meant _ (uses_in other bindings)
            (arms_meant arms in_arms scope bindings agrees inside.0 (each_left IsBound first (in_block other level.Body scope) parts))
            (block_meant other in_other scope bindings agrees inside.1 (each_right IsBound first (in_block other level.Body scope) parts))),
        subst (λ s. Agrees count around s (used_by (stmt.If arms other) bindings).behind) (sym (behind-if level.Body scope arms other)) (subst (Agrees count around scope) (sym (ap (λ u. u.behind) (used-if bindings arms other))) agrees),
      ))
      (λ l in_body scope bindings agrees names all. (
        subst (Each Meant) (sym (ap (λ u. u.uses) (used-loop bindings l))) (loop_meant l (Inside l) (λ outside. refl) in_body scope bindings agrees (subst IsTrue (named-loop count l) names) (subst (Each IsBound) (loop_is level.Body l scope) all)),
        subst (λ s. Agrees count around s (used_by (stmt.Loop l) bindings).behind) (sym (behind-loop level.Body scope l)) (subst (Agrees count around scope) (sym (ap (λ u. u.behind) (used-loop bindings l))) agrees),
      ))

  each_meant : (stmts : List Stmt) → Each StmtMeant stmts
  each_meant [] = tt
  each_meant (s ∷ stmts) = (stmt_meant s, each_meant stmts)

  pub names_meant : (stmts : List Stmt) → BlockMeant stmts
  names_meant stmts = block_meant stmts (each_meant stmts)
