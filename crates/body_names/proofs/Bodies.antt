-- What the names of a body are, part by part.
use Rattle.std.proofs.Common.{◌≡◌, ◌≢◌, ℕ, true, false, List, [], ◌∷◌, ◌++◌, map, refl, sym, subst}
use Rattle.std.specs.List.{concat, list_any}
use Rattle.nest_syntax.specs.declared.names.Line.{Line}
use Rattle.nest_syntax.specs.declared.tree.Expr.{Expr, roll-Expr}
use Rattle.nest_syntax.specs.declared.tree.Expr.TheOpen.{Expr-F}
use Rattle.nest_syntax.specs.declared.tree.Expr.TheFolds.{map-Expr, fold-roll-Expr, ind-Expr}
use Rattle.nest_syntax.specs.declared.tree.Arm.{Arm, roll-Arm}
use Rattle.nest_syntax.specs.declared.tree.Loop.{Loop, roll-Loop}
use Rattle.nest_syntax.specs.declared.tree.Stmt.{Stmt, roll-Stmt}
use Rattle.nest_syntax.specs.declared.tree.Stmt.TheOpen.{Stmt-F, Arm-F, Loop-F}
use Rattle.nest_syntax.specs.declared.tree.Stmt.TheFolds.{map-Stmt, map-Arm, map-Loop, ind-Stmt, fold-roll-Stmt, fold-roll-Arm, fold-roll-Loop}
use Rattle.nest_syntax.specs.Among.{is_among}
use Rattle.nest_syntax.specs.Locals.{given, given_node, given_arm_node, given_loop_node, given_in_arm, given_in_loop}
use Rattle.nest_scope.specs.declared.occurrences.Binding.TheVariants as binding
use Rattle.nest_scope.specs.declared.occurrences.Level.{Level}
use Rattle.nest_scope.specs.declared.occurrences.Level.TheVariants as level
use Rattle.nest_scope.specs.declared.occurrences.Action.TheVariants as action
use Rattle.nest_scope.specs.declared.occurrences.Occurrence.{Occurrence}
use Rattle.nest_scope.specs.Occurrences.{Scope, Walk, Listing, bound, with_bound, inner, declared_at, variable_at, occurrence, read_node, read_in, block, in_same_scope, stmt_node, arm_node, loop_node, in_stmt, in_arm, in_loop, in_block}
use Rattle.nest_scope.specs.Rules.{redeclares, uses_unknown, is_redeclared, is_no_scalar}
use Rattle.body_names.specs.Uses.{reads_node, scalars_read, uses, uses_node, uses_arm_node, uses_loop_node, uses_in_arm, uses_in_loop}
use Rattle.body_names.specs.Laws.{KeepsNames, IsLocalOrOutside}
use Rattle.body_names.proofs.Names.{left_false, right_false, none_left, none_right, out_left, out_right, in_either, in_none, in_one, out_one, bound_other, unbound_before, declared_once}

-- what these occurrences read is bound to scalars in the scope
abbrev AllKnown : Scope → List Occurrence → List ℕ → Type 0
AllKnown scope occurrences names = (name : ℕ) → list_any uses_unknown occurrences ≡ false → is_among names name ≡ true → is_no_scalar (bound scope name) ≡ false

known_both : (scope : Scope) (xs ys : List Occurrence) (names others : List ℕ) → AllKnown scope xs names → AllKnown scope ys others → AllKnown scope (xs ++ ys) (names ++ others)
known_both scope xs ys names others first second name known among =
    in_either names others name among (first name (none_left uses_unknown xs ys known)) (second name (none_right uses_unknown xs ys known))

-- an expression
module _ (line : Line) (at : Level) (scope : Scope) where
  abbrev ExprKnown : Expr → Type 0
  ExprKnown e = AllKnown scope (read_in line at scope e) (scalars_read e)

  abbrev An_expr : Type 0
  An_expr = (e : Expr) × ExprKnown e

  abbrev NodeKnown : Expr-F Expr → Type 0
  NodeKnown x = AllKnown scope (read_node line at scope (map-Expr Expr (List Occurrence) (read_in line at scope) x)) (reads_node (map-Expr Expr (List ℕ) scalars_read x))

  expr_layer : (y : Expr-F An_expr) → NodeKnown (map-Expr An_expr Expr (λ e. e.0) y)
  expr_layer (Expr-F.Number n) = λ name known among. in_none name among
  expr_layer (Expr-F.Scalar one) = λ name known among. subst (λ n. is_no_scalar (bound scope n) ≡ false) (sym (in_one name one among)) (left_false (is_no_scalar (bound scope one)) false known)
  expr_layer (Expr-F.Word array place) = λ name known among. place.1 name (right_false (uses_unknown (occurrence line at action.WordRead (bound scope array))) (list_any uses_unknown (read_in line at scope place.0)) known) among
  expr_layer (Expr-F.Unary op part) = part.1
  expr_layer (Expr-F.Binary op left right) = known_both scope (read_in line at scope left.0) (read_in line at scope right.0) (scalars_read left.0) (scalars_read right.0) left.1 right.1
  expr_layer (Expr-F.Choice test first second) = known_both scope (read_in line at scope test.0) (read_in line at scope first.0 ++ read_in line at scope second.0) (scalars_read test.0) (scalars_read first.0 ++ scalars_read second.0) test.1
      (known_both scope (read_in line at scope first.0) (read_in line at scope second.0) (scalars_read first.0) (scalars_read second.0) first.1 second.1)

  expr_known : (e : Expr) → ExprKnown e
  expr_known = ind-Expr ExprKnown (λ x y is.
      let here : NodeKnown x = subst NodeKnown is (expr_layer y) in
      subst (λ os. AllKnown scope os (scalars_read (roll-Expr x))) (sym (fold-roll-Expr (List Occurrence) (read_node line at scope) x))
      (subst (AllKnown scope (read_node line at scope (map-Expr Expr (List Occurrence) (read_in line at scope) x))) (sym (fold-roll-Expr (List ℕ) reads_node x)) here))

-- An arm, a loop or a block: its locals are unbound before it, and what else it uses is bound to scalars there.
pub record Listed (listing : Listing) (locals names : List ℕ) : Type 0 where
  pub unbound : (at : Level) (scope : Scope) (name : ℕ) → list_any redeclares (listing at scope) ≡ false → is_among locals name ≡ true → bound scope name ≡ binding.Unbound
  pub known : (at : Level) (scope : Scope) (name : ℕ) → list_any uses_unknown (listing at scope) ≡ false → is_among locals name ≡ false → is_among names name ≡ true → is_no_scalar (bound scope name) ≡ false

-- The same of a statement; and behind it no name is unbound that was bound, and no name but its locals is bound anew.
pub record Stands (walk : Walk) (locals names : List ℕ) : Type 0 where
  pub listed : Listed (λ at scope. (walk at scope).occurrences) locals names
  pub before : (at : Level) (scope : Scope) (name : ℕ) → bound (walk at scope).behind name ≡ binding.Unbound → bound scope name ≡ binding.Unbound
  pub same : (at : Level) (scope : Scope) (name : ℕ) → is_among locals name ≡ false → bound (walk at scope).behind name ≡ bound scope name

-- what leaves the scope as it was
stands_still : (listing : Listing) (locals names : List ℕ) → Listed listing locals names → Stands (λ at scope. record { occurrences = listing at scope; behind = scope }) locals names
stands_still listing locals names listed = record { listed = record { unbound = listed.unbound; known = listed.known }; before = λ at scope name is. is; same = λ at scope name out. refl }

nothing_listed : Listed (λ at scope. []) [] []
nothing_listed = record { unbound = λ at scope name once among. in_none name among; known = λ at scope name known out among. in_none name among }

-- two parts in one scope, and a statement before others
module _ (part : Listing) (locals names : List ℕ) (listed : Listed part locals names) (rest : Listing) (locals' names' : List ℕ) (others : Listed rest locals' names') where
  both_listed : Listed (λ at scope. part at scope ++ rest at scope) (locals ++ locals') (names ++ names')
  both_listed = record {
    unbound = λ at scope name once among. in_either locals locals' name among
        (listed.unbound at scope name (none_left redeclares (part at scope) (rest at scope) once))
        (others.unbound at scope name (none_right redeclares (part at scope) (rest at scope) once));
    known = λ at scope name known out among. in_either names names' name among
        (listed.known at scope name (none_left uses_unknown (part at scope) (rest at scope) known) (out_left locals locals' name out))
        (others.known at scope name (none_right uses_unknown (part at scope) (rest at scope) known) (out_right locals locals' name out));
  }

module _ (walk : Walk) (locals names : List ℕ) (stands : Stands walk locals names) (rest : Listing) (locals' names' : List ℕ) (others : Listed rest locals' names') where
  before_listed : Listed (λ at scope. (walk at scope).occurrences ++ rest at (walk at scope).behind) (locals ++ locals') (names ++ names')
  before_listed = record {
    unbound = λ at scope name once among.
        let here = (walk at scope).occurrences in
        let there = rest at (walk at scope).behind in
        in_either locals locals' name among (stands.listed.unbound at scope name (none_left redeclares here there once))
        (λ other. stands.before at scope name (others.unbound at (walk at scope).behind name (none_right redeclares here there once) other));
    known = λ at scope name known out among.
        let here = (walk at scope).occurrences in
        let there = rest at (walk at scope).behind in
        let not_here = out_left locals locals' name out in
        in_either names names' name among (stands.listed.known at scope name (none_left uses_unknown here there known) not_here)
        (λ other. subst (λ b. is_no_scalar b ≡ false) (stands.same at scope name not_here) (others.known at (walk at scope).behind name (none_right uses_unknown here there known) (out_right locals locals' name out) other));
  }

abbrev StmtStands : Stmt → Type 0
StmtStands s = Stands (in_stmt s) (given false s) (uses s)

abbrev ArmListed : Arm → Type 0
ArmListed r = Listed (in_arm r) (given_in_arm false r) (uses_in_arm r)

abbrev LoopListed : Loop → Type 0
LoopListed l = Listed (in_loop l) (given_in_loop false l) (uses_in_loop l)

abbrev A_stmt : Type 0
A_stmt = (s : Stmt) × StmtStands s

abbrev An_arm : Type 0
An_arm = (r : Arm) × ArmListed r

abbrev A_loop : Type 0
A_loop = (l : Loop) × LoopListed l

block_listed : (stmts : List A_stmt) → Listed (block (map in_stmt (map (λ q. q.0) stmts))) (concat (map (given false) (map (λ q. q.0) stmts))) (concat (map uses (map (λ q. q.0) stmts)))
block_listed [] = record { unbound = nothing_listed.unbound; known = nothing_listed.known }
block_listed (q ∷ qs) =
    let all = before_listed (in_stmt q.0) (given false q.0) (uses q.0) q.1 (block (map in_stmt (map (λ p. p.0) qs))) (concat (map (given false) (map (λ p. p.0) qs))) (concat (map uses (map (λ p. p.0) qs))) (block_listed qs) in
    record { unbound = all.unbound; known = all.known }

arms_listed : (arms : List An_arm) → Listed (in_same_scope (map in_arm (map (λ q. q.0) arms))) (concat (map (given_in_arm false) (map (λ q. q.0) arms))) (concat (map uses_in_arm (map (λ q. q.0) arms)))
arms_listed [] = record { unbound = nothing_listed.unbound; known = nothing_listed.known }
arms_listed (q ∷ qs) =
    let all = both_listed (in_arm q.0) (given_in_arm false q.0) (uses_in_arm q.0) q.1 (in_same_scope (map in_arm (map (λ p. p.0) qs))) (concat (map (given_in_arm false) (map (λ p. p.0) qs))) (concat (map uses_in_arm (map (λ p. p.0) qs))) (arms_listed qs) in
    record { unbound = all.unbound; known = all.known }

-- an expression has no locals
expr_listed : (line : Line) (e : Expr) → Listed (λ at scope. read_in line at scope e) [] (scalars_read e)
expr_listed line e = record { unbound = λ at scope name once among. in_none name among; known = λ at scope name known out among. expr_known line at scope e name known among }

-- what is declared is bound
declares : (at : Level) → declared_at at ≢ binding.Unbound
declares level.Outside e = cc
declares level.Items e = cc
declares level.Body e = cc

varies : (at : Level) → variable_at at ≢ binding.Unbound
varies level.Outside e = cc
varies level.Items e = cc
varies level.Body e = cc

-- one layer of a statement
abbrev StmtNode : Stmt-F Stmt Arm Loop → Type 0
StmtNode x = Stands (stmt_node (map-Stmt Stmt Arm Loop Walk Listing Listing in_stmt in_arm in_loop x)) (given_node false (map-Stmt Stmt Arm Loop (List ℕ) (List ℕ) (List ℕ) (given false) (given_in_arm false) (given_in_loop false) x)) (uses_node (map-Stmt Stmt Arm Loop (List ℕ) (List ℕ) (List ℕ) uses uses_in_arm uses_in_loop x))

stmt_layer : (y : Stmt-F A_stmt An_arm A_loop) → StmtNode (map-Stmt A_stmt An_arm A_loop Stmt Arm Loop (λ q. q.0) (λ q. q.0) (λ q. q.0) y)
stmt_layer (Stmt-F.Declare line one e) = record {
  listed = record {
    unbound = λ at scope name once among. subst (λ n. bound scope n ≡ binding.Unbound) (sym (in_one name one among)) (declared_once (bound scope one) (left_false (is_redeclared action.Declared (bound scope one)) (list_any redeclares (read_in line at scope e)) once));
    known = λ at scope name known out among. expr_known line at scope e name known among;
  };
  before = λ at scope name is. unbound_before scope one name (declared_at at) (declares at) is;
  same = λ at scope name out. bound_other scope one name (declared_at at) (out_one name one out);
}
stmt_layer (Stmt-F.Assign line one o e) = stands_still (λ at scope. occurrence line at action.Assigned (bound scope one) ∷ read_in line at scope e) [] (one ∷ scalars_read e) (record {
  unbound = λ at scope name once among. in_none name among;
  known = λ at scope name known out among. in_either (one ∷ []) (scalars_read e) name among
      (λ here. subst (λ n. is_no_scalar (bound scope n) ≡ false) (sym (in_one name one here)) (left_false (is_no_scalar (bound scope one)) (list_any uses_unknown (read_in line at scope e)) known))
      (expr_known line at scope e name (right_false (is_no_scalar (bound scope one)) (list_any uses_unknown (read_in line at scope e)) known));
})
stmt_layer (Stmt-F.Write line array place o e) = stands_still (λ at scope. occurrence line at action.WordWritten (bound scope array) ∷ (read_in line at scope place ++ read_in line at scope e)) [] (scalars_read place ++ scalars_read e) (record {
  unbound = λ at scope name once among. in_none name among;
  known = λ at scope name known out among.
      known_both scope (read_in line at scope place) (read_in line at scope e) (scalars_read place) (scalars_read e) (expr_known line at scope place) (expr_known line at scope e) name
      (right_false (uses_unknown (occurrence line at action.WordWritten (bound scope array))) (list_any uses_unknown (read_in line at scope place ++ read_in line at scope e)) known) among;
})
stmt_layer (Stmt-F.If arms other) =
    let first = in_same_scope (map in_arm (map (λ q. q.0) arms)) in
    let second = block (map in_stmt (map (λ q. q.0) other)) in
    stands_still (λ at scope. first at scope ++ second at scope)
    (concat (map (given_in_arm false) (map (λ q. q.0) arms)) ++ concat (map (given false) (map (λ q. q.0) other)))
    (concat (map uses_in_arm (map (λ q. q.0) arms)) ++ concat (map uses (map (λ q. q.0) other)))
    (both_listed first (concat (map (given_in_arm false) (map (λ q. q.0) arms))) (concat (map uses_in_arm (map (λ q. q.0) arms))) (arms_listed arms)
    second (concat (map (given false) (map (λ q. q.0) other))) (concat (map uses (map (λ q. q.0) other))) (block_listed other))
stmt_layer (Stmt-F.Loop l) = stands_still (in_loop l.0) (given_in_loop false l.0) (uses_in_loop l.0) l.1

stmt_step : (x : Stmt-F Stmt Arm Loop) (y : Stmt-F A_stmt An_arm A_loop) → map-Stmt A_stmt An_arm A_loop Stmt Arm Loop (λ q. q.0) (λ q. q.0) (λ q. q.0) y ≡ x → StmtStands (roll-Stmt x)
stmt_step x y is =
    subst (λ w. Stands w (given false (roll-Stmt x)) (uses (roll-Stmt x))) (sym (fold-roll-Stmt Walk Listing Listing stmt_node arm_node loop_node x))
    (subst (λ ls. Stands (stmt_node (map-Stmt Stmt Arm Loop Walk Listing Listing in_stmt in_arm in_loop x)) ls (uses (roll-Stmt x))) (sym (fold-roll-Stmt (List ℕ) (List ℕ) (List ℕ) (given_node false) given_arm_node given_loop_node x))
    (subst (Stands (stmt_node (map-Stmt Stmt Arm Loop Walk Listing Listing in_stmt in_arm in_loop x)) (given_node false (map-Stmt Stmt Arm Loop (List ℕ) (List ℕ) (List ℕ) (given false) (given_in_arm false) (given_in_loop false) x))) (sym (fold-roll-Stmt (List ℕ) (List ℕ) (List ℕ) uses_node uses_arm_node uses_loop_node x))
    (subst StmtNode is (stmt_layer y))))

-- of an arm
abbrev BlockListed : List Stmt → Type 0
BlockListed stmts = Listed (block (map in_stmt stmts)) (concat (map (given false) stmts)) (concat (map uses stmts))

abbrev arm_listing : Arm-F Stmt Arm Loop → Listing
arm_listing x at scope = read_in x.line at scope x.test ++ block (map in_stmt x.body) at scope

arm_layer : (x : Arm-F Stmt Arm Loop) → BlockListed x.body → Listed (arm_listing x) (concat (map (given false) x.body)) (scalars_read x.test ++ concat (map uses x.body))
arm_layer x body = both_listed (λ at scope. read_in x.line at scope x.test) [] (scalars_read x.test) (expr_listed x.line x.test) (block (map in_stmt x.body)) (concat (map (given false) x.body)) (concat (map uses x.body)) body

arm_step : (x : Arm-F Stmt Arm Loop) (y : Arm-F A_stmt An_arm A_loop) → map-Arm A_stmt An_arm A_loop Stmt Arm Loop (λ q. q.0) (λ q. q.0) (λ q. q.0) y ≡ x → ArmListed (roll-Arm x)
arm_step x y is =
    subst (λ w. Listed w (given_in_arm false (roll-Arm x)) (uses_in_arm (roll-Arm x))) (sym (fold-roll-Arm Walk Listing Listing stmt_node arm_node loop_node x))
    (subst (λ ls. Listed (arm_listing x) ls (uses_in_arm (roll-Arm x))) (sym (fold-roll-Arm (List ℕ) (List ℕ) (List ℕ) (given_node false) given_arm_node given_loop_node x))
    (subst (Listed (arm_listing x) (concat (map (given false) x.body))) (sym (fold-roll-Arm (List ℕ) (List ℕ) (List ℕ) uses_node uses_arm_node uses_loop_node x))
    (arm_layer x (subst (λ (z : Arm-F Stmt Arm Loop). BlockListed z.body) is (block_listed y.body)))))

-- of a loop
abbrev loop_listing : Loop-F Stmt Arm Loop → Listing
loop_listing x = loop_node (map-Loop Stmt Arm Loop Walk Listing Listing in_stmt in_arm in_loop x)

loop_layer : (x : Loop-F Stmt Arm Loop) → BlockListed x.body → Listed (loop_listing x) (x.name ∷ concat (map (given false) x.body)) (scalars_read x.low ++ (scalars_read x.high ++ concat (map uses x.body)))
loop_layer x body = record {
  unbound = λ at scope name once among.
      let inside = with_bound scope x.name (variable_at at) in
      let low = read_in x.line at scope x.low in
      let high = read_in x.line at inside x.high in
      let rest = block (map in_stmt x.body) (inner at) inside in
      in_either (x.name ∷ []) (concat (map (given false) x.body)) name among
      (λ here. subst (λ n. bound scope n ≡ binding.Unbound) (sym (in_one name x.name here)) (declared_once (bound scope x.name) (left_false (is_redeclared action.Declared (bound scope x.name)) (list_any redeclares (low ++ (high ++ rest))) once)))
      (λ there. unbound_before scope x.name name (variable_at at) (varies at)
      (body.unbound (inner at) inside name (none_right redeclares high rest (none_right redeclares low (high ++ rest) (right_false (is_redeclared action.Declared (bound scope x.name)) (list_any redeclares (low ++ (high ++ rest))) once))) there));
  known = λ at scope name known out among.
      let inside = with_bound scope x.name (variable_at at) in
      let low = read_in x.line at scope x.low in
      let high = read_in x.line at inside x.high in
      let rest = block (map in_stmt x.body) (inner at) inside in
      let same = bound_other scope x.name name (variable_at at) (out_one name x.name (out_left (x.name ∷ []) (concat (map (given false) x.body)) name out)) in
      let behind : list_any uses_unknown (high ++ rest) ≡ false = none_right uses_unknown low (high ++ rest) known in
      in_either (scalars_read x.low) (scalars_read x.high ++ concat (map uses x.body)) name among
      (expr_known x.line at scope x.low name (none_left uses_unknown low (high ++ rest) known))
      (λ others. subst (λ b. is_no_scalar b ≡ false) same (in_either (scalars_read x.high) (concat (map uses x.body)) name others
      (expr_known x.line at inside x.high name (none_left uses_unknown high rest behind))
      (body.known (inner at) inside name (none_right uses_unknown high rest behind) (out_right (x.name ∷ []) (concat (map (given false) x.body)) name out))));
}

loop_step : (x : Loop-F Stmt Arm Loop) (y : Loop-F A_stmt An_arm A_loop) → map-Loop A_stmt An_arm A_loop Stmt Arm Loop (λ q. q.0) (λ q. q.0) (λ q. q.0) y ≡ x → LoopListed (roll-Loop x)
loop_step x y is =
    subst (λ w. Listed w (given_in_loop false (roll-Loop x)) (uses_in_loop (roll-Loop x))) (sym (fold-roll-Loop Walk Listing Listing stmt_node arm_node loop_node x))
    (subst (λ ls. Listed (loop_listing x) ls (uses_in_loop (roll-Loop x))) (sym (fold-roll-Loop (List ℕ) (List ℕ) (List ℕ) (given_node false) given_arm_node given_loop_node x))
    (subst (Listed (loop_listing x) (x.name ∷ concat (map (given false) x.body))) (sym (fold-roll-Loop (List ℕ) (List ℕ) (List ℕ) uses_node uses_arm_node uses_loop_node x))
    (loop_layer x (subst (λ (z : Loop-F Stmt Arm Loop). BlockListed z.body) is (block_listed y.body)))))

stmt_stands : (s : Stmt) → StmtStands s
stmt_stands = ind-Stmt StmtStands ArmListed LoopListed stmt_step arm_step loop_step

body_listed : (body : List Stmt) → BlockListed body
body_listed [] = record { unbound = nothing_listed.unbound; known = nothing_listed.known }
body_listed (s ∷ ss) =
    let all = before_listed (in_stmt s) (given false s) (uses s) (stmt_stands s) (block (map in_stmt ss)) (concat (map (given false) ss)) (concat (map uses ss)) (body_listed ss) in
    record { unbound = all.unbound; known = all.known }

pub names_are : (body : List Stmt) (at : Level) (scope : Scope) → KeepsNames (in_block body at scope) → (name : ℕ) → IsLocalOrOutside body scope name
names_are body at scope kept name = let listed = body_listed body in record {
  local = listed.unbound at scope name kept.once;
  outside = listed.known at scope name kept.known;
}
