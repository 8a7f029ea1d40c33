-- Which bodies can be compiled: an expression of depth 16 needs 15 temporaries and an operand, and loops down to depth 4 keep
-- four, so that 32 suffice.
use Rattle.std.proofs.Common.{◌≡◌, ℕ, zero, suc, ◌+◌, ◌<◌, ◌≤◌, max, Bool, true, false, ◌&&◌, ◌||◌, ◌==◌, nat_lt, if◌then◌else◌, List, [], ◌∷◌, ◌++◌, map, refl, sym, ap, ◌∙◌, subst, arith}
use Rattle.std.specs.Prelude.{IsTrue, is_some}
use Rattle.std.specs.List.{list_all, concat, flat_map, filter}
use Rattle.std.proofs.lemmas.Bool.{lt-ltb, ltb-false}
use Rattle.nest_syntax.specs.declared.names.Line.{Line}
use Rattle.nest_syntax.specs.declared.tree.Expr.{Expr, roll-Expr}
use Rattle.nest_syntax.specs.declared.tree.Expr.TheOpen.{Expr-F}
use Rattle.nest_syntax.specs.declared.tree.Expr.TheFolds.{map-Expr, fold-roll-Expr, ind-Expr}
use Rattle.nest_syntax.specs.declared.tree.Arm.{Arm, roll-Arm}
use Rattle.nest_syntax.specs.declared.tree.Loop.{Loop, roll-Loop}
use Rattle.nest_syntax.specs.declared.tree.Stmt.{Stmt, roll-Stmt}
use Rattle.nest_syntax.specs.declared.tree.Stmt.TheOpen.{Stmt-F, Arm-F, Loop-F}
use Rattle.nest_syntax.specs.declared.tree.Stmt.TheFolds.{map-Stmt, map-Arm, map-Loop, ind-Stmt, fold-roll-Stmt, fold-roll-Arm, fold-roll-Loop}
use Rattle.nest_syntax.specs.declared.tree.Program.{Program}
use Rattle.nest_syntax.specs.Among.{Each}
use Rattle.nest_syntax.specs.Locals.{given, given_node, given_arm_node, given_loop_node, given_in_arm, given_in_loop, names_given}
use Rattle.nest_syntax.specs.Lowest.{lines_where}
use Rattle.nest_syntax.proofs.Inductions.{each_left, each_right}
use Rattle.nest_check.specs.Declarations.{index_of_name}
use Rattle.nest_check.specs.Parts.{Part, ALoop, AnExpression, Parts_at, all_at, depth, depth_node, parts_node, arm_parts_node, loop_parts_node, parts, parts_in_arm, parts_in_loop}
use Rattle.nest_check.specs.Rules.{part_line, has_wrong_step, is_deep_loop, is_deep}
use Rattle.body_names.specs.Uses.{reads_node, scalars_read, uses_node, uses_arm_node, uses_loop_node, uses, uses_in_arm, uses_in_loop, names_used}
use Rattle.task_code.specs.Ready.{register_of, ready_node, expr_ready, ready_stmt_node, ready_arm_node, ready_loop_node, stmt_ready, arm_ready, loop_ready, block_ready}

both_true : (a b : Bool) → IsTrue a → IsTrue b → IsTrue (a && b)
both_true true b p q = q
both_true false b p q = p

left_false : (a b : Bool) → (a || b) ≡ false → a ≡ false
left_false true b e = e
left_false false b e = refl

-- what no line breaks, no item does
pub none_where : {A : Type 0} (line : A → Line) (breaks : A → Bool) (x : A) (xs : List A) → lines_where line breaks (x ∷ xs) ≡ [] → (breaks x ≡ false) × (lines_where line breaks xs ≡ [])
none_where line breaks x xs none = by (breaks x) refl none where
  by : (b : Bool) → breaks x ≡ b → map line (if b then x ∷ filter breaks xs else filter breaks xs) ≡ [] → (breaks x ≡ false) × (lines_where line breaks xs ≡ [])
  by true is none' = absurd cc
  by false is none' = (is, none')

-- the rules on steps and depths
abbrev pub PartFits : Part → Type 0
PartFits (ALoop line step at) = (0 < step) × (at ≤ 4)
PartFits (AnExpression line e) = depth e ≤ 16

not_zero : (n : ℕ) → (n == 0) ≡ false → 0 < n
not_zero zero e = absurd cc
not_zero (suc n) e = omega arith

part_fits : (p : Part) → has_wrong_step p ≡ false → is_deep_loop p ≡ false → is_deep p ≡ false → PartFits p
part_fits (ALoop line step at) step_kept level_kept depth_kept = (not_zero step (left_false (step == 0) (nat_lt 65536 step) step_kept), ltb-false 4 at level_kept)
part_fits (AnExpression line e) step_kept level_kept depth_kept = ltb-false 16 (depth e) depth_kept

pub parts_fit : (ps : List Part) → lines_where part_line has_wrong_step ps ≡ [] → lines_where part_line is_deep_loop ps ≡ [] → lines_where part_line is_deep ps ≡ [] → Each PartFits ps
parts_fit [] steps levels depths = tt
parts_fit (p ∷ ps) steps levels depths =
    let a = none_where part_line has_wrong_step p ps steps in
    let b = none_where part_line is_deep_loop p ps levels in
    let c = none_where part_line is_deep p ps depths in
    (part_fits p a.0 b.0 c.0, parts_fit ps a.1 b.1 c.1)

module _ (program : Program) (locals : List ℕ) where
  abbrev pub HasRegister : ℕ → Type 0
  HasRegister name = IsTrue (is_some (register_of program locals name))

  abbrev pub IsLocal : ℕ → Type 0
  IsLocal name = IsTrue (is_some (index_of_name locals name))

  -- an expression
  abbrev ExprFits : Expr → Type 0
  ExprFits e = (into : ℕ) → into + depth e ≤ 32 → Each HasRegister (scalars_read e) → IsTrue (expr_ready program locals e into)

  abbrev An_expr : Type 0
  An_expr = (e : Expr) × ExprFits e

  abbrev NodeFits : Expr-F Expr → Type 0
  NodeFits x = (into : ℕ) → into + depth_node (map-Expr Expr ℕ depth x) ≤ 32 → Each HasRegister (reads_node (map-Expr Expr (List ℕ) scalars_read x)) → IsTrue (ready_node program locals (map-Expr Expr (ℕ → Bool) (expr_ready program locals) x) into)

  few : (into n : ℕ) → into + suc n ≤ 32 → nat_lt into 32 ≡ true
  few into n fits = lt-ltb into 32 (omega (arith, fits))

  part_below : (into n m : ℕ) → n ≤ m → into + suc m ≤ 32 → into + n ≤ 32
  part_below into n m le fits = omega (arith, le, fits)

  part_above : (into n m : ℕ) → n ≤ m → into + suc m ≤ 32 → into + 1 + n ≤ 32
  part_above into n m le fits = omega (arith, le, fits)

  most_left : (a b : ℕ) → a ≤ max a b
  most_left a b = omega arith

  most_right : (a b : ℕ) → b ≤ max a b
  most_right a b = omega arith

  same : (n : ℕ) → n ≤ n
  same n = omega arith

  through_both : (a b c : ℕ) → a ≤ b → b ≤ c → a ≤ c
  through_both a b c p q = omega (arith, p, q)

  expr_layer : (y : Expr-F An_expr) → NodeFits (map-Expr An_expr Expr (λ e. e.0) y)
  expr_layer (Expr-F.Number n) = λ into fits names. refl
  expr_layer (Expr-F.Scalar name) = λ into fits names. names.0
  expr_layer (Expr-F.Word array place) = λ into fits names.
      both_true (nat_lt into 32) (expr_ready program locals place.0 into) (few into (depth place.0) fits) (place.1 into (part_below into (depth place.0) (depth place.0) (same (depth place.0)) fits) names)
  expr_layer (Expr-F.Unary op part) = λ into fits names.
      both_true (nat_lt into 32) (expr_ready program locals part.0 into) (few into (depth part.0) fits) (part.1 into (part_below into (depth part.0) (depth part.0) (same (depth part.0)) fits) names)
  expr_layer (Expr-F.Binary op left right) = λ into fits names.
      let most = max (depth left.0) (depth right.0) in
      both_true (nat_lt into 32) (expr_ready program locals left.0 into && expr_ready program locals right.0 (into + 1)) (few into most fits)
      (both_true (expr_ready program locals left.0 into) (expr_ready program locals right.0 (into + 1))
      (left.1 into (part_below into (depth left.0) most (most_left (depth left.0) (depth right.0)) fits) (each_left HasRegister (scalars_read left.0) (scalars_read right.0) names))
      (right.1 (into + 1) (part_above into (depth right.0) most (most_right (depth left.0) (depth right.0)) fits) (each_right HasRegister (scalars_read left.0) (scalars_read right.0) names)))
  expr_layer (Expr-F.Choice test first second) = λ into fits names.
      let inner = max (depth first.0) (depth second.0) in
      let most = max (depth test.0) inner in
      let behind = each_right HasRegister (scalars_read test.0) (scalars_read first.0 ++ scalars_read second.0) names in
      both_true (nat_lt into 32) (expr_ready program locals test.0 into && (expr_ready program locals first.0 into && expr_ready program locals second.0 into)) (few into most fits)
      (both_true (expr_ready program locals test.0 into) (expr_ready program locals first.0 into && expr_ready program locals second.0 into)
      (test.1 into (part_below into (depth test.0) most (most_left (depth test.0) inner) fits) (each_left HasRegister (scalars_read test.0) (scalars_read first.0 ++ scalars_read second.0) names))
      (both_true (expr_ready program locals first.0 into) (expr_ready program locals second.0 into)
      (first.1 into (part_below into (depth first.0) most (through_both (depth first.0) inner most (most_left (depth first.0) (depth second.0)) (most_right (depth test.0) inner)) fits) (each_left HasRegister (scalars_read first.0) (scalars_read second.0) behind))
      (second.1 into (part_below into (depth second.0) most (through_both (depth second.0) inner most (most_right (depth first.0) (depth second.0)) (most_right (depth test.0) inner)) fits) (each_right HasRegister (scalars_read first.0) (scalars_read second.0) behind))))

  expr_fits : (e : Expr) → ExprFits e
  expr_fits = ind-Expr ExprFits (λ x y is into fits names.
      let here : NodeFits x = subst NodeFits is (expr_layer y) in
      subst (λ (f : ℕ → Bool). IsTrue (f into)) (sym (fold-roll-Expr (ℕ → Bool) (ready_node program locals) x))
      (here into (subst (λ n. into + n ≤ 32) (fold-roll-Expr ℕ depth_node x) fits) (subst (Each HasRegister) (fold-roll-Expr (List ℕ) reads_node x) names)))

  -- A statement, with these names that it gives values, these that it uses as scalars, and these parts, where its loops stand
  -- at a depth: behind each loop around it two temporaries more are kept.
  abbrev Fits : List ℕ → List ℕ → Parts_at → (ℕ → Bool) → Type 0
  Fits names used parts_at ready = (into at : ℕ) → into + 6 ≡ at + at → at ≤ 5 → Each IsLocal names → Each HasRegister used → Each PartFits (parts_at at) → IsTrue (ready into)

  abbrev StmtFits : Stmt → Type 0
  StmtFits s = Fits (given true s) (uses s) (parts s) (stmt_ready program locals s)

  abbrev ArmFits : Arm → Type 0
  ArmFits a = Fits (given_in_arm true a) (uses_in_arm a) (parts_in_arm a) (arm_ready program locals a)

  abbrev LoopFits : Loop → Type 0
  LoopFits l = Fits (given_in_loop true l) (uses_in_loop l) (parts_in_loop l) (loop_ready program locals l)

  abbrev A_stmt : Type 0
  A_stmt = (s : Stmt) × StmtFits s

  abbrev An_arm : Type 0
  An_arm = (a : Arm) × ArmFits a

  abbrev A_loop : Type 0
  A_loop = (l : Loop) × LoopFits l

  few_at : (into at : ℕ) → into + 6 ≡ at + at → at ≤ 5 → into ≤ 4
  few_at into at two deep = omega (arith, two, deep)

  value_fits : (e : Expr) (into more at : ℕ) → into + 6 ≡ at + at → at ≤ 5 → more ≤ 2 → Each HasRegister (scalars_read e) → depth e ≤ 16 → IsTrue (expr_ready program locals e (into + more))
  value_fits e into more at two deep little used fit = expr_fits e (into + more) (let a = few_at into at two deep in omega (arith, a, little, fit)) used

  value_here : (e : Expr) (into at : ℕ) → into + 6 ≡ at + at → at ≤ 5 → Each HasRegister (scalars_read e) → depth e ≤ 16 → IsTrue (expr_ready program locals e into)
  value_here e into at two deep used fit = expr_fits e into (let a = few_at into at two deep in omega (arith, a, fit)) used

  room : (into more at : ℕ) → into + 6 ≡ at + at → at ≤ 5 → more ≤ 2 → nat_lt (into + more) 32 ≡ true
  room into more at two deep little = lt-ltb (into + more) 32 (let a = few_at into at two deep in omega (arith, a, little))

  room_here : (into at : ℕ) → into + 6 ≡ at + at → at ≤ 5 → nat_lt into 32 ≡ true
  room_here into at two deep = lt-ltb into 32 (let a = few_at into at two deep in omega (arith, a))

  abbrev stmts_ready : List Stmt → ℕ → Bool
  stmts_ready stmts into = list_all (λ (f : ℕ → Bool). f into) (map (stmt_ready program locals) stmts)

  abbrev BlockFits : List Stmt → Type 0
  BlockFits stmts = Fits (concat (map (given true) stmts)) (concat (map uses stmts)) (all_at (map parts stmts)) (stmts_ready stmts)

  block_fits : (stmts : List A_stmt) → BlockFits (map (λ q. q.0) stmts)
  block_fits [] into at two deep names used fit = refl
  block_fits (q ∷ qs) into at two deep names used fit =
      let rest = map (λ (p : A_stmt). p.0) qs in
      both_true (stmt_ready program locals q.0 into) (stmts_ready rest into)
      (q.1 into at two deep (each_left IsLocal (given true q.0) (concat (map (given true) rest)) names) (each_left HasRegister (uses q.0) (concat (map uses rest)) used) (each_left PartFits (parts q.0 at) (all_at (map parts rest) at) fit))
      (block_fits qs into at two deep (each_right IsLocal (given true q.0) (concat (map (given true) rest)) names) (each_right HasRegister (uses q.0) (concat (map uses rest)) used) (each_right PartFits (parts q.0 at) (all_at (map parts rest) at) fit))

  abbrev arms_ready : List Arm → ℕ → Bool
  arms_ready arms into = list_all (λ (f : ℕ → Bool). f into) (map (arm_ready program locals) arms)

  arms_fit : (arms : List An_arm) → Fits (concat (map (given_in_arm true) (map (λ q. q.0) arms))) (concat (map uses_in_arm (map (λ q. q.0) arms))) (all_at (map parts_in_arm (map (λ q. q.0) arms))) (arms_ready (map (λ q. q.0) arms))
  arms_fit [] into at two deep names used fit = refl
  arms_fit (q ∷ qs) into at two deep names used fit =
      let rest = map (λ (p : An_arm). p.0) qs in
      both_true (arm_ready program locals q.0 into) (arms_ready rest into)
      (q.1 into at two deep (each_left IsLocal (given_in_arm true q.0) (concat (map (given_in_arm true) rest)) names) (each_left HasRegister (uses_in_arm q.0) (concat (map uses_in_arm rest)) used) (each_left PartFits (parts_in_arm q.0 at) (all_at (map parts_in_arm rest) at) fit))
      (arms_fit qs into at two deep (each_right IsLocal (given_in_arm true q.0) (concat (map (given_in_arm true) rest)) names) (each_right HasRegister (uses_in_arm q.0) (concat (map uses_in_arm rest)) used) (each_right PartFits (parts_in_arm q.0 at) (all_at (map parts_in_arm rest) at) fit))

  abbrev StmtNode : Stmt-F Stmt Arm Loop → Type 0
  StmtNode x = Fits (given_node true (map-Stmt Stmt Arm Loop (List ℕ) (List ℕ) (List ℕ) (given true) (given_in_arm true) (given_in_loop true) x))
      (uses_node (map-Stmt Stmt Arm Loop (List ℕ) (List ℕ) (List ℕ) uses uses_in_arm uses_in_loop x))
      (parts_node (map-Stmt Stmt Arm Loop Parts_at Parts_at Parts_at parts parts_in_arm parts_in_loop x))
      (ready_stmt_node program locals (map-Stmt Stmt Arm Loop (ℕ → Bool) (ℕ → Bool) (ℕ → Bool) (stmt_ready program locals) (arm_ready program locals) (loop_ready program locals) x))

  stmt_layer : (y : Stmt-F A_stmt An_arm A_loop) → StmtNode (map-Stmt A_stmt An_arm A_loop Stmt Arm Loop (λ q. q.0) (λ q. q.0) (λ q. q.0) y)
  stmt_layer (Stmt-F.Declare line name e) = λ into at two deep names used fit.
      both_true (is_some (index_of_name locals name)) (nat_lt into 32 && expr_ready program locals e into) names.0 (both_true (nat_lt into 32) (expr_ready program locals e into) (room_here into at two deep) (value_here e into at two deep used fit.0))
  stmt_layer (Stmt-F.Assign line name op e) = λ into at two deep names used fit.
      both_true (is_some (index_of_name locals name)) (nat_lt into 32 && expr_ready program locals e into) names.0 (both_true (nat_lt into 32) (expr_ready program locals e into) (room_here into at two deep) (value_here e into at two deep used.1 fit.0))
  stmt_layer (Stmt-F.Write line array place op e) = λ into at two deep names used fit.
      both_true (nat_lt (into + 2) 32) (expr_ready program locals place into && expr_ready program locals e (into + 1)) (room into 2 at two deep (same 2))
      (both_true (expr_ready program locals place into) (expr_ready program locals e (into + 1))
      (value_here place into at two deep (each_left HasRegister (scalars_read place) (scalars_read e) used) fit.0)
      (value_fits e into 1 at two deep (omega arith) (each_right HasRegister (scalars_read place) (scalars_read e) used) fit.1.0))
  stmt_layer (Stmt-F.If arms other) = λ into at two deep names used fit.
      let a = map (λ (p : An_arm). p.0) arms in
      let s = map (λ (p : A_stmt). p.0) other in
      both_true (arms_ready a into) (stmts_ready s into)
      (arms_fit arms into at two deep (each_left IsLocal (concat (map (given_in_arm true) a)) (concat (map (given true) s)) names) (each_left HasRegister (concat (map uses_in_arm a)) (concat (map uses s)) used) (each_left PartFits (all_at (map parts_in_arm a) at) (all_at (map parts s) at) fit))
      (block_fits other into at two deep (each_right IsLocal (concat (map (given_in_arm true) a)) (concat (map (given true) s)) names) (each_right HasRegister (concat (map uses_in_arm a)) (concat (map uses s)) used) (each_right PartFits (all_at (map parts_in_arm a) at) (all_at (map parts s) at) fit))
  stmt_layer (Stmt-F.Loop l) = l.1

  stmt_step : (x : Stmt-F Stmt Arm Loop) (y : Stmt-F A_stmt An_arm A_loop) → map-Stmt A_stmt An_arm A_loop Stmt Arm Loop (λ q. q.0) (λ q. q.0) (λ q. q.0) y ≡ x → StmtFits (roll-Stmt x)
  stmt_step x y is into at two deep names used fit =
      let here : StmtNode x = subst StmtNode is (stmt_layer y) in
      subst (λ (f : ℕ → Bool). IsTrue (f into)) (sym (fold-roll-Stmt (ℕ → Bool) (ℕ → Bool) (ℕ → Bool) (ready_stmt_node program locals) (ready_arm_node program locals) (ready_loop_node program locals) x))
      (here into at two deep (subst (Each IsLocal) (fold-roll-Stmt (List ℕ) (List ℕ) (List ℕ) (given_node true) given_arm_node given_loop_node x) names)
      (subst (Each HasRegister) (fold-roll-Stmt (List ℕ) (List ℕ) (List ℕ) uses_node uses_arm_node uses_loop_node x) used)
      (subst (λ (p : Parts_at). Each PartFits (p at)) (fold-roll-Stmt Parts_at Parts_at Parts_at parts_node arm_parts_node loop_parts_node x) fit))

  arm_layer : (x : Arm-F Stmt Arm Loop) → BlockFits x.body → Fits (concat (map (given true) x.body)) (scalars_read x.test ++ concat (map uses x.body)) (λ at. AnExpression x.line x.test ∷ all_at (map parts x.body) at) (λ into. expr_ready program locals x.test into && stmts_ready x.body into)
  arm_layer x body into at two deep names used fit = both_true (expr_ready program locals x.test into) (stmts_ready x.body into)
      (value_here x.test into at two deep (each_left HasRegister (scalars_read x.test) (concat (map uses x.body)) used) fit.0)
      (body into at two deep names (each_right HasRegister (scalars_read x.test) (concat (map uses x.body)) used) fit.1)

  arm_step : (x : Arm-F Stmt Arm Loop) (y : Arm-F A_stmt An_arm A_loop) → map-Arm A_stmt An_arm A_loop Stmt Arm Loop (λ q. q.0) (λ q. q.0) (λ q. q.0) y ≡ x → ArmFits (roll-Arm x)
  arm_step x y is into at two deep names used fit =
      subst (λ (f : ℕ → Bool). IsTrue (f into)) (sym (fold-roll-Arm (ℕ → Bool) (ℕ → Bool) (ℕ → Bool) (ready_stmt_node program locals) (ready_arm_node program locals) (ready_loop_node program locals) x))
      (arm_layer x (subst (λ (z : Arm-F Stmt Arm Loop). BlockFits z.body) is (block_fits y.body)) into at two deep
      (subst (Each IsLocal) (fold-roll-Arm (List ℕ) (List ℕ) (List ℕ) (given_node true) given_arm_node given_loop_node x) names)
      (subst (Each HasRegister) (fold-roll-Arm (List ℕ) (List ℕ) (List ℕ) uses_node uses_arm_node uses_loop_node x) used)
      (subst (λ (p : Parts_at). Each PartFits (p at)) (fold-roll-Arm Parts_at Parts_at Parts_at parts_node arm_parts_node loop_parts_node x) fit))

  deeper : (into at : ℕ) → into + 6 ≡ at + at → into + 2 + 6 ≡ suc at + suc at
  deeper into at two = omega (arith, two)

  one_deeper : (at : ℕ) → at ≤ 4 → suc at ≤ 5
  one_deeper at le = omega (arith, le)

  loop_layer : (x : Loop-F Stmt Arm Loop) → BlockFits x.body
      → Fits (x.name ∷ concat (map (given true) x.body)) (scalars_read x.low ++ (scalars_read x.high ++ concat (map uses x.body))) (λ at. ALoop x.line x.step at ∷ AnExpression x.line x.low ∷ AnExpression x.line x.high ∷ all_at (map parts x.body) (suc at))
      (λ into. is_some (index_of_name locals x.name) && (nat_lt 0 x.step && (nat_lt (into + 1) 32 && (expr_ready program locals x.low into && (expr_ready program locals x.high (into + 1) && stmts_ready x.body (into + 2))))))
  loop_layer x body into at two deep names used fit =
      let behind = each_right HasRegister (scalars_read x.low) (scalars_read x.high ++ concat (map uses x.body)) used in
      both_true (is_some (index_of_name locals x.name)) _ names.0
      (both_true (nat_lt 0 x.step) _ (lt-ltb 0 x.step fit.0.0)
      (both_true (nat_lt (into + 1) 32) _ (room into 1 at two deep (omega arith))
      (both_true (expr_ready program locals x.low into) _ (value_here x.low into at two deep (each_left HasRegister (scalars_read x.low) (scalars_read x.high ++ concat (map uses x.body)) used) fit.1.0)
      (both_true (expr_ready program locals x.high (into + 1)) _ (value_fits x.high into 1 at two deep (omega arith) (each_left HasRegister (scalars_read x.high) (concat (map uses x.body)) behind) fit.1.1.0)
      (body (into + 2) (suc at) (deeper into at two) (one_deeper at fit.0.1) names.1 (each_right HasRegister (scalars_read x.high) (concat (map uses x.body)) behind) fit.1.1.1)))))

  loop_step : (x : Loop-F Stmt Arm Loop) (y : Loop-F A_stmt An_arm A_loop) → map-Loop A_stmt An_arm A_loop Stmt Arm Loop (λ q. q.0) (λ q. q.0) (λ q. q.0) y ≡ x → LoopFits (roll-Loop x)
  loop_step x y is into at two deep names used fit =
      subst (λ (f : ℕ → Bool). IsTrue (f into)) (sym (fold-roll-Loop (ℕ → Bool) (ℕ → Bool) (ℕ → Bool) (ready_stmt_node program locals) (ready_arm_node program locals) (ready_loop_node program locals) x))
      (loop_layer x (subst (λ (z : Loop-F Stmt Arm Loop). BlockFits z.body) is (block_fits y.body)) into at two deep
      (subst (Each IsLocal) (fold-roll-Loop (List ℕ) (List ℕ) (List ℕ) (given_node true) given_arm_node given_loop_node x) names)
      (subst (Each HasRegister) (fold-roll-Loop (List ℕ) (List ℕ) (List ℕ) uses_node uses_arm_node uses_loop_node x) used)
      (subst (λ (p : Parts_at). Each PartFits (p at)) (fold-roll-Loop Parts_at Parts_at Parts_at parts_node arm_parts_node loop_parts_node x) fit))

  stmt_fits : (s : Stmt) → StmtFits s
  stmt_fits = ind-Stmt StmtFits ArmFits LoopFits stmt_step arm_step loop_step

  pub body_fits : (stmts : List Stmt) (into at : ℕ) → into + 6 ≡ at + at → at ≤ 5 → Each IsLocal (names_given true stmts) → Each HasRegister (names_used stmts) → Each PartFits (all_at (map parts stmts) at) → IsTrue (block_ready program locals stmts into)
  body_fits [] into at two deep names used fit = refl
  body_fits (s ∷ ss) into at two deep names used fit =
      both_true (stmt_ready program locals s into) (block_ready program locals ss into)
      (stmt_fits s into at two deep (each_left IsLocal (given true s) (names_given true ss) names) (each_left HasRegister (uses s) (names_used ss) used) (each_left PartFits (parts s at) (all_at (map parts ss) at) fit))
      (body_fits ss into at two deep (each_right IsLocal (given true s) (names_given true ss) names) (each_right HasRegister (uses s) (names_used ss) used) (each_right PartFits (parts s at) (all_at (map parts ss) at) fit))
