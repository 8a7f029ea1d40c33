-- That turns take no more than their text says.
use Rattle.std.proofs.Common.{◌≡◌, ℕ, zero, suc, ◌+◌, ◌*◌, ◌<◌, ◌≤◌, ℤ, pos, Bool, true, false, if◌then◌else◌, nat_le, Option, Some, None, Result, Ok, Err, List, [], ◌∷◌, map, refl, sym, ap, ◌∙◌, subst, arith}
use Rattle.std.proofs.Math.Nat.{mul-le-mul_right}
use Rattle.std.proofs.lemmas.Bool.{leb-true}
use Rattle.nest_syntax.specs.declared.names.Line.{Line}
use Rattle.nest_syntax.specs.declared.operators.Bin.{Bin}
use Rattle.nest_syntax.specs.declared.operators.Bin.TheVariants as bin
use Rattle.nest_syntax.specs.declared.operators.Op.{Op as Change}
use Rattle.nest_syntax.specs.declared.operators.Op.TheVariants as op
use Rattle.nest_syntax.specs.declared.operators.Cause.{Cause}
use Rattle.nest_syntax.specs.declared.operators.Cause.TheVariants as cause
use Rattle.nest_syntax.specs.declared.tree.Expr.{Expr, roll-Expr}
use Rattle.nest_syntax.specs.declared.tree.Expr.TheOpen.{Expr-F}
use Rattle.nest_syntax.specs.declared.tree.Expr.TheFolds.{map-Expr, fold-roll-Expr, ind-Expr}
use Rattle.nest_syntax.specs.declared.tree.Arm.{Arm}
use Rattle.nest_syntax.specs.declared.tree.Loop.{Loop}
use Rattle.nest_syntax.specs.declared.tree.Stmt.{Stmt}
use Rattle.nest_syntax.specs.declared.tree.Stmt.TheOpen.{Stmt-F}
use Rattle.nest_syntax.specs.declared.tree.Stmt.TheFolds.{fold-roll-Stmt, fold_out-Arm, fold_out-Loop}
use Rattle.nest_syntax.specs.declared.tree.Stmt.TheVariants as stmt
use Rattle.nest_syntax.specs.declared.tree.Stmt.TheVariants.{rolls-Declare, rolls-Assign, rolls-Write, rolls-If, rolls-Loop}
use Rattle.nest_syntax.specs.Among.{Each}
use Rattle.nest_syntax.specs.Words.{is_zero, truth, apply, apply_un, operation_of, turns, counted, most_turns, variable}
use Rattle.nest_syntax.specs.Arrays.{Array, located}
use Rattle.nest_syntax.specs.Value.{scalar_at, with_scalar}
use Rattle.nest_syntax.specs.Locals.{locals_of, with_zeros}
use Rattle.nest_syntax.specs.Turn.{Turn, Finished, Trapped, Load, Store, Op, Go, Reckoning, Effect, Arm_effect, reckoning, reckoning_node, operation_turn, done_with, inside, assigning, writing, sequence, repeat, looping, choose, effect, effect_node, loop_effect, turn_of}
use Rattle.nest_syntax.proofs.Equations.{arm_effect, effect-declare, effect-assign, effect-write, effect-if, effect-loop, arm_effect-is, loop_effect-is}
use Rattle.nest_syntax.proofs.Inductions.{stmt_induction}
use Rattle.turn_cost.specs.Costs.{AtMost, operator_cost, expr_cost_node, expr_cost, change_cost, in_all, stmt_cost_node, arm_cost_node, loop_cost_node, stmt_cost, arm_cost, loop_cost, body_cost}

-- so much comes to what follows
abbrev pub Adds : Reckoning → ℕ → Type 0
Adds f n = (line : Line) (scalars : List ℤ) (go : ℤ → Turn) (m : ℕ) → ((v : ℤ) → AtMost (go v) m) → AtMost (f line scalars go) (n + m)

abbrev pub AddsAll : Effect → ℕ → Type 0
AddsAll f n = (scalars : List ℤ) (go : List ℤ → Turn) (m : ℕ) → ((later : List ℤ) → AtMost (go later) m) → AtMost (f scalars go) (n + m)

-- a bound that isn't less is one too
pub at_most_more : (t : Turn) (n m : ℕ) → n ≤ m → AtMost t n → AtMost t m
at_most_more Finished n m le most = tt
at_most_more (Trapped cause line) n m le most = tt
at_most_more (Load array place go) n m le (k, less, most) = (k, omega (arith, le, less), most)
at_most_more (Store array place value rest) n m le (k, less, most) = (k, omega (arith, le, less), most)
at_most_more (Op rest) n m le (k, less, most) = (k, omega (arith, le, less), most)
at_most_more (Go rest) n m le (k, less, most) = (k, omega (arith, le, less), most)

-- what an expression and a statement add, under a greater bound
adds_up : (f : Reckoning) (n : ℕ) → Adds f n → (line : Line) (scalars : List ℤ) (go : ℤ → Turn) (k total : ℕ) → n + k ≤ total → ((v : ℤ) → AtMost (go v) k) → AtMost (f line scalars go) total
adds_up f n adds line scalars go k total le each = at_most_more (f line scalars go) (n + k) total le (adds line scalars go k each)

all_adds_up : (f : Effect) (n : ℕ) → AddsAll f n → (scalars : List ℤ) (go : List ℤ → Turn) (k total : ℕ) → n + k ≤ total → ((later : List ℤ) → AtMost (go later) k) → AtMost (f scalars go) total
all_adds_up f n adds scalars go k total le each = at_most_more (f scalars go) (n + k) total le (adds scalars go k each)

module _ (arrays : List Array) where
  one : (t : Turn) (m : ℕ) → AtMost t m → AtMost (Op t) (suc m)
  one t m few = (m, omega arith, few)

  done : (line : Line) (r : Result ℤ Cause) (go : ℤ → Turn) (m : ℕ) → ((v : ℤ) → AtMost (go v) m) → AtMost (done_with line r go) (suc m)
  done line (Ok v) go m each = (m, omega arith, each v)
  done line (Err cause) go m each = tt

  reads : (line : Line) (p : Option (ℕ × ℕ)) (go : ℤ → Turn) (m : ℕ) → ((v : ℤ) → AtMost (go v) m) → AtMost (inside line p (λ array n. Load array n go)) (suc m)
  reads line None go m each = tt
  reads line (Some p) go m each = (m, omega arith, each)

  either : (b : Bool) (first second : Turn) (m : ℕ) → AtMost first m → AtMost second m → AtMost (Go (if b then first else second)) (suc m)
  either true first second m one other = (m, omega arith, one)
  either false first second m one other = (m, omega arith, other)

  -- the turn that a number bounds, bounded by one that isn't less
  within : (t : Turn) (n m : ℕ) → AtMost t n → n ≤ m → AtMost t m
  within t n m few le = at_most_more t n m le few

  plainly : (o : Bin) (left : ℤ) (right : Reckoning) (r : ℕ) → Adds right r → (line : Line) (scalars : List ℤ) (go : ℤ → Turn) (m : ℕ) → ((v : ℤ) → AtMost (go v) m)
      → AtMost (right line scalars (λ v. done_with line (apply o left v) go)) (r + 1 + m)
  plainly o left right r adds line scalars go m each =
      adds_up right r adds line scalars (λ v. done_with line (apply o left v) go) (suc m) (r + 1 + m) (omega arith) (λ v. done line (apply o left v) go m each)

  operated : (o : Bin) (left : ℤ) (right : Reckoning) (r : ℕ) → Adds right r → (line : Line) (scalars : List ℤ) (go : ℤ → Turn) (m : ℕ) → ((v : ℤ) → AtMost (go v) m)
      → AtMost (operation_turn o left right line scalars go) (r + operator_cost o + m)
  operated bin.Both left right r adds line scalars go m each =
      let second : AtMost (right line scalars (λ v. Go (go (truth v)))) (r + suc m) = adds line scalars (λ v. Go (go (truth v))) (suc m) (λ v. (m, omega arith, each (truth v))) in
      within (Go (if is_zero left then go (pos 0) else right line scalars (λ v. Go (go (truth v))))) (suc (r + suc m)) (r + 2 + m) (either (is_zero left) (go (pos 0)) (right line scalars (λ v. Go (go (truth v)))) (r + suc m) (within (go (pos 0)) m (r + suc m) (each (pos 0)) (omega arith)) second) (omega arith)
  operated bin.Either left right r adds line scalars go m each =
      let second : AtMost (right line scalars (λ v. Go (go (truth v)))) (r + suc m) = adds line scalars (λ v. Go (go (truth v))) (suc m) (λ v. (m, omega arith, each (truth v))) in
      within (Go (if is_zero left then right line scalars (λ v. Go (go (truth v))) else go (pos 1))) (suc (r + suc m)) (r + 2 + m) (either (is_zero left) (right line scalars (λ v. Go (go (truth v)))) (go (pos 1)) (r + suc m) second (within (go (pos 1)) m (r + suc m) (each (pos 1)) (omega arith))) (omega arith)
  operated bin.Add left right r adds line scalars go m each = plainly bin.Add left right r adds line scalars go m each
  operated bin.Sub left right r adds line scalars go m each = plainly bin.Sub left right r adds line scalars go m each
  operated bin.Mul left right r adds line scalars go m each = plainly bin.Mul left right r adds line scalars go m each
  operated bin.Div left right r adds line scalars go m each = plainly bin.Div left right r adds line scalars go m each
  operated bin.Rem left right r adds line scalars go m each = plainly bin.Rem left right r adds line scalars go m each
  operated bin.Shl left right r adds line scalars go m each = plainly bin.Shl left right r adds line scalars go m each
  operated bin.Shr left right r adds line scalars go m each = plainly bin.Shr left right r adds line scalars go m each
  operated bin.And left right r adds line scalars go m each = plainly bin.And left right r adds line scalars go m each
  operated bin.Xor left right r adds line scalars go m each = plainly bin.Xor left right r adds line scalars go m each
  operated bin.Or left right r adds line scalars go m each = plainly bin.Or left right r adds line scalars go m each
  operated bin.Less left right r adds line scalars go m each = plainly bin.Less left right r adds line scalars go m each
  operated bin.LessEq left right r adds line scalars go m each = plainly bin.LessEq left right r adds line scalars go m each
  operated bin.More left right r adds line scalars go m each = plainly bin.More left right r adds line scalars go m each
  operated bin.MoreEq left right r adds line scalars go m each = plainly bin.MoreEq left right r adds line scalars go m each
  operated bin.Equal left right r adds line scalars go m each = plainly bin.Equal left right r adds line scalars go m each
  operated bin.NotEqual left right r adds line scalars go m each = plainly bin.NotEqual left right r adds line scalars go m each

  -- one layer of an expression, with its parts already done
  abbrev Costs : Expr → Type 0
  Costs e = Adds (reckoning arrays e) (expr_cost e)

  abbrev Such : Type 0
  Such = (e : Expr) × Costs e

  abbrev Layer : Expr-F Expr → Type 0
  Layer x = Adds (reckoning_node arrays (map-Expr Expr Reckoning (reckoning arrays) x)) (expr_cost_node (map-Expr Expr ℕ expr_cost x))

  layer : (y : Expr-F Such) → Layer (map-Expr Such Expr (λ e. e.0) y)
  layer (Expr-F.Number n) line scalars go m each = within (go n) m (0 + m) (each n) (omega arith)
  layer (Expr-F.Scalar name) line scalars go m each = within (go (scalar_at scalars name)) m (0 + m) (each (scalar_at scalars name)) (omega arith)
  layer (Expr-F.Word name place) line scalars go m each =
      adds_up (reckoning arrays place.0) (expr_cost place.0) place.1 line scalars (λ at. inside line (located arrays name at) (λ array n. Load array n go)) (suc m) (expr_cost place.0 + 1 + m) (omega arith)
      (λ at. reads line (located arrays name at) go m each)
  layer (Expr-F.Unary o part) line scalars go m each =
      adds_up (reckoning arrays part.0) (expr_cost part.0) part.1 line scalars (λ v. Op (go (apply_un o v))) (suc m) (expr_cost part.0 + 1 + m) (omega arith) (λ v. one (go (apply_un o v)) m (each (apply_un o v)))
  layer (Expr-F.Binary o left right) line scalars go m each =
      adds_up (reckoning arrays left.0) (expr_cost left.0) left.1 line scalars (λ v. operation_turn o v (reckoning arrays right.0) line scalars go) (expr_cost right.0 + operator_cost o + m)
      (expr_cost left.0 + (expr_cost right.0 + operator_cost o) + m) (omega arith) (λ v. operated o v (reckoning arrays right.0) (expr_cost right.0) right.1 line scalars go m each)
  layer (Expr-F.Choice test first second) line scalars go m each =
      let on_first : AtMost (reckoning arrays first.0 line scalars go) (expr_cost first.0 + expr_cost second.0 + m) = adds_up (reckoning arrays first.0) (expr_cost first.0) first.1 line scalars go m (expr_cost first.0 + expr_cost second.0 + m) (omega arith) each in
      let on_second : AtMost (reckoning arrays second.0 line scalars go) (expr_cost first.0 + expr_cost second.0 + m) = adds_up (reckoning arrays second.0) (expr_cost second.0) second.1 line scalars go m (expr_cost first.0 + expr_cost second.0 + m) (omega arith) each in
      adds_up (reckoning arrays test.0) (expr_cost test.0) test.1 line scalars (λ v. Go (if is_zero v then reckoning arrays second.0 line scalars go else reckoning arrays first.0 line scalars go))
      (suc (expr_cost first.0 + expr_cost second.0 + m)) (expr_cost test.0 + (1 + (expr_cost first.0 + expr_cost second.0)) + m) (omega arith)
      (λ v. either (is_zero v) (reckoning arrays second.0 line scalars go) (reckoning arrays first.0 line scalars go) (expr_cost first.0 + expr_cost second.0 + m) on_second on_first)

  pub expr_costs : (e : Expr) → Costs e
  expr_costs = ind-Expr Costs (λ x y is.
      let here : Layer x = subst Layer is (layer y) in
      let with_cost = subst (λ n. Adds (reckoning_node arrays (map-Expr Expr Reckoning (reckoning arrays) x)) n) (sym (fold-roll-Expr ℕ expr_cost_node x)) here in
      subst (λ f. Adds f (expr_cost (roll-Expr x))) (sym (fold-roll-Expr Reckoning (reckoning_node arrays) x)) with_cost)

  operation_costs : (line : Line) (o : Bin) (old v : ℤ) (go : ℤ → Turn) (m : ℕ) → ((new : ℤ) → AtMost (go new) m) → AtMost (done_with line (apply o old v) go) (1 + m)
  operation_costs line o old v go m each = within (done_with line (apply o old v) go) (suc m) (1 + m) (done line (apply o old v) go m each) (omega arith)

  -- what is given, behind its operation
  assigned_costs : (line : Line) (o : Change) (old v : ℤ) (go : ℤ → Turn) (m : ℕ) → ((new : ℤ) → AtMost (go new) m) → AtMost (assigning line (operation_of o) old v go) (change_cost o + m)
  assigned_costs line op.Set old v go m each = within (go v) m (0 + m) (each v) (omega arith)
  assigned_costs line op.Add old v go m each = operation_costs line bin.Add old v go m each
  assigned_costs line op.Sub old v go m each = operation_costs line bin.Sub old v go m each
  assigned_costs line op.Mul old v go m each = operation_costs line bin.Mul old v go m each
  assigned_costs line op.Div old v go m each = operation_costs line bin.Div old v go m each
  assigned_costs line op.Rem old v go m each = operation_costs line bin.Rem old v go m each
  assigned_costs line op.Shl old v go m each = operation_costs line bin.Shl old v go m each
  assigned_costs line op.Shr old v go m each = operation_costs line bin.Shr old v go m each
  assigned_costs line op.And old v go m each = operation_costs line bin.And old v go m each
  assigned_costs line op.Xor old v go m each = operation_costs line bin.Xor old v go m each
  assigned_costs line op.Or old v go m each = operation_costs line bin.Or old v go m each

  rewritten : (line : Line) (o : Bin) (array n : ℕ) (v : ℤ) (rest : Turn) (m : ℕ) → AtMost rest m → AtMost (writing line (Some o) array n v rest) (1 + (1 + 1) + m)
  rewritten line o array n v rest m few =
      within (writing line (Some o) array n v rest) (suc (suc (suc m))) (1 + (1 + 1) + m) (suc (suc m), omega arith, λ old. done line (apply o old v) (λ new. Store array n new rest) (suc m) (λ new. (m, omega arith, few))) (omega arith)

  written_costs : (line : Line) (o : Change) (array n : ℕ) (v : ℤ) (rest : Turn) (m : ℕ) → AtMost rest m → AtMost (writing line (operation_of o) array n v rest) (change_cost o + (change_cost o + 1) + m)
  written_costs line op.Set array n v rest m few = within (Store array n v rest) (suc m) (0 + (0 + 1) + m) (m, omega arith, few) (omega arith)
  written_costs line op.Add array n v rest m few = rewritten line bin.Add array n v rest m few
  written_costs line op.Sub array n v rest m few = rewritten line bin.Sub array n v rest m few
  written_costs line op.Mul array n v rest m few = rewritten line bin.Mul array n v rest m few
  written_costs line op.Div array n v rest m few = rewritten line bin.Div array n v rest m few
  written_costs line op.Rem array n v rest m few = rewritten line bin.Rem array n v rest m few
  written_costs line op.Shl array n v rest m few = rewritten line bin.Shl array n v rest m few
  written_costs line op.Shr array n v rest m few = rewritten line bin.Shr array n v rest m few
  written_costs line op.And array n v rest m few = rewritten line bin.And array n v rest m few
  written_costs line op.Xor array n v rest m few = rewritten line bin.Xor array n v rest m few
  written_costs line op.Or array n v rest m few = rewritten line bin.Or array n v rest m few

  placed : (line : Line) (o : Change) (p : Option (ℕ × ℕ)) (v : ℤ) (rest : Turn) (m : ℕ) → AtMost rest m
      → AtMost (inside line p (λ array n. writing line (operation_of o) array n v rest)) (change_cost o + (change_cost o + 1) + m)
  placed line o None v rest m few = tt
  placed line o (Some p) v rest m few = written_costs line o p.0 p.1 v rest m few

  -- items one after the other
  sequence_costs : (stmts : List Stmt) → Each (λ s. AddsAll (effect arrays s) (stmt_cost s)) stmts → AddsAll (sequence (map (effect arrays) stmts)) (in_all (map stmt_cost stmts))
  sequence_costs [] each scalars go m after = within (go scalars) m (0 + m) (after scalars) (omega arith)
  sequence_costs (s ∷ stmts) each scalars go m after =
      all_adds_up (effect arrays s) (stmt_cost s) each.0 scalars (λ later. sequence (map (effect arrays) stmts) later go) (in_all (map stmt_cost stmts) + m) (stmt_cost s + in_all (map stmt_cost stmts) + m) (omega arith)
      (λ later. sequence_costs stmts each.1 later go m after)

  -- an arm, before what the `if` does otherwise
  arm_is : (a : Arm) → arm_cost a ≡ expr_cost a.test + (1 + in_all (map stmt_cost a.body))
  arm_is a = fold_out-Arm ℕ ℕ ℕ stmt_cost_node arm_cost_node loop_cost_node a

  arm_costs : (a : Arm) → Each (λ s. AddsAll (effect arrays s) (stmt_cost s)) a.body → (scalars : List ℤ) (otherwise : Turn) (go : List ℤ → Turn) (k m : ℕ) → m ≤ k → AtMost otherwise k → ((later : List ℤ) → AtMost (go later) m)
      → AtMost (arm_effect arrays a scalars otherwise go) (arm_cost a + k)
  arm_costs a each scalars otherwise go k m le few after =
      let branch : (v : ℤ) → AtMost (Go (if is_zero v then otherwise else sequence (map (effect arrays) a.body) scalars go)) (suc (in_all (map stmt_cost a.body) + k)) =
      λ v. either (is_zero v) otherwise (sequence (map (effect arrays) a.body) scalars go) (in_all (map stmt_cost a.body) + k)
      (within otherwise k (in_all (map stmt_cost a.body) + k) few (omega arith))
      (all_adds_up (sequence (map (effect arrays) a.body)) (in_all (map stmt_cost a.body)) (sequence_costs a.body each) scalars go m (in_all (map stmt_cost a.body) + k) (omega (arith, le)) after) in
      subst (λ n. AtMost (arm_effect arrays a scalars otherwise go) (n + k)) (sym (arm_is a))
      (subst (λ (f : Arm_effect). AtMost (f scalars otherwise go) (expr_cost a.test + (1 + in_all (map stmt_cost a.body)) + k)) (sym (arm_effect-is arrays a))
      (adds_up (reckoning arrays a.test) (expr_cost a.test) (expr_costs a.test) a.line scalars (λ v. Go (if is_zero v then otherwise else sequence (map (effect arrays) a.body) scalars go))
      (suc (in_all (map stmt_cost a.body) + k)) (expr_cost a.test + (1 + in_all (map stmt_cost a.body)) + k) (omega arith) branch))

  arms_cost : (arms : List Arm) (other : Effect) (n : ℕ) → Each (λ (a : Arm). Each (λ s. AddsAll (effect arrays s) (stmt_cost s)) a.body) arms → AddsAll other n
      → AddsAll (choose (map (arm_effect arrays) arms) other) (in_all (map arm_cost arms) + n)
  arms_cost [] other n each adds scalars go m after = within (other scalars go) (n + m) (0 + n + m) (adds scalars go m after) (omega arith)
  arms_cost (a ∷ arms) other n each adds scalars go m after =
      within (arm_effect arrays a scalars (choose (map (arm_effect arrays) arms) other scalars go) go) (arm_cost a + (in_all (map arm_cost arms) + n + m)) (arm_cost a + in_all (map arm_cost arms) + n + m)
      (arm_costs a each.0 scalars (choose (map (arm_effect arrays) arms) other scalars go) go (in_all (map arm_cost arms) + n + m) m (omega arith) (arms_cost arms other n each.1 adds scalars go m after) after) (omega arith)

  -- turns of a loop
  repeated : (n k : ℕ) (variable_in : ℕ → ℤ) (name : ℕ) (body : Effect) (b : ℕ) → AddsAll body b → (scalars : List ℤ) (go : List ℤ → Turn) (m : ℕ) → ((later : List ℤ) → AtMost (go later) m)
      → AtMost (repeat n k variable_in name body scalars go) (n * (b + 1) + m)
  repeated zero k variable_in name body b adds scalars go m after = within (go scalars) m (0 * (b + 1) + m) (after scalars) (omega arith)
  repeated (suc n) k variable_in name body b adds scalars go m after =
      all_adds_up body b adds (with_scalar scalars name (variable_in k)) (λ later. Go (repeat n (suc k) variable_in name body later go)) (suc (n * (b + 1) + m)) (suc n * (b + 1) + m) (one_turn n b m)
      (λ later. (n * (b + 1) + m, omega arith, repeated n (suc k) variable_in name body b adds later go m after)) where
        one_turn : (n b m : ℕ) → b + suc (n * (b + 1) + m) ≤ suc n * (b + 1) + m
        one_turn n b m = grind arith

  looped : (line : Line) (count : ℕ) (variable_in : ℕ → ℤ) (name : ℕ) (body : Effect) (b : ℕ) → AddsAll body b → (scalars : List ℤ) (go : List ℤ → Turn) (m : ℕ) → ((later : List ℤ) → AtMost (go later) m)
      → AtMost (looping line (counted count) variable_in name body scalars go) (1 + most_turns * (b + 1) + m)
  looped line count variable_in name body b adds scalars go m after = by (nat_le count most_turns) refl where
    no_more : count ≤ most_turns → count * (b + 1) ≤ most_turns * (b + 1)
    no_more le = mul-le-mul_right (b + 1) le

    by : (t : Bool) → nat_le count most_turns ≡ t → AtMost (looping line (if t then Ok count else Err cause.Loop) variable_in name body scalars go) (1 + most_turns * (b + 1) + m)
    by true e = (count * (b + 1) + m, omega (arith, no_more (leb-true count most_turns e)), repeated count 0 variable_in name body b adds scalars go m after)
    by false e = tt

  loop_is : (l : Loop) → loop_cost l ≡ expr_cost l.low + (expr_cost l.high + (1 + most_turns * (in_all (map stmt_cost l.body) + 1)))
  loop_is l = fold_out-Loop ℕ ℕ ℕ stmt_cost_node arm_cost_node loop_cost_node l

  loop_costs : (l : Loop) → Each (λ s. AddsAll (effect arrays s) (stmt_cost s)) l.body → AddsAll (loop_effect arrays l) (loop_cost l)
  loop_costs l each scalars go m after =
      let inner : (low high : ℤ) → AtMost (looping l.line (counted (turns low high l.step l.through)) (variable low l.step) l.name (sequence (map (effect arrays) l.body)) scalars go) (1 + most_turns * (in_all (map stmt_cost l.body) + 1) + m) =
      λ low high. looped l.line (turns low high l.step l.through) (variable low l.step) l.name (sequence (map (effect arrays) l.body)) (in_all (map stmt_cost l.body)) (sequence_costs l.body each) scalars go m after in
      subst (λ n. AtMost (loop_effect arrays l scalars go) (n + m)) (sym (loop_is l))
      (subst (λ (f : Effect). AtMost (f scalars go) (expr_cost l.low + (expr_cost l.high + (1 + most_turns * (in_all (map stmt_cost l.body) + 1))) + m)) (sym (loop_effect-is arrays l))
      (adds_up (reckoning arrays l.low) (expr_cost l.low) (expr_costs l.low) l.line scalars
      (λ low. reckoning arrays l.high l.line scalars (λ high. looping l.line (counted (turns low high l.step l.through)) (variable low l.step) l.name (sequence (map (effect arrays) l.body)) scalars go))
      (expr_cost l.high + (1 + most_turns * (in_all (map stmt_cost l.body) + 1) + m)) (expr_cost l.low + (expr_cost l.high + (1 + most_turns * (in_all (map stmt_cost l.body) + 1))) + m) (joined (expr_cost l.low) (expr_cost l.high) (1 + most_turns * (in_all (map stmt_cost l.body) + 1)) m)
      (λ low. expr_costs l.high l.line scalars (λ high. looping l.line (counted (turns low high l.step l.through)) (variable low l.step) l.name (sequence (map (effect arrays) l.body)) scalars go) (1 + most_turns * (in_all (map stmt_cost l.body) + 1) + m) (λ high. inner low high)))) where
        joined : (a b c m : ℕ) → a + (b + (c + m)) ≤ a + (b + c) + m
        joined a b c m = omega arith

  -- each kind of statement
  cost-declare : (line : Line) (name : ℕ) (e : Expr) → stmt_cost (stmt.Declare line name e) ≡ expr_cost e + 1
  cost-declare line name e = ap stmt_cost (sym (rolls-Declare line name e)) ∙ fold-roll-Stmt ℕ ℕ ℕ stmt_cost_node arm_cost_node loop_cost_node (Stmt-F.Declare line name e)

  cost-assign : (line : Line) (name : ℕ) (o : Change) (e : Expr) → stmt_cost (stmt.Assign line name o e) ≡ expr_cost e + (change_cost o + 1)
  cost-assign line name o e = ap stmt_cost (sym (rolls-Assign line name o e)) ∙ fold-roll-Stmt ℕ ℕ ℕ stmt_cost_node arm_cost_node loop_cost_node (Stmt-F.Assign line name o e)

  cost-write : (line : Line) (name : ℕ) (p : Expr) (o : Change) (e : Expr) → stmt_cost (stmt.Write line name p o e) ≡ expr_cost p + (expr_cost e + (change_cost o + (change_cost o + 1)))
  cost-write line name p o e = ap stmt_cost (sym (rolls-Write line name p o e)) ∙ fold-roll-Stmt ℕ ℕ ℕ stmt_cost_node arm_cost_node loop_cost_node (Stmt-F.Write line name p o e)

  cost-if : (arms : List Arm) (other : List Stmt) → stmt_cost (stmt.If arms other) ≡ in_all (map arm_cost arms) + in_all (map stmt_cost other)
  cost-if arms other = ap stmt_cost (sym (rolls-If arms other)) ∙ fold-roll-Stmt ℕ ℕ ℕ stmt_cost_node arm_cost_node loop_cost_node (Stmt-F.If arms other)

  cost-loop : (l : Loop) → stmt_cost (stmt.Loop l) ≡ loop_cost l
  cost-loop l = ap stmt_cost (sym (rolls-Loop l)) ∙ fold-roll-Stmt ℕ ℕ ℕ stmt_cost_node arm_cost_node loop_cost_node (Stmt-F.Loop l)

  as_is : (s : Stmt) (f : Effect) (n : ℕ) → effect arrays s ≡ f → stmt_cost s ≡ n → AddsAll f n → AddsAll (effect arrays s) (stmt_cost s)
  as_is s f n does costs adds = subst (λ g. AddsAll g (stmt_cost s)) (sym does) (subst (λ k. AddsAll f k) (sym costs) adds)

  pub stmt_costs : (s : Stmt) → AddsAll (effect arrays s) (stmt_cost s)
  stmt_costs = stmt_induction (λ s. AddsAll (effect arrays s) (stmt_cost s))
      (λ line name e. as_is (stmt.Declare line name e) _ _ (effect-declare arrays line name e) (cost-declare line name e)
      (λ scalars go m after. adds_up (reckoning arrays e) (expr_cost e) (expr_costs e) line scalars (λ new. Op (go (with_scalar scalars name new))) (suc m) (expr_cost e + 1 + m) (omega arith) (λ new. one (go (with_scalar scalars name new)) m (after (with_scalar scalars name new)))))
      (λ line name o e. as_is (stmt.Assign line name o e) _ _ (effect-assign arrays line name o e) (cost-assign line name o e)
      (λ scalars go m after. adds_up (reckoning arrays e) (expr_cost e) (expr_costs e) line scalars (λ right. assigning line (operation_of o) (scalar_at scalars name) right (λ new. Op (go (with_scalar scalars name new)))) (change_cost o + suc m)
      (expr_cost e + (change_cost o + 1) + m) (omega arith)
      (λ right. assigned_costs line o (scalar_at scalars name) right (λ new. Op (go (with_scalar scalars name new))) (suc m) (λ new. one (go (with_scalar scalars name new)) m (after (with_scalar scalars name new))))))
      (λ line name p o e. as_is (stmt.Write line name p o e) _ _ (effect-write arrays line name p o e) (cost-write line name p o e)
      (λ scalars go m after. adds_up (reckoning arrays p) (expr_cost p) (expr_costs p) line scalars
      (λ at. reckoning arrays e line scalars (λ right. inside line (located arrays name at) (λ array n. writing line (operation_of o) array n right (go scalars)))) (expr_cost e + (change_cost o + (change_cost o + 1) + m))
      (expr_cost p + (expr_cost e + (change_cost o + (change_cost o + 1))) + m) (omega arith)
      (λ at. expr_costs e line scalars (λ right. inside line (located arrays name at) (λ array n. writing line (operation_of o) array n right (go scalars))) (change_cost o + (change_cost o + 1) + m)
      (λ right. placed line o (located arrays name at) right (go scalars) m (after scalars)))))
      (λ arms other in_arms in_other. as_is (stmt.If arms other) _ _ (effect-if arrays arms other) (cost-if arms other)
      (arms_cost arms (sequence (map (effect arrays) other)) (in_all (map stmt_cost other)) in_arms (sequence_costs other in_other)))
      (λ l each. as_is (stmt.Loop l) (loop_effect arrays l) (loop_cost l) (effect-loop arrays l) (cost-loop l) (loop_costs l each))

  each_costs : (stmts : List Stmt) → Each (λ s. AddsAll (effect arrays s) (stmt_cost s)) stmts
  each_costs [] = tt
  each_costs (s ∷ stmts) = (stmt_costs s, each_costs stmts)

  pub turn_costs : (body : List Stmt) (scalars : List ℤ) → AtMost (turn_of arrays body scalars) (body_cost body)
  turn_costs body scalars = all_adds_up (sequence (map (effect arrays) body)) (body_cost body) (sequence_costs body (each_costs body)) (with_zeros (locals_of body) scalars) (λ after. Finished) 0 (body_cost body) (omega arith) (λ later. tt)
