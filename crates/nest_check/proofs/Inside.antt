-- The turns of a checked program stay inside its arrays: an induction over the statements of a body, from the scope in
-- which it is entered.
use Rattle.std.proofs.Common.{◌≡◌, ℕ, zero, suc, ◌<◌, ◌++◌, ℤ, pos, negsuc, nat_lt, if◌then◌else◌, Bool, true, false, IsTrue, Option, Some, None, Result, Ok, Err, List, [], ◌∷◌, map, length, slice_index_or, refl, sym, ap, ◌∙◌, subst, arith}
use Rattle.std.specs.List.{list_all}
use Rattle.std.specs.Option.{option_map, option_and_then}
use Rattle.std.proofs.lemmas.Bool.{ltb-true}
use Rattle.std.proofs.lemmas.List.{length-replicate}
use Rattle.nest_syntax.specs.declared.names.Line.{Line}
use Rattle.nest_syntax.specs.declared.operators.Bin.{Bin}
use Rattle.nest_syntax.specs.declared.operators.Bin.TheVariants as bin
use Rattle.nest_syntax.specs.declared.operators.Op.{Op as Change}
use Rattle.nest_syntax.specs.declared.operators.Cause.{Cause}
use Rattle.nest_syntax.specs.declared.tree.Expr.{Expr, Expr-F, map-Expr, ind-Expr, fold-roll-Expr}
use Rattle.nest_syntax.specs.declared.tree.Arm.{Arm}
use Rattle.nest_syntax.specs.declared.tree.Stmt.{Stmt}
use Rattle.nest_syntax.specs.declared.tree.Stmt.TheOpen.{Stmt-F}
use Rattle.nest_syntax.specs.Among.{Each}
use Rattle.nest_syntax.specs.Shape.{statements_of_each, bodies_of}
use Rattle.nest_syntax.specs.Words.{is_zero, truth, apply, apply_un, operation_of, turns, counted, variable}
use Rattle.nest_syntax.specs.Arrays.{Array, arrays_of, array_of, sizes_of, is_fixed, located, place_in}
use Rattle.nest_syntax.specs.Value.{scalar_at, with_scalar}
use Rattle.nest_syntax.specs.Turn.{Turn, Finished, Load, Store, Op, Go, Reckoning, Effect, Arm_effect, done_with, inside, operation_turn, reckoning_node, reckoning, assigning, writing, sequence, repeat, looping, choose, effect_node, effect}
use Rattle.nest_syntax.specs.Inside.{StaysInside}
use Rattle.nest_syntax.specs.Named.{decl_named}
use Rattle.nest_syntax.specs.Locals.{with_zeros, locals_of}
use Rattle.nest_syntax.specs.Outcome.{body_at}
use Rattle.nest_syntax.proofs.Equations.{arm_effect, arm_effect-is, effect-declare, effect-assign, effect-write, effect-if, effect-loop, loop_effect-is}
use Rattle.nest_syntax.proofs.Inductions.{stmt_induction}
use Rattle.nest_scope.specs.declared.occurrences.Binding.{Binding}
use Rattle.nest_scope.specs.declared.occurrences.Binding.TheVariants as binding
use Rattle.nest_scope.specs.declared.occurrences.Level.{Level}
use Rattle.nest_scope.specs.declared.occurrences.Level.TheVariants as level
use Rattle.nest_scope.specs.Occurrences.{Scope, bound, with_bound, inner, declared_at, variable_at, read_in, in_same_scope, in_stmt, in_arm, in_block, in_decls, in_regions, unbound, occurrences_of}
use Rattle.nest_scope.specs.Entered.{Entered, entered_of, declared_scope, is_schedulers}
use Rattle.nest_scope.proofs.Entered.{loop_is, program_bound, regions_invoked}
use Rattle.nest_scope.proofs.Equations.{occurrences-write, occurrences-if, occurrences-arm, occurrences-loop, behind-declare, behind-assign, behind-write, behind-if, behind-loop}
use Rattle.nest_scope.proofs.Around.{EnteredFrom, by_loop, by_write, IsFrom, program_around}
use Rattle.nest_check.specs.Inside.{TurnsStayInside}
use Rattle.nest_check.proofs.Writable.{IsKept, AreKept, kept-first, kept-second, kept-from_lines, bound_written, IsFree, IsWritable, writable-with, declared-no_array, variable-no_array, decls-writable}

-- what is located is inside
module _ (arrays : List Array) where
  abbrev Placed : ℕ × ℕ → Type 0
  Placed p = p.1 < slice_index_or (sizes_of arrays) p.0 0

  in_size : (n size : ℕ) (at : ℤ) (p : ℕ × ℕ) → option_map (λ (place : ℕ). (n, place)) (place_in size at) ≡ Some p → (n ≡ p.0) × (p.1 < size)
  in_size n size (pos k) p e = by (nat_lt k size) refl e
    where
      by : (b : Bool) → nat_lt k size ≡ b → option_map (λ (place : ℕ). (n, place)) (if b then Some k else None) ≡ Some p → (n ≡ p.0) × (p.1 < size)
      by true less e = let start : n ≡ p.0 = cc in let place : k ≡ p.1 = cc in (start, omega (arith, ltb-true k size less))
      by false less e = absurd (let no : None ≡ Some p = e in cc)
  in_size n size (negsuc k) p e = absurd (let no : None ≡ Some p = e in cc)

  located-is : (name : ℕ) (at : ℤ) (p : ℕ × ℕ) → located arrays name at ≡ Some p → Placed p × (array_of arrays name ≡ Some p.0)
  located-is name at p e = by (array_of arrays name) e
    where
      by : (o : Option ℕ) → option_and_then (λ (n : ℕ). option_map (λ (place : ℕ). (n, place)) (place_in (slice_index_or (sizes_of arrays) n 0) at)) o ≡ Some p → Placed p × (o ≡ Some p.0)
      by None e = absurd (let no : None ≡ Some p = e in cc)
      by (Some n) e = let there = in_size n (slice_index_or (sizes_of arrays) n 0) at p e in (subst (λ k. p.1 < slice_index_or (sizes_of arrays) k 0) there.0 there.1, ap Some there.0)

-- what an expression does
module _ (arrays : List Array) where
  abbrev Inside : Turn → Type 0
  Inside t = StaysInside arrays t

  abbrev ReckoningInside : Reckoning → Type 0
  ReckoningInside r = (line : Line) (scalars : List ℤ) (go : ℤ → Turn) → ((v : ℤ) → Inside (go v)) → Inside (r line scalars go)

  if-inside : (b : Bool) (x y : Turn) → Inside x → Inside y → Inside (if b then x else y)
  if-inside true x y a b = a
  if-inside false x y a b = b

  done-inside : (line : Line) (r : Result ℤ Cause) (go : ℤ → Turn) → ((v : ℤ) → Inside (go v)) → Inside (done_with line r go)
  done-inside line (Ok v) go h = h v
  done-inside line (Err cause) go h = tt

  load-inside : (line : Line) (o : Option (ℕ × ℕ)) (go : ℤ → Turn) → ((p : ℕ × ℕ) → o ≡ Some p → Placed arrays p) → ((v : ℤ) → Inside (go v)) → Inside (inside line o (λ array n. Load array n go))
  load-inside line None go there h = tt
  load-inside line (Some p) go there h = (there p refl, h)

  operation-inside : (o : Bin) (left : ℤ) (right : Reckoning) → ReckoningInside right → ReckoningInside (operation_turn o left right)
  operation-inside bin.Both left right ok = λ line scalars go h. if-inside (is_zero left) (go (pos 0)) (right line scalars (λ v. Go (go (truth v)))) (h (pos 0)) (ok line scalars (λ v. Go (go (truth v))) (λ v. h (truth v)))
  operation-inside bin.Either left right ok = λ line scalars go h. if-inside (is_zero left) (right line scalars (λ v. Go (go (truth v)))) (go (pos 1)) (ok line scalars (λ v. Go (go (truth v))) (λ v. h (truth v))) (h (pos 1))
  operation-inside o left right ok = λ line scalars go h. ok line scalars (λ v. done_with line (apply o left v) go) (λ v. done-inside line (apply o left v) go h)

  abbrev An_expr : Type 0
  An_expr = (e : Expr) × ReckoningInside (reckoning arrays e)

  abbrev reckoned_at : Expr-F Expr → Reckoning
  reckoned_at x = reckoning_node arrays (map-Expr Expr Reckoning (reckoning arrays) x)

  expr_layer : (y : Expr-F An_expr) → ReckoningInside (reckoned_at (map-Expr An_expr Expr (λ q. q.0) y))
  expr_layer (Expr-F.Number n) = λ line scalars go h. h n
  expr_layer (Expr-F.Scalar name) = λ line scalars go h. h (scalar_at scalars name)
  expr_layer (Expr-F.Word name place) = λ line scalars go h. place.1 line scalars (λ at. inside line (located arrays name at) (λ array n. Load array n go)) (λ at. load-inside line (located arrays name at) go (λ p e. (located-is arrays name at p e).0) h)
  expr_layer (Expr-F.Unary o part) = λ line scalars go h. part.1 line scalars (λ v. Op (go (apply_un o v))) (λ v. h (apply_un o v))
  expr_layer (Expr-F.Binary o left right) = λ line scalars go h. left.1 line scalars (λ v. operation_turn o v (reckoning arrays right.0) line scalars go) (λ v. operation-inside o v (reckoning arrays right.0) right.1 line scalars go h)
  expr_layer (Expr-F.Choice test first second) = λ line scalars go h. test.1 line scalars (λ v. Go (if is_zero v then reckoning arrays second.0 line scalars go else reckoning arrays first.0 line scalars go))
      (λ v. if-inside (is_zero v) (reckoning arrays second.0 line scalars go) (reckoning arrays first.0 line scalars go) (second.1 line scalars go h) (first.1 line scalars go h))

  reckoned : (e : Expr) → ReckoningInside (reckoning arrays e)
  reckoned = ind-Expr (λ e. ReckoningInside (reckoning arrays e)) (λ x y is. subst ReckoningInside (sym (fold-roll-Expr Reckoning (reckoning_node arrays) x)) (subst (λ z. ReckoningInside (reckoned_at z)) is (expr_layer y)))

-- what statements do, each in a scope where its occurrences keep the rules
module _ (arrays : List Array) where
  abbrev EffectInside : Effect → Type 0
  EffectInside f = (scalars : List ℤ) (go : List ℤ → Turn) → ((after : List ℤ) → Inside arrays (go after)) → Inside arrays (f scalars go)

  abbrev effect_of : List Stmt → Effect
  effect_of stmts = sequence (map (effect arrays) stmts)

  assigning-inside : (line : Line) (o : Option Bin) (old value : ℤ) (go : ℤ → Turn) → ((v : ℤ) → Inside arrays (go v)) → Inside arrays (assigning line o old value go)
  assigning-inside line None old value go h = h value
  assigning-inside line (Some o) old value go h = done-inside arrays line (apply o old value) go h

  store-inside : (line : Line) (place : Option (ℕ × ℕ)) (o : Option Bin) (value : ℤ) (go : Turn) → ((p : ℕ × ℕ) → place ≡ Some p → Placed arrays p × (is_fixed arrays p.0 ≡ false)) → Inside arrays go
      → Inside arrays (inside line place (λ array n. writing line o array n value go))
  store-inside line None o value go there h = tt
  store-inside line (Some p) None value go there h = ((there p refl).0, (there p refl).1, h)
  store-inside line (Some p) (Some o) value go there h = ((there p refl).0, λ old. done-inside arrays line (apply o old value) (λ new. Store p.0 p.1 new go) (λ new. ((there p refl).0, (there p refl).1, h)))

  write-inside : (line : Line) (name : ℕ) (place : Expr) (o : Change) (e : Expr) → IsFree arrays name → EffectInside (effect_node arrays (Stmt-F.Write line name place o e))
  write-inside line name place o e free = λ scalars go h.
      reckoned arrays place line scalars (λ at. reckoning arrays e line scalars (λ right. inside line (located arrays name at) (λ array n. writing line (operation_of o) array n right (go scalars)))) (λ at.
      reckoned arrays e line scalars (λ right. inside line (located arrays name at) (λ array n. writing line (operation_of o) array n right (go scalars))) (λ right.
      store-inside line (located arrays name at) (operation_of o) right (go scalars) (λ p is. let there = located-is arrays name at p is in (there.0, free p.0 there.1)) (h scalars)))

  repeat-inside : (n k : ℕ) (value_in : ℕ → ℤ) (name : ℕ) (body : Effect) → EffectInside body → EffectInside (repeat n k value_in name body)
  repeat-inside zero k value_in name body ok = λ scalars go h. h scalars
  repeat-inside (suc n) k value_in name body ok = λ scalars go h. ok (with_scalar scalars name (value_in k)) (λ after. Go (repeat n (suc k) value_in name body after go)) (λ after. repeat-inside n (suc k) value_in name body ok after go h)

  looping-inside : (line : Line) (r : Result ℕ Cause) (value_in : ℕ → ℤ) (name : ℕ) (body : Effect) → EffectInside body → EffectInside (looping line r value_in name body)
  looping-inside line (Ok n) value_in name body ok = repeat-inside n 0 value_in name body ok
  looping-inside line (Err cause) value_in name body ok = λ scalars go h. tt

  -- in each scope, what a statement does, and the scope behind it
  abbrev StmtInside : Stmt → Type 0
  StmtInside s = (at : Level) (scope : Scope) → IsWritable arrays scope → AreKept (in_stmt s at scope).occurrences → EffectInside (effect arrays s) × IsWritable arrays (in_stmt s at scope).behind

  block-inside : (stmts : List Stmt) → Each StmtInside stmts → (at : Level) (scope : Scope) → IsWritable arrays scope → AreKept (in_block stmts at scope) → EffectInside (effect_of stmts)
  block-inside [] each at scope writable kept = λ scalars go h. h scalars
  block-inside (s ∷ stmts) each at scope writable kept =
      let walked = in_stmt s at scope in
      let others = in_block stmts at walked.behind in
      let here = each.0 at scope writable (kept-first walked.occurrences others kept) in
      let rest = block-inside stmts each.1 at walked.behind here.1 (kept-second walked.occurrences others kept) in
      λ scalars go h. here.0 scalars (λ after. effect_of stmts after go) (λ after. rest after go h)

  arms-inside : (arms : List Arm) → Each (λ (a : Arm). Each StmtInside a.body) arms → (at : Level) (scope : Scope) → IsWritable arrays scope → AreKept (in_same_scope (map in_arm arms) at scope) → (other : Effect) → EffectInside other
      → EffectInside (choose (map (arm_effect arrays) arms) other)
  arms-inside [] each at scope writable kept other does = does
  arms-inside (a ∷ arms) each at scope writable kept other does =
      let others = in_same_scope (map in_arm arms) at scope in
      let test = read_in a.line at scope a.test in
      let parts : AreKept (test ++ in_block a.body at scope) = subst AreKept (occurrences-arm at scope a) (kept-first (in_arm a at scope) others kept) in
      let body = block-inside a.body each.0 at scope writable (kept-second test (in_block a.body at scope) parts) in
      let rest = arms-inside arms each.1 at scope writable (kept-second (in_arm a at scope) others kept) other does in
      λ scalars go h.
      let otherwise : Turn = choose (map (arm_effect arrays) arms) other scalars go in
      subst (λ (f : Arm_effect). Inside arrays (f scalars otherwise go)) (sym (arm_effect-is arrays a))
      (reckoned arrays a.test a.line scalars (λ v. Go (if is_zero v then otherwise else effect_of a.body scalars go)) (λ v. if-inside arrays (is_zero v) otherwise (effect_of a.body scalars go) (rest scalars go h) (body scalars go h)))

  stmt-inside : (s : Stmt) → StmtInside s
  stmt-inside = stmt_induction StmtInside
      (λ line name e at scope writable kept. (
        subst EffectInside (sym (effect-declare arrays line name e)) (λ scalars go h. reckoned arrays e line scalars (λ new. Op (go (with_scalar scalars name new))) (λ new. h (with_scalar scalars name new))),
        subst (IsWritable arrays) (sym (behind-declare at scope line name e)) (writable-with arrays scope name (declared_at at) (declared-no_array at) writable),
      ))
      (λ line name o e at scope writable kept. (
        subst EffectInside (sym (effect-assign arrays line name o e)) (λ scalars go h. reckoned arrays e line scalars (λ right. assigning line (operation_of o) (scalar_at scalars name) right (λ new. Op (go (with_scalar scalars name new))))
            (λ right. assigning-inside line (operation_of o) (scalar_at scalars name) right (λ new. Op (go (with_scalar scalars name new))) (λ new. h (with_scalar scalars name new)))),
        subst (IsWritable arrays) (sym (behind-assign at scope line name o e)) writable,
      ))
      (λ line name place o e at scope writable kept.
      let parts = subst AreKept (occurrences-write at scope line name place o e) kept in (
        subst EffectInside (sym (effect-write arrays line name place o e)) (write-inside line name place o e (writable name (bound_written (bound scope name) parts.0.known parts.0.constant))),
        subst (IsWritable arrays) (sym (behind-write at scope line name place o e)) writable,
      ))
      (λ arms other in_arms in_other at scope writable kept.
      let tested = in_same_scope (map in_arm arms) at scope in
      let last = in_block other at scope in
      let parts : AreKept (tested ++ last) = subst AreKept (occurrences-if at scope arms other) kept in (
        subst EffectInside (sym (effect-if arrays arms other)) (arms-inside arms in_arms at scope writable (kept-first tested last parts) (effect_of other) (block-inside other in_other at scope writable (kept-second tested last parts))),
        subst (IsWritable arrays) (sym (behind-if at scope arms other)) writable,
      ))
      (λ l in_body at scope writable kept.
      let within = with_bound scope l.name (variable_at at) in
      let low = read_in l.line at scope l.low in
      let high = read_in l.line at within l.high in
      let last = in_block l.body (inner at) within in
      let parts = subst AreKept (occurrences-loop at scope l) (subst AreKept (loop_is at l scope) kept) in
      let body = block-inside l.body in_body (inner at) within (writable-with arrays scope l.name (variable_at at) (variable-no_array at) writable) (kept-second high last (kept-second low (high ++ last) parts.1)) in (
        subst EffectInside (sym (effect-loop arrays l ∙ loop_effect-is arrays l))
            (λ scalars go h. reckoned arrays l.low l.line scalars (λ first. reckoning arrays l.high l.line scalars (λ end. looping l.line (counted (turns first end l.step l.through)) (variable first l.step) l.name (effect_of l.body) scalars go))
            (λ first. reckoned arrays l.high l.line scalars (λ end. looping l.line (counted (turns first end l.step l.through)) (variable first l.step) l.name (effect_of l.body) scalars go)
            (λ end. looping-inside l.line (counted (turns first end l.step l.through)) (variable first l.step) l.name (effect_of l.body) body scalars go h))),
        subst (IsWritable arrays) (sym (behind-loop at scope l)) writable,
      ))

  each-inside : (stmts : List Stmt) → Each StmtInside stmts
  each-inside [] = tt
  each-inside (s ∷ stmts) = (stmt-inside s, each-inside stmts)

  -- the bodies that are entered
  scheduler-no_array : (to : Binding) → is_schedulers to ≡ true → to ≡ binding.Array → ⊥
  scheduler-no_array to is array = let no : false ≡ true = sym (ap is_schedulers array) ∙ is in cc

  stays : (to : Binding) → is_schedulers to ≡ true → (scope : Scope) (name : ℕ) → IsWritable arrays scope → IsWritable arrays (with_bound scope name to)
  stays to is scope name writable = writable-with arrays scope name to (scheduler-no_array to is) writable

  entered-writable : (e : Entered) (around : Scope) → EnteredFrom around e → IsWritable arrays around → IsWritable arrays e.scope
  entered-writable _ around (by_loop l) writable = writable-with arrays around l.name binding.LoopVariable (variable-no_array level.Items) writable
  entered-writable _ around (by_write line name place o e) writable = writable

  abbrev BodyInside : List Stmt → Type 0
  BodyInside body = EffectInside (effect_of body)

  bodies-inside : (entered : List Entered) → Each (IsFrom (IsWritable arrays)) entered → Each (λ (e : Entered). AreKept (in_block e.body.stmts e.level e.scope)) entered → Each BodyInside (statements_of_each (map (λ (e : Entered). e.body) entered))
  bodies-inside [] from kept = tt
  bodies-inside (e ∷ entered) from kept =
      (block-inside e.body.stmts (each-inside e.body.stmts) e.level e.scope (entered-writable e from.0.0 from.0.1.1 from.0.1.0) kept.0, bodies-inside entered from.1 kept.1)

  body-inside : (bodies : List (List Stmt)) (n : ℕ) → Each BodyInside bodies → EffectInside (effect_of (body_at bodies n))
  body-inside [] n all = λ scalars go h. h scalars
  body-inside (body ∷ bodies) zero all = all.0
  body-inside (body ∷ bodies) (suc n) all = body-inside bodies n all.1

pub turns_stay_inside : TurnsStayInside
turns_stay_inside program named keeps body scalars =
    let opening = unbound (length program.names) in
    let decls = in_decls program.decls opening in
    let regions = in_regions program.regions (declared_scope program) in
    let arrays = arrays_of program.decls in
    let kept : AreKept (occurrences_of program) = kept-from_lines (occurrences_of program) keeps.declared_once keeps.known keeps.constant in
    let writable : IsWritable arrays (declared_scope program) = decls-writable program.decls opening (kept-first decls regions kept) (subst (λ n. IsTrue (list_all (decl_named n) program.decls)) (sym (length-replicate (length program.names) binding.Unbound)) named.decls) in
    let inside = bodies-inside arrays (entered_of program) (program_around (IsWritable arrays) (stays arrays) program writable) (program_bound IsKept program kept) in
    let bodies : Each (BodyInside arrays) (bodies_of program) = subst (λ bs. Each (BodyInside arrays) (statements_of_each bs)) (regions_invoked (declared_scope program) program.regions) inside in
    body-inside arrays (bodies_of program) body bodies (with_zeros (locals_of (body_at (bodies_of program) body)) scalars) (λ after. Finished) (λ after. tt)
