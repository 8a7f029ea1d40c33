-- What a form means: in a turn the value of an expression is that of its form, but for a multiple of 2^64. And each read
-- of a written array is one of the accesses of the expression.
use Rattle.std.proofs.Common.{◌≡◌, ℕ, zero, suc, ◌<◌, ℤ, pos, negsuc, ◌+ℤ◌, ◌-ℤ◌, ◌*ℤ◌, neg_ℤ, Bool, true, false, not, ◌&&◌, ◌||◌, if◌then◌else◌, Option, Some, None, Result, Ok, Err, List, [], ◌∷◌, ◌++◌, length, refl, sym, ap, ◌∙◌, subst, arith}
use Rattle.std.proofs.lemmas.Int.{ints}
use Rattle.std.specs.List.{list_all}
use Rattle.std.specs.Option.{option_map, option_and_then, option_map_or}
use Rattle.std.proofs.Math.IntN.{zero-*ℤ, *ℤ-one, *ℤ_comm, suc_ℤ-*ℤ, pred_ℤ-*ℤ}
use Rattle.nest_syntax.specs.declared.names.Line.{Line}
use Rattle.nest_syntax.specs.declared.operators.Cause.{Cause}
use Rattle.nest_syntax.specs.declared.operators.Un.{Un}
use Rattle.nest_syntax.specs.declared.operators.Un.TheVariants as un
use Rattle.nest_syntax.specs.declared.operators.Bin.{Bin}
use Rattle.nest_syntax.specs.declared.operators.Bin.TheVariants as bin
use Rattle.nest_syntax.specs.declared.tree.Expr.{Expr, Expr-F, map-Expr, ind-Expr, fold-roll-Expr, para-roll-Expr, roll-Expr}
use Rattle.nest_syntax.specs.declared.tree.Loop.{Loop}
use Rattle.nest_syntax.specs.declared.tree.Program.{Program}
use Rattle.nest_syntax.specs.Words.{wrap, is_zero, truth, apply, apply_un}
use Rattle.nest_syntax.specs.Arrays.{Array, arrays_of, array_of, is_fixed, located, place_of, sizes_of}
use Rattle.nest_syntax.specs.Value.{scalar_at, is_written}
use Rattle.nest_syntax.specs.Turn.{Turn, Load, Op, Go, Reckoning, reckoning, reckoning_node, operation_turn, done_with, inside}
use Rattle.nest_syntax.specs.Among.{Each}
use Rattle.nest_syntax.proofs.Inductions.{each_left, each_right}
use Rattle.dep_graph.specs.declared.forms.Form.{Form}
use Rattle.dep_graph.specs.declared.forms.Symbol.{Symbol}
use Rattle.dep_graph.specs.declared.around.Around.{Around}
use Rattle.dep_graph.specs.declared.spans.Span.{Span}
use Rattle.dep_graph.specs.declared.accesses.Subscript.{Subscript}
use Rattle.dep_graph.specs.declared.accesses.Access.{Access}
use Rattle.dep_graph.specs.Forms.{symbol_of, literal_form, symbol_form, plus, times, negated, is_literal, product, with_both, unary_form, binary_form, form_node, form_of}
use Rattle.dep_graph.specs.Spans.{span_of, narrow}
use Rattle.dep_graph.specs.Accesses.{subscript_with, subscript_of, access, reads_node, reads}
use Rattle.dep_graph.proofs.Whole.{Same, same_plus, same_times, same_wrap, grouped}
use Rattle.dep_graph.proofs.Values.{Valuation, dot, value_of, symbol_value, IsSmall, IsWhole, value_plus, value_times, value_literal, value_symbol, length_sums, length_times, whole_literal, whole_symbol, literal_value}
use Rattle.dep_graph.proofs.Reach.{Between, loop_part, FitsAround, within_span}
use Rattle.dep_graph.proofs.Touching.{Claim, Touches, if-touches, done-touches}

abbrev ok_value : Result ℤ Cause → ℤ
ok_value (Ok x) = x
ok_value (Err cause) = pos 0

minus_one : (x : ℤ) → negsuc 0 *ℤ x ≡ neg_ℤ x
minus_one x = omega (arith, ints, pred_ℤ-*ℤ (pos 0) x, zero-*ℤ x)

module _ (v : Valuation) where
  -- a value of an expression that has this form
  abbrev pub IsValueOf : Option Form → ℤ → Type 0
  IsValueOf None x = Unit {0}
  IsValueOf (Some f) x = IsWhole f × Same x (value_of v f)

  -- a subscript's value; the part over the loops around lies in its span
  abbrev pub IsSubscript : Option Subscript → ℤ → Type 0
  IsSubscript None x = Unit {0}
  IsSubscript (Some s) x = Same x (value_of v s.form) × Between s.span.least s.span.greatest (loop_part v s.form)

  negated_value : (f : Form) (x : ℤ) → IsWhole f → Same x (value_of v f) → IsWhole (negated f) × Same (wrap (neg_ℤ x)) (value_of v (negated f))
  negated_value f x whole same = (
    length_times (negsuc 0) f.scalars ∙ whole,
    same_wrap (neg_ℤ x) ∙ ap wrap (sym (minus_one x)) ∙ same_times (negsuc 0) (negsuc 0) x (value_of v f) refl same ∙ sym (value_times v (negsuc 0) f),
  )

  unary_value : (o : Un) (part : Option Form) (x : ℤ) → IsValueOf part x → IsValueOf (option_and_then (unary_form o) part) (apply_un o x)
  unary_value o None x is = tt
  unary_value un.Neg (Some f) x is = negated_value f x is.0 is.1
  unary_value un.Not (Some f) x is = tt
  unary_value un.Flip (Some f) x is = tt

  sum_value : (f g : Form) (a b : ℤ) → IsWhole f → IsWhole g → Same a (value_of v f) → Same b (value_of v g) → IsWhole (plus f g) × Same (wrap (a +ℤ b)) (value_of v (plus f g))
  sum_value f g a b whole whole' first second = (
    length_sums f.scalars g.scalars (whole ∙ sym whole') ∙ whole,
    same_wrap (a +ℤ b) ∙ same_plus a (value_of v f) b (value_of v g) first second ∙ sym (value_plus v f g whole whole'),
  )

  less_is : (a b : ℤ) → a -ℤ b ≡ a +ℤ neg_ℤ b
  less_is a b = omega (arith, ints)

  difference_value : (f g : Form) (a b : ℤ) → IsWhole f → IsWhole g → Same a (value_of v f) → Same b (value_of v g) → IsWhole (plus f (negated g)) × Same (wrap (a -ℤ b)) (value_of v (plus f (negated g)))
  difference_value f g a b whole whole' first second =
      let minus = negated_value g b whole' second in
      let all = sum_value f (negated g) a (neg_ℤ b) whole minus.0 first (sym (same_wrap (neg_ℤ b)) ∙ minus.1) in
      (all.0, ap (λ n. wrap (wrap n)) (less_is a b) ∙ all.1)

  scaled_value : (k : ℤ) (g : Form) (a b : ℤ) → IsWhole g → Same a k → Same b (value_of v g) → IsWhole (times k g) × Same (wrap (a *ℤ b)) (value_of v (times k g))
  scaled_value k g a b whole first second = (
    length_times k g.scalars ∙ whole,
    same_wrap (a *ℤ b) ∙ same_times a k b (value_of v g) first second ∙ sym (value_times v k g),
  )

  product_value : (f g : Form) (a b : ℤ) → IsWhole f → IsWhole g → Same a (value_of v f) → Same b (value_of v g) → IsValueOf (product f g) (wrap (a *ℤ b))
  product_value f g a b whole whole' first second = by_first (is_literal f) refl
    where
      by_second : (t : Bool) → is_literal g ≡ t → IsValueOf (if t then Some (times g.literal f) else None) (wrap (a *ℤ b))
      by_second true is = subst (λ n. IsWhole (times g.literal f) × Same (wrap n) (value_of v (times g.literal f))) (*ℤ_comm b a) (scaled_value g.literal f b a whole (second ∙ ap wrap (literal_value v g is)) first)
      by_second false is = tt

      by_first : (t : Bool) → is_literal f ≡ t → IsValueOf (if t then Some (times f.literal g) else if is_literal g then Some (times g.literal f) else None) (wrap (a *ℤ b))
      by_first true is = scaled_value f.literal g a b whole' (first ∙ ap wrap (literal_value v f is)) second
      by_first false is = by_second (is_literal g) refl

  -- the result of an operation on two parts
  binary_value : (o : Bin) (left right : Option Form) (a b x : ℤ) → IsValueOf left a → IsValueOf right b → apply o a b ≡ Ok x → IsValueOf (with_both (binary_form o) left right) x
  binary_value o None right a b x first second e = tt
  binary_value o (Some f) None a b x first second e = tt
  binary_value bin.Add (Some f) (Some g) a b x first second e = subst (IsValueOf (Some (plus f g))) (ap ok_value e) (sum_value f g a b first.0 second.0 first.1 second.1)
  binary_value bin.Sub (Some f) (Some g) a b x first second e = subst (IsValueOf (Some (plus f (negated g)))) (ap ok_value e) (difference_value f g a b first.0 second.0 first.1 second.1)
  binary_value bin.Mul (Some f) (Some g) a b x first second e = subst (IsValueOf (product f g)) (ap ok_value e) (product_value f g a b first.0 second.0 first.1 second.1)
  binary_value o (Some f) (Some g) a b x first second e = tt

  -- the two that evaluate only what they need have no form
  both_value : (left right : Option Form) (x : ℤ) → IsValueOf (with_both (binary_form bin.Both) left right) x
  both_value None right x = tt
  both_value (Some f) None x = tt
  both_value (Some f) (Some g) x = tt

  either_value : (left right : Option Form) (x : ℤ) → IsValueOf (with_both (binary_form bin.Either) left right) x
  either_value None right x = tt
  either_value (Some f) None x = tt
  either_value (Some f) (Some g) x = tt

  -- a form that is kept with its span
  kept_value : (around : Around) (form : Option Form) (x : ℤ) → FitsAround around v → IsValueOf form x → IsSubscript (option_and_then (subscript_with around) form) x
  kept_value around None x fits is = tt
  kept_value around (Some f) x fits is = by_span (narrow (span_of around f)) refl
    where
      by_span : (s : Option Span) → narrow (span_of around f) ≡ s → IsSubscript (option_map (λ s. record { form = f; span = s }) s) x
      by_span None e = tt
      by_span (Some s) e = (is.1, within_span around v f s fits e)

  symbol_value_is : (o : Option Symbol) (x : ℤ) → ((s : Symbol) → o ≡ Some s → IsSmall s × (x ≡ symbol_value v s)) → IsValueOf (option_map symbol_form o) x
  symbol_value_is None x agrees = tt
  symbol_value_is (Some s) x agrees = let here = agrees s refl in (whole_symbol s, ap wrap (here.1 ∙ sym (value_symbol v s here.0)))

-- the expressions of a body, with these loops around them, on these scalars
module _ (program : Program) (nest : Loop) (P : Claim) (around : Around) (v : Valuation) (fits : FitsAround around v) (scalars : List ℤ) where
  abbrev arrays : List Array
  arrays = arrays_of program.decls

  -- the scalars have the values of their symbols
  abbrev pub Agrees : Type 0
  Agrees = (name : ℕ) (s : Symbol) → symbol_of program nest around name ≡ Some s → IsSmall s × (scalar_at scalars name ≡ symbol_value v s)

  -- an access, wherever its subscript has its value, is claimed
  abbrev pub Held : Access → Type 0
  Held a = (array place : ℕ) (at : ℤ) → located arrays a.at.array at ≡ Some (array, place) → IsSubscript v a.subscript at → P array place a.at.write

  abbrev form : Expr → Option Form
  form = form_of (symbol_of program nest around)

  abbrev touches : Turn → Type 0
  touches = Touches arrays P

  abbrev ReckoningTouches : Reckoning → Option Form → (Line → List Access) → Type 0
  ReckoningTouches r f accesses = (line : Line) → Each Held (accesses line) → (go : ℤ → Turn) → ((x : ℤ) → IsValueOf v f x → touches (go x)) → touches (r line scalars go)

  abbrev pub ExprTouches : Expr → Type 0
  ExprTouches e = ReckoningTouches (reckoning arrays e) (form e) (λ line. reads program nest line around e)

  written_is : (name : ℕ) (array : ℕ) → array_of arrays name ≡ Some array → is_fixed arrays array ≡ false → is_written arrays name ≡ true
  written_is name array is free = ap (λ o. option_map_or (λ n. if is_fixed arrays n then false else true) o false) is ∙ ap (λ b. if b then false else true) free

  located_is : (name : ℕ) (at : ℤ) (p : ℕ × ℕ) → located arrays name at ≡ Some p → array_of arrays name ≡ Some p.0
  located_is name at p e = by (array_of arrays name) e
    where
      by_place : (n : ℕ) (o : Option ℕ) → option_map (λ (place : ℕ). (n, place)) o ≡ Some p → Some n ≡ Some p.0
      by_place n None e = absurd cc
      by_place n (Some place) e = ap Some (let same : (n, place) ≡ p = cc in ap (λ (q : ℕ × ℕ). q.0) same)

      by : (o : Option ℕ) → option_and_then (λ (n : ℕ). option_map (λ (place : ℕ). (n, place)) (place_of (sizes_of arrays) n at)) o ≡ Some p → o ≡ Some p.0
      by None e = absurd cc
      by (Some n) e = by_place n (place_of (sizes_of arrays) n at) e

  -- an access of an array that isn't `const`
  pub access_claimed : (name : ℕ) (place : Expr) (write : Bool) (line : Line) (at : ℤ) (p : ℕ × ℕ) → Each Held (access program nest around name place write line) → located arrays name at ≡ Some p → is_fixed arrays p.0 ≡ false → IsValueOf v (form place) at → P p.0 p.1 write
  access_claimed name place write line at p held is free value = by_written (is_written arrays name) (written_is name p.0 (located_is name at p is) free) held
    where
      here : Access
      here = record { at = record { array = name; write = write; line = line }; subscript = subscript_of program nest around place }

      by_written : (b : Bool) → b ≡ true → Each Held (if b then here ∷ [] else []) → P p.0 p.1 write
      by_written true e h = h.0 p.0 p.1 at is (kept_value v around (form place) at fits value)
      by_written false e h = absurd cc

  load-touches : (name : ℕ) (place : Expr) (line : Line) (at : ℤ) (o : Option (ℕ × ℕ)) (go : ℤ → Turn) → located arrays name at ≡ o → Each Held (access program nest around name place false line) → IsValueOf v (form place) at → ((x : ℤ) → touches (go x)) → touches (inside line o (λ array n. Load array n go))
  load-touches name place line at None go is held value h = tt
  load-touches name place line at (Some p) go is held value h = (λ free. access_claimed name place false line at p held is free value, h)

  operation-touches : (o : Bin) (a : ℤ) (left : Option Form) (right : Reckoning) (f : Option Form) (accesses : Line → List Access) → IsValueOf v left a → ReckoningTouches right f accesses → (line : Line) → Each Held (accesses line) → (go : ℤ → Turn) → ((x : ℤ) → IsValueOf v (with_both (binary_form o) left f) x → touches (go x))
      → touches (operation_turn o a right line scalars go)
  operation-touches bin.Both a left right f accesses is ok line held go h = if-touches arrays P (is_zero a) (go (pos 0)) (right line scalars (λ x. Go (go (truth x)))) (h (pos 0) (both_value v left f (pos 0))) (ok line held (λ x. Go (go (truth x))) (λ x value. h (truth x) (both_value v left f (truth x))))
  operation-touches bin.Either a left right f accesses is ok line held go h = if-touches arrays P (is_zero a) (right line scalars (λ x. Go (go (truth x)))) (go (pos 1)) (ok line held (λ x. Go (go (truth x))) (λ x value. h (truth x) (either_value v left f (truth x)))) (h (pos 1) (either_value v left f (pos 1)))
  operation-touches o a left right f accesses is ok line held go h = ok line held (λ b. done_with line (apply o a b) go) (λ b value. done-touches arrays P line (apply o a b) go (λ x e. h x (binary_value v o left f a b x is value e)))

  abbrev An_expr : Type 0
  An_expr = (e : Expr) × ExprTouches e

  abbrev reckoned_at : Expr-F Expr → Reckoning
  reckoned_at x = reckoning_node arrays (map-Expr Expr Reckoning (reckoning arrays) x)

  abbrev form_at : Expr-F Expr → Option Form
  form_at x = form_node (symbol_of program nest around) (map-Expr Expr (Option Form) form x)

  abbrev reads_at : Expr-F Expr → Line → List Access
  reads_at x line = reads_node program nest line around (map-Expr Expr (Expr × List Access) (λ e. (e, reads program nest line around e)) x)

  module _ (agrees : Agrees) where
    expr_layer : (y : Expr-F An_expr) → ReckoningTouches (reckoned_at (map-Expr An_expr Expr (λ q. q.0) y)) (form_at (map-Expr An_expr Expr (λ q. q.0) y)) (reads_at (map-Expr An_expr Expr (λ q. q.0) y))
    expr_layer (Expr-F.Number n) = λ line held go h. h n (whole_literal n, ap wrap (sym (value_literal v n)))
    expr_layer (Expr-F.Scalar name) = λ line held go h. h (scalar_at scalars name) (symbol_value_is v (symbol_of program nest around name) (scalar_at scalars name) (agrees name))
    expr_layer (Expr-F.Word name place) = λ line held go h.
        let own = reads program nest line around place.0 in let last = access program nest around name place.0 false line in
        place.1 line (each_left Held own last held) (λ at. inside line (located arrays name at) (λ array n. Load array n go))
        (λ at value. load-touches name place.0 line at (located arrays name at) go refl (each_right Held own last held) value (λ x. h x tt))
    expr_layer (Expr-F.Unary o part) = λ line held go h. part.1 line held (λ x. Op (go (apply_un o x))) (λ x value. h (apply_un o x) (unary_value v o (form part.0) x value))
    expr_layer (Expr-F.Binary o left right) = λ line held go h.
        let first = reads program nest line around left.0 in let second = reads program nest line around right.0 in
        left.1 line (each_left Held first second held) (λ a. operation_turn o a (reckoning arrays right.0) line scalars go)
        (λ a value. operation-touches o a (form left.0) (reckoning arrays right.0) (form right.0) (λ at. reads program nest at around right.0) value right.1 line (each_right Held first second held) go h)
    expr_layer (Expr-F.Choice test first second) = λ line held go h.
        let one = reads program nest line around test.0 in let two = reads program nest line around first.0 in let three = reads program nest line around second.0 in
        let later = each_right Held one (two ++ three) held in
        test.1 line (each_left Held one (two ++ three) held) (λ x. Go (if is_zero x then reckoning arrays second.0 line scalars go else reckoning arrays first.0 line scalars go))
        (λ x value. if-touches arrays P (is_zero x) (reckoning arrays second.0 line scalars go) (reckoning arrays first.0 line scalars go) (second.1 line (each_right Held two three later) go (λ y is. h y tt)) (first.1 line (each_left Held two three later) go (λ y is. h y tt)))

    expr_step : (x : Expr-F Expr) (y : Expr-F An_expr) → map-Expr An_expr Expr (λ q. q.0) y ≡ x → ExprTouches (roll-Expr x)
    expr_step x y is =
        subst (λ r. ReckoningTouches r (form (roll-Expr x)) (λ line. reads program nest line around (roll-Expr x))) (sym (fold-roll-Expr Reckoning (reckoning_node arrays) x))
        (subst (λ f. ReckoningTouches (reckoned_at x) f (λ line. reads program nest line around (roll-Expr x))) (sym (fold-roll-Expr (Option Form) (form_node (symbol_of program nest around)) x))
        (subst (λ l. ReckoningTouches (reckoned_at x) (form_at x) l) (λ i line. sym (para-roll-Expr (List Access) (reads_node program nest line around) x) i)
        (subst (λ z. ReckoningTouches (reckoned_at z) (form_at z) (reads_at z)) is (expr_layer y))))

    -- the value of each expression is that of its form, and its reads are claimed
    pub expr_touches : (e : Expr) → ExprTouches e
    expr_touches = ind-Expr ExprTouches expr_step
