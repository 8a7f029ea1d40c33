-- The tests part: accesses of two turns that a test parts are never at one place.
use Rattle.std.proofs.Common.{◌≡◌, ℕ, zero, suc, ◌+◌, ◌-◌, ◌*◌, ◌/◌, ◌%◌, ◌^◌, ◌<◌, ◌≤◌, ◌==◌, nat_le, nat_lt, ℤ, pos, negsuc, ◌+ℤ◌, ◌-ℤ◌, ◌*ℤ◌, neg_ℤ, unsigned_abs, Bool, true, false, not, ◌&&◌, ◌||◌, ◌⊎◌, inl, inr, if◌then◌else◌, List, [], ◌∷◌, refl, sym, ap, ◌∙◌, subst, arith}
use Rattle.std.specs.Int.{w64, int_wrap, cast_signed, cast_unsigned, int_rem_euclid}
use Rattle.std.specs.Ordering.{int_eq}
use Rattle.std.proofs.lemmas.Int.{ints, int_wrap_fits, int_wrap-add_same, fits_signed_from_abs, unsigned_abs-mul, of_z-to_z}
use Rattle.std.proofs.lemmas.Bool.{leb-true, ltb-true, eqb-true, eq-eqb, cases_lt}
use Rattle.std.proofs.lemmas.Bool.Decides.{Decides-int_eq}
use Rattle.std.proofs.Math.IntN.{*ℤ-one, *ℤ-zero, zero-*ℤ}
use Rattle.std.proofs.Math.Nat.{mod-lt, mul-mod_left, mul-le-mul, mul-le-mul_left, mul-le-mul_right}
use Rattle.std.proofs.lemmas.Nat.{div-add-mod'}
use Rattle.std.specs.Cmp.Rules.{signed_items}
use Rattle.data_local.proofs.Parts.{either}
use Rattle.nest_syntax.specs.Words.{wrap, is_zero, variable}
use Rattle.dep_graph.specs.declared.forms.Form.{Form}
use Rattle.dep_graph.specs.declared.accesses.Subscript.{Subscript}
use Rattle.dep_graph.specs.Kinds.{same_factors, do_match, is_moderate, stride, is_flat, is_multiple, distance, stands_apart, is_skipped, is_elsewhere, passes_test}
use Rattle.dep_graph.proofs.Whole.{Same, spread, spread_right}
use Rattle.dep_graph.proofs.Values.{Valuation, dot, value_of, and_left, and_right, zero_is}
use Rattle.dep_graph.proofs.Reach.{Between, loop_part}

-- sizes
size_sum : (a b z : ℤ) → z ≡ a +ℤ b → unsigned_abs z ≤ unsigned_abs a + unsigned_abs b
size_sum (pos a) (pos b) (pos z) e = omega (arith, ints)
size_sum (pos a) (pos b) (negsuc z) e = omega (arith, ints)
size_sum (pos a) (negsuc b) (pos z) e = omega (arith, ints)
size_sum (pos a) (negsuc b) (negsuc z) e = omega (arith, ints)
size_sum (negsuc a) (pos b) (pos z) e = omega (arith, ints)
size_sum (negsuc a) (pos b) (negsuc z) e = omega (arith, ints)
size_sum (negsuc a) (negsuc b) (pos z) e = omega (arith, ints)
size_sum (negsuc a) (negsuc b) (negsuc z) e = omega (arith, ints)

size_opposite : (a b : ℤ) → a +ℤ b ≡ pos 0 → unsigned_abs a ≡ unsigned_abs b
size_opposite (pos a) (pos b) e = omega (arith, ints)
size_opposite (pos a) (negsuc b) e = omega (arith, ints)
size_opposite (negsuc a) (pos b) e = omega (arith, ints)
size_opposite (negsuc a) (negsuc b) e = omega (arith, ints)

size_between : (low high z : ℤ) (a b bound : ℕ) → z ≡ low +ℤ pos a → high ≡ z +ℤ pos b → unsigned_abs low < bound → unsigned_abs high < bound → unsigned_abs z < bound
size_between (pos m) (pos n) (pos z) a b bound e f g h = omega (arith, ints)
size_between (pos m) (pos n) (negsuc z) a b bound e f g h = omega (arith, ints)
size_between (pos m) (negsuc n) (pos z) a b bound e f g h = omega (arith, ints)
size_between (pos m) (negsuc n) (negsuc z) a b bound e f g h = omega (arith, ints)
size_between (negsuc m) (pos n) (pos z) a b bound e f g h = omega (arith, ints)
size_between (negsuc m) (pos n) (negsuc z) a b bound e f g h = omega (arith, ints)
size_between (negsuc m) (negsuc n) (pos z) a b bound e f g h = omega (arith, ints)
size_between (negsuc m) (negsuc n) (negsuc z) a b bound e f g h = omega (arith, ints)

-- a number that differs from 0 by a multiple of 2^64, and is smaller
small_zero : (z : ℤ) → unsigned_abs z < 2 ^ 63 → Same z (pos 0) → z ≡ pos 0
small_zero z small same = sym (int_wrap_fits w64 z (fits_signed_from_abs w64 z small)) ∙ same ∙ int_wrap_fits w64 (pos 0) (fits_signed_from_abs w64 (pos 0) (omega arith))

-- its size is a multiple of 2^64
bits_zero : (n : ℕ) → n < 2 ^ 64 → cast_signed w64 n ≡ pos 0 → n ≡ 0
bits_zero n h e = sym (of_z-to_z w64 n h) ∙ ap (cast_unsigned w64) e

wrapped_size : (z : ℤ) → Same z (pos 0) → unsigned_abs z % 2 ^ 64 ≡ 0
unfolding int_wrap
wrapped_size (pos n) e = bits_zero (n % 2 ^ 64) (mod-lt n (omega arith)) e
wrapped_size (negsuc n) e =
    let last : 2 ^ 64 - 1 - n % 2 ^ 64 ≡ 0 = bits_zero (2 ^ 64 - 1 - n % 2 ^ 64) (omega arith) e in
    let below : n % 2 ^ 64 < 2 ^ 64 = mod-lt n (omega arith) in
    let parts : n / 2 ^ 64 * 2 ^ 64 + n % 2 ^ 64 ≡ n = div-add-mod' n (2 ^ 64) in
    let whole : suc n ≡ suc (n / 2 ^ 64) * 2 ^ 64 = omega arith in
    ap (λ m. m % 2 ^ 64) whole ∙ mul-mod_left (suc (n / 2 ^ 64)) (2 ^ 64)

same_difference : (x y : ℤ) → Same x y → Same (x -ℤ y) (pos 0)
same_difference x y e = ap wrap (less x y) ∙ int_wrap-add_same w64 x y (neg_ℤ y) e ∙ ap wrap (none y)
  where
    less : (x y : ℤ) → x -ℤ y ≡ x +ℤ neg_ℤ y
    less x y = omega (arith, ints)

    none : (y : ℤ) → y +ℤ neg_ℤ y ≡ pos 0
    none y = omega (arith, ints)

-- the difference of two subscripts with one factor of the variable, over the whole numbers
module _ (f g : Form) (v w : Valuation) (factor : f.variable ≡ g.variable) (factors : f.scalars ≡ g.scalars) (scalars : v.scalars ≡ w.scalars) where
  abbrev apart_by : ℤ
  apart_by = f.variable *ℤ (v.variable -ℤ w.variable) +ℤ ((distance f g +ℤ loop_part v f) -ℤ loop_part w g)

  pub difference_is : value_of v f -ℤ value_of w g ≡ apart_by
  difference_is =
      let own : f.variable *ℤ v.variable ≡ f.variable *ℤ (v.variable -ℤ w.variable) +ℤ f.variable *ℤ w.variable = ap (λ n. f.variable *ℤ n) (parts v.variable w.variable) ∙ spread_right f.variable (v.variable -ℤ w.variable) w.variable in
      let other : g.variable *ℤ w.variable ≡ f.variable *ℤ w.variable = ap (λ n. n *ℤ w.variable) (sym factor) in
      let same : dot f.scalars v.scalars ≡ dot g.scalars w.scalars = ap (λ l. dot l v.scalars) factors ∙ ap (dot g.scalars) scalars in
      omega (arith, ints, *ℤ-one f.literal, *ℤ-one g.literal)
    where
      parts : (x y : ℤ) → x ≡ (x -ℤ y) +ℤ y
      parts x y = omega (arith, ints)

-- the variables of two turns
module _ (low : ℤ) (step k m : ℕ) where
  abbrev turned_by : ℤ
  turned_by = variable low step k -ℤ variable low step m

  turned_size : (t : ℕ) → (k ≡ m + t) ⊎ (m ≡ k + t) → unsigned_abs turned_by ≡ t * step
  turned_size t (inl more) = ap (λ n. unsigned_abs (variable low step n -ℤ variable low step m)) more ∙ ap unsigned_abs (rises m t)
    where
      rises : (m t : ℕ) → (low +ℤ pos ((m + t) * step)) -ℤ (low +ℤ pos (m * step)) ≡ pos (t * step)
      rises m t = omega (arith, ints)
  turned_size t (inr less) = ap (λ n. unsigned_abs (variable low step k -ℤ variable low step n)) less ∙ size_opposite (variable low step k -ℤ variable low step (k + t)) (pos (t * step)) (falls k t)
    where
      falls : (k t : ℕ) → ((low +ℤ pos (k * step)) -ℤ (low +ℤ pos ((k + t) * step))) +ℤ pos (t * step) ≡ pos 0
      falls k t = omega (arith, ints)

  pub turns_between : (k ≡ m → ⊥) → k < 16777216 → m < 16777216 → (t : ℕ) × (0 < t) × (t < 16777216) × (unsigned_abs turned_by ≡ t * step)
  turns_between differ first second = by (cases_lt k m)
    where
      by : (k < m) ⊎ (m ≤ k) → (t : ℕ) × (0 < t) × (t < 16777216) × (unsigned_abs turned_by ≡ t * step)
      by (inl less) = (m - k, omega arith, omega arith, turned_size (m - k) (inr (omega arith)))
      by (inr more) = (k - m, omega arith, omega arith, turned_size (k - m) (inl (omega arith)))

-- in turns that differ by t
module _ (step : ℕ) (p q : Subscript) (v w : Valuation) (low : ℤ) (k m t : ℕ) (steps : step ≤ 65536) (some : 0 < t) (few : t < 16777216) (far : unsigned_abs (variable low step k -ℤ variable low step m) ≡ t * step)
    (first : v.variable ≡ variable low step k) (second : w.variable ≡ variable low step m) (scalars : v.scalars ≡ w.scalars) (inside : Between p.span.least p.span.greatest (loop_part v p.form)) (inside' : Between q.span.least q.span.greatest (loop_part w q.form))
    (factor : p.form.variable ≡ q.form.variable) (factors : p.form.scalars ≡ q.form.scalars) (meets : Same (value_of v p.form) (value_of w q.form)) where
  abbrev moved : ℤ
  moved = p.form.variable *ℤ (v.variable -ℤ w.variable)

  abbrev rest : ℤ
  rest = (distance p.form q.form +ℤ loop_part v p.form) -ℤ loop_part w q.form

  abbrev size : ℕ
  size = unsigned_abs p.form.variable

  moved_size : unsigned_abs moved ≡ size * (t * step)
  moved_size = unsigned_abs-mul p.form.variable (v.variable -ℤ w.variable) ∙ ap (λ n. size * n) (ap unsigned_abs (ap (λ x. x -ℤ w.variable) first ∙ ap (λ y. variable low step k -ℤ y) second) ∙ far)

  wraps_to : Same (moved +ℤ rest) (pos 0)
  wraps_to = ap wrap (sym (difference_is p.form q.form v w factor factors scalars)) ∙ same_difference (value_of v p.form) (value_of w q.form) meets

  -- where the factor is moderate and the rest isn't large, the rest is what the turns make up
  module _ (moderate : size ≤ 65536) (near : unsigned_abs rest ≤ 2 ^ 62) where
    bounded : size * (t * step) ≤ 65536 * (16777216 * 65536)
    bounded = let turns : t ≤ 16777216 = omega arith in mul-le-mul moderate (mul-le-mul turns steps)

    made_up : unsigned_abs rest ≡ size * (t * step)
    made_up =
        let small : unsigned_abs (moved +ℤ rest) ≤ unsigned_abs moved + unsigned_abs rest = size_sum moved rest (moved +ℤ rest) refl in
        let below : unsigned_abs (moved +ℤ rest) < 2 ^ 63 = omega (arith, moved_size, bounded) in
        sym (size_opposite moved rest (small_zero (moved +ℤ rest) below wraps_to)) ∙ moved_size

    at_least : size * step ≤ size * (t * step)
    at_least = let positive : 1 ≤ t = omega arith in let more : 1 * step ≤ t * step = mul-le-mul_right step positive in let same : step ≤ t * step = omega (arith, more) in mul-le-mul_left size same

  -- the first test
  rest_small : stands_apart step p q ≡ true → unsigned_abs rest < size * step
  rest_small e = by inside inside'
    where
      lowest : ℤ
      lowest = (distance p.form q.form +ℤ p.span.least) -ℤ q.span.greatest

      highest : ℤ
      highest = (distance p.form q.form +ℤ p.span.greatest) -ℤ q.span.least

      by : Between p.span.least p.span.greatest (loop_part v p.form) → Between q.span.least q.span.greatest (loop_part w q.form) → unsigned_abs rest < size * step
      by (x, y, one, two) (x', y', one', two') =
          size_between lowest highest rest (x + y') (y + x') (size * step) (omega (arith, ints)) (omega (arith, ints))
          (ltb-true (unsigned_abs lowest) (size * step) (and_left (nat_lt (unsigned_abs lowest) (size * step)) (nat_lt (unsigned_abs highest) (size * step)) e))
          (ltb-true (unsigned_abs highest) (size * step) (and_right (nat_lt (unsigned_abs lowest) (size * step)) (nat_lt (unsigned_abs highest) (size * step)) e))

  by_range : 1 ≤ size → size ≤ 65536 → stands_apart step p q ≡ true → ⊥
  by_range one moderate e =
      let small = rest_small e in
      let strided : size * step ≤ 65536 * 65536 = mul-le-mul moderate steps in
      let near : unsigned_abs rest ≤ 2 ^ 62 = omega arith in
      omega (arith, made_up moderate near, at_least moderate near)

  -- no part over the loops around
  flat_part : (f : Form) (u : Valuation) → is_flat f ≡ true → loop_part u f ≡ pos 0
  flat_part f u e =
      let outer : f.outer *ℤ u.outer ≡ pos 0 = ap (λ n. n *ℤ u.outer) (zero_is f.outer (and_left (is_zero f.outer) (is_zero f.inner) e)) ∙ zero-*ℤ u.outer in
      let inner : f.inner *ℤ u.inner ≡ pos 0 = ap (λ n. n *ℤ u.inner) (zero_is f.inner (and_right (is_zero f.outer) (is_zero f.inner) e)) ∙ zero-*ℤ u.inner in
      omega (arith, ints)

  flat_rest : is_flat p.form ≡ true → is_flat q.form ≡ true → rest ≡ distance p.form q.form
  flat_rest one two = omega (arith, ints, flat_part p.form v one, flat_part q.form w two)

  no_multiple : (b : Bool) → not b ≡ true → b ≡ false
  no_multiple true e = absurd cc
  no_multiple false e = refl

  -- a multiple is told
  multiple : (turns of : ℕ) → is_multiple (turns * of) of ≡ true
  multiple turns of = by (of == 0) refl
    where
      by : (b : Bool) → (of == 0) ≡ b → (if b then (turns * of) == 0 else (turns * of % of) == 0) ≡ true
      by true is = eq-eqb (turns * of) 0 (ap (λ n. turns * n) (eqb-true of 0 is) ∙ omega arith)
      by false is = eq-eqb (turns * of % of) 0 (mul-mod_left turns of)

  -- the second test
  by_distance : size ≤ 65536 → is_skipped step p q ≡ true → ⊥
  by_distance moderate e =
      let flat = and_left (is_flat p.form) (is_flat q.form && (nat_le (unsigned_abs (distance p.form q.form)) (2 ^ 62) && not (is_multiple (unsigned_abs (distance p.form q.form)) (stride step p.form)))) e in
      let more = and_right (is_flat p.form) (is_flat q.form && (nat_le (unsigned_abs (distance p.form q.form)) (2 ^ 62) && not (is_multiple (unsigned_abs (distance p.form q.form)) (stride step p.form)))) e in
      let flat' = and_left (is_flat q.form) (nat_le (unsigned_abs (distance p.form q.form)) (2 ^ 62) && not (is_multiple (unsigned_abs (distance p.form q.form)) (stride step p.form))) more in
      let last = and_right (is_flat q.form) (nat_le (unsigned_abs (distance p.form q.form)) (2 ^ 62) && not (is_multiple (unsigned_abs (distance p.form q.form)) (stride step p.form))) more in
      let near : unsigned_abs (distance p.form q.form) ≤ 2 ^ 62 = leb-true (unsigned_abs (distance p.form q.form)) (2 ^ 62) (and_left (nat_le (unsigned_abs (distance p.form q.form)) (2 ^ 62)) (not (is_multiple (unsigned_abs (distance p.form q.form)) (stride step p.form))) last) in
      let isnt : is_multiple (unsigned_abs (distance p.form q.form)) (size * step) ≡ false = no_multiple (is_multiple (unsigned_abs (distance p.form q.form)) (size * step)) (and_right (nat_le (unsigned_abs (distance p.form q.form)) (2 ^ 62)) (not (is_multiple (unsigned_abs (distance p.form q.form)) (stride step p.form))) last) in
      let same : rest ≡ distance p.form q.form = flat_rest flat flat' in
      let made : unsigned_abs rest ≡ size * (t * step) = made_up moderate (subst (λ z. unsigned_abs z ≤ 2 ^ 62) (sym same) near) in
      let turned : unsigned_abs (distance p.form q.form) ≡ t * (size * step) = ap unsigned_abs (sym same) ∙ made ∙ ordered size t step in
      let no : true ≡ false = sym (ap (λ n. is_multiple n (size * step)) turned ∙ multiple t (size * step)) ∙ isnt in cc
    where
      ordered : (a b c : ℕ) → a * (b * c) ≡ b * (a * c)
      ordered a b c = omega arith

  -- the third test
  by_words : p.form.variable ≡ pos 0 → is_elsewhere p q ≡ true → ⊥
  by_words none e =
      let flat = and_left (is_flat p.form) (is_flat q.form && not (is_multiple (unsigned_abs (distance p.form q.form)) (2 ^ 64))) e in
      let more = and_right (is_flat p.form) (is_flat q.form && not (is_multiple (unsigned_abs (distance p.form q.form)) (2 ^ 64))) e in
      let flat' = and_left (is_flat q.form) (not (is_multiple (unsigned_abs (distance p.form q.form)) (2 ^ 64))) more in
      let isnt = no_multiple (is_multiple (unsigned_abs (distance p.form q.form)) (2 ^ 64)) (and_right (is_flat q.form) (not (is_multiple (unsigned_abs (distance p.form q.form)) (2 ^ 64))) more) in
      let gone : moved ≡ pos 0 = ap (λ n. n *ℤ (v.variable -ℤ w.variable)) none ∙ zero-*ℤ (v.variable -ℤ w.variable) in
      let all : moved +ℤ rest ≡ distance p.form q.form = omega (arith, ints, flat_rest flat flat') in
      let wrapped : Same (distance p.form q.form) (pos 0) = ap wrap (sym all) ∙ wraps_to in
      let no : true ≡ false = sym (eq-eqb (unsigned_abs (distance p.form q.form) % 2 ^ 64) 0 (wrapped_size (distance p.form q.form) wrapped)) ∙ isnt in cc

  pub tests_part : passes_test step p q ≡ true → ⊥
  tests_part e = by (either (is_moderate p.form && (stands_apart step p q || is_skipped step p q)) (is_zero p.form.variable && is_elsewhere p q) (and_right (do_match p.form q.form) ((is_moderate p.form && (stands_apart step p q || is_skipped step p q)) || (is_zero p.form.variable && is_elsewhere p q)) e))
    where
      by_moderate : 1 ≤ size → size ≤ 65536 → (stands_apart step p q ≡ true) ⊎ (is_skipped step p q ≡ true) → ⊥
      by_moderate one moderate (inl apart) = by_range one moderate apart
      by_moderate one moderate (inr skipped) = by_distance moderate skipped

      by : ((is_moderate p.form && (stands_apart step p q || is_skipped step p q)) ≡ true) ⊎ ((is_zero p.form.variable && is_elsewhere p q) ≡ true) → ⊥
      by (inl h) =
          let moderate = and_left (is_moderate p.form) (stands_apart step p q || is_skipped step p q) h in
          by_moderate (leb-true 1 size (and_left (nat_le 1 size) (nat_le size 65536) moderate)) (leb-true size 65536 (and_right (nat_le 1 size) (nat_le size 65536) moderate)) (either (stands_apart step p q) (is_skipped step p q) (and_right (is_moderate p.form) (stands_apart step p q || is_skipped step p q) h))
      by (inr h) = by_words (zero_is p.form.variable (and_left (is_zero p.form.variable) (is_elsewhere p q) h)) (and_right (is_zero p.form.variable) (is_elsewhere p q) h)

-- two forms that match
pub matching : (f g : Form) → do_match f g ≡ true → (f.variable ≡ g.variable) × (f.scalars ≡ g.scalars)
matching f g e = (
  (Decides-int_eq f.variable g.variable).0 (and_left (int_eq f.variable g.variable) (same_factors f.scalars g.scalars) e),
  (signed_items f.scalars g.scalars).0 (and_right (int_eq f.variable g.variable) (same_factors f.scalars g.scalars) e),
)
