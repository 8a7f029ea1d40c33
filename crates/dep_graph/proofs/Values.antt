-- The value of a form, from values of its symbols, and what the operations on forms make of it.
use Rattle.std.proofs.Common.{◌≡◌, ℕ, zero, suc, ◌+◌, ◌<◌, ℤ, pos, negsuc, ◌+ℤ◌, ◌*ℤ◌, Bool, true, false, ◌&&◌, ◌⊎◌, inl, inr, List, [], ◌∷◌, map, replicate, length, slice_set, slice_index_or, refl, sym, ap, ◌∙◌, arith}
use Rattle.std.proofs.lemmas.Int.{ints}
use Rattle.std.specs.List.{list_all}
use Rattle.std.proofs.lemmas.List.{length-set}
use Rattle.std.proofs.Math.IntN.{*ℤ-one, *ℤ-zero, zero-*ℤ}
use Rattle.nest_syntax.specs.Words.{wrap, is_zero}
use Rattle.dep_graph.specs.declared.forms.Form.{Form}
use Rattle.dep_graph.specs.declared.forms.Symbol.{Symbol}
use Rattle.dep_graph.specs.declared.forms.Symbol.TheVariants as symbol
use Rattle.dep_graph.specs.Forms.{no_scalars, literal_form, symbol_form, sums, plus, times, is_literal}
use Rattle.dep_graph.proofs.Whole.{spread, spread_right, grouped, Same, same_plus, same_times, same_wrap}

-- a value of each symbol
pub record Valuation : Type 0 where
  pub variable : ℤ
  pub outer : ℤ
  pub inner : ℤ
  pub scalars : List ℤ

abbrev pub dot : List ℤ → List ℤ → ℤ
dot [] values = pos 0
dot (c ∷ factors) [] = pos 0
dot (c ∷ factors) (v ∷ values) = c *ℤ v +ℤ dot factors values

abbrev pub factors_of : Form → List ℤ
factors_of f = f.literal ∷ f.variable ∷ f.outer ∷ f.inner ∷ f.scalars

abbrev pub values_in : Valuation → List ℤ
values_in v = pos 1 ∷ v.variable ∷ v.outer ∷ v.inner ∷ v.scalars

abbrev pub value_of : Valuation → Form → ℤ
value_of v f = dot (factors_of f) (values_in v)

abbrev pub symbol_value : Valuation → Symbol → ℤ
symbol_value v symbol.Variable = v.variable
symbol_value v symbol.Outer = v.outer
symbol_value v symbol.Inner = v.inner
symbol_value v (symbol.Scalar n) = slice_index_or v.scalars n (pos 0)

-- a scalar's number is in range
abbrev pub IsSmall : Symbol → Type 0
IsSmall symbol.Variable = Unit {0}
IsSmall symbol.Outer = Unit {0}
IsSmall symbol.Inner = Unit {0}
IsSmall (symbol.Scalar n) = n < 32

pub and_left : (a b : Bool) → (a && b) ≡ true → a ≡ true
and_left true b e = refl
and_left false b e = e

pub and_right : (a b : Bool) → (a && b) ≡ true → b ≡ true
and_right true b e = e
and_right false b e = absurd cc

-- lists of factors
paired : (a b v x y : ℤ) → (a +ℤ b) *ℤ v +ℤ (x +ℤ y) ≡ (a *ℤ v +ℤ x) +ℤ (b *ℤ v +ℤ y)
paired a b v x y = let over : (a +ℤ b) *ℤ v ≡ a *ℤ v +ℤ b *ℤ v = spread a b v in omega (arith, ints)

pub dot_sums : (factors others values : List ℤ) → length factors ≡ length others → Same (dot (sums factors others) values) (dot factors values +ℤ dot others values)
dot_sums [] [] values e = refl
dot_sums [] (b ∷ others) values e = absurd (omega arith)
dot_sums (a ∷ factors) [] values e = absurd (omega arith)
dot_sums (a ∷ factors) (b ∷ others) [] e = refl
dot_sums (a ∷ factors) (b ∷ others) (v ∷ values) e =
    let rest : length factors ≡ length others = omega arith in
    same_plus (wrap (a +ℤ b) *ℤ v) ((a +ℤ b) *ℤ v) (dot (sums factors others) values) (dot factors values +ℤ dot others values) (same_times (wrap (a +ℤ b)) (a +ℤ b) v v (same_wrap (a +ℤ b)) refl) (dot_sums factors others values rest)
    ∙ ap wrap (paired a b v (dot factors values) (dot others values))

scaled_pair : (k a v x : ℤ) → (k *ℤ a) *ℤ v +ℤ k *ℤ x ≡ k *ℤ (a *ℤ v +ℤ x)
scaled_pair k a v x = ap (λ n. n +ℤ k *ℤ x) (grouped k a v) ∙ sym (spread_right k (a *ℤ v) x)

pub dot_times : (k : ℤ) (factors values : List ℤ) → Same (dot (map (λ c. wrap (k *ℤ c)) factors) values) (k *ℤ dot factors values)
dot_times k [] values = ap wrap (sym (*ℤ-zero k))
dot_times k (a ∷ factors) [] = ap wrap (sym (*ℤ-zero k))
dot_times k (a ∷ factors) (v ∷ values) =
    same_plus (wrap (k *ℤ a) *ℤ v) ((k *ℤ a) *ℤ v) (dot (map (λ c. wrap (k *ℤ c)) factors) values) (k *ℤ dot factors values) (same_times (wrap (k *ℤ a)) (k *ℤ a) v v (same_wrap (k *ℤ a)) refl) (dot_times k factors values)
    ∙ ap wrap (scaled_pair k a v (dot factors values))

pub length_sums : (factors others : List ℤ) → length factors ≡ length others → length (sums factors others) ≡ length factors
length_sums [] [] e = refl
length_sums [] (b ∷ others) e = absurd (omega arith)
length_sums (a ∷ factors) [] e = absurd (omega arith)
length_sums (a ∷ factors) (b ∷ others) e = let rest : length factors ≡ length others = omega arith in ap suc (length_sums factors others rest)

pub length_times : (k : ℤ) (factors : List ℤ) → length (map (λ c. wrap (k *ℤ c)) factors) ≡ length factors
length_times k [] = refl
length_times k (a ∷ factors) = ap suc (length_times k factors)

pub dot_none : (count : ℕ) (values : List ℤ) → dot (replicate count (pos 0)) values ≡ pos 0
dot_none zero values = refl
dot_none (suc count) [] = refl
dot_none (suc count) (v ∷ values) = omega (arith, ints, zero-*ℤ v, dot_none count values)

one_times : (v : ℤ) → pos 1 *ℤ v ≡ v
one_times (pos n) = omega (arith, ints)
one_times (negsuc n) = omega (arith, ints)

pub dot_one : (count n : ℕ) (values : List ℤ) → n < count → dot (slice_set (replicate count (pos 0)) n (pos 1)) values ≡ slice_index_or values n (pos 0)
dot_one zero n values h = absurd (omega arith)
dot_one (suc count) zero [] h = refl
dot_one (suc count) zero (v ∷ values) h = omega (arith, ints, one_times v, dot_none count values)
dot_one (suc count) (suc n) [] h = refl
dot_one (suc count) (suc n) (v ∷ values) h = omega (arith, ints, zero-*ℤ v, dot_one count n values (omega arith))

-- a form as it should be: a factor for each of the 32 scalars
abbrev pub IsWhole : Form → Type 0
IsWhole f = length f.scalars ≡ 32

pub value_plus : (v : Valuation) (f g : Form) → IsWhole f → IsWhole g → Same (value_of v (plus f g)) (value_of v f +ℤ value_of v g)
value_plus v f g first second = dot_sums (factors_of f) (factors_of g) (values_in v) (let same : length f.scalars ≡ length g.scalars = first ∙ sym second in omega arith)

pub value_times : (v : Valuation) (k : ℤ) (f : Form) → Same (value_of v (times k f)) (k *ℤ value_of v f)
value_times v k f = dot_times k (factors_of f) (values_in v)

-- the value of a literal, and of a symbol
module _ (v : Valuation) where
  none : dot no_scalars v.scalars ≡ pos 0
  none = dot_none 32 v.scalars

  pub value_literal : (n : ℤ) → value_of v (literal_form n) ≡ n
  value_literal n = omega (arith, ints, none, zero-*ℤ v.variable, zero-*ℤ v.outer, zero-*ℤ v.inner, *ℤ-one n)

  pub value_symbol : (s : Symbol) → IsSmall s → value_of v (symbol_form s) ≡ symbol_value v s
  value_symbol symbol.Variable small = omega (arith, ints, none, one_times v.variable, zero-*ℤ (pos 1), zero-*ℤ v.outer, zero-*ℤ v.inner)
  value_symbol symbol.Outer small = omega (arith, ints, none, one_times v.outer, zero-*ℤ (pos 1), zero-*ℤ v.variable, zero-*ℤ v.inner)
  value_symbol symbol.Inner small = omega (arith, ints, none, one_times v.inner, zero-*ℤ (pos 1), zero-*ℤ v.variable, zero-*ℤ v.outer)
  value_symbol (symbol.Scalar n) small = omega (arith, ints, dot_one 32 n v.scalars small, zero-*ℤ (pos 1), zero-*ℤ v.variable, zero-*ℤ v.outer, zero-*ℤ v.inner)

pub whole_literal : (n : ℤ) → IsWhole (literal_form n)
whole_literal n = refl

pub whole_symbol : (s : Symbol) → IsWhole (symbol_form s)
whole_symbol symbol.Variable = refl
whole_symbol symbol.Outer = refl
whole_symbol symbol.Inner = refl
whole_symbol (symbol.Scalar n) = length-set no_scalars n (pos 1)

-- a literal has its value whatever its symbols have
pub zero_is : (c : ℤ) → is_zero c ≡ true → c ≡ pos 0
zero_is (pos zero) e = refl
zero_is (pos (suc n)) e = absurd (let none : is_zero (pos (suc n)) ≡ false = grind arith in let no : true ≡ false = sym e ∙ none in cc)
zero_is (negsuc n) e = absurd (let none : is_zero (negsuc n) ≡ false = grind arith in let no : true ≡ false = sym e ∙ none in cc)

dot_zero : (factors values : List ℤ) → list_all is_zero factors ≡ true → dot factors values ≡ pos 0
dot_zero [] values e = refl
dot_zero (c ∷ factors) [] e = refl
dot_zero (c ∷ factors) (v ∷ values) e =
    let here : c ≡ pos 0 = zero_is c (and_left (is_zero c) (list_all is_zero factors) e) in
    let rest : dot factors values ≡ pos 0 = dot_zero factors values (and_right (is_zero c) (list_all is_zero factors) e) in
    let gone : c *ℤ v ≡ pos 0 = ap (λ n. n *ℤ v) here ∙ zero-*ℤ v in omega (arith, ints)

pub literal_value : (v : Valuation) (f : Form) → is_literal f ≡ true → value_of v f ≡ f.literal
literal_value v f e =
    let rest : list_all is_zero (f.variable ∷ f.outer ∷ f.inner ∷ f.scalars) ≡ true = e in
    let gone : dot (f.variable ∷ f.outer ∷ f.inner ∷ f.scalars) (v.variable ∷ v.outer ∷ v.inner ∷ v.scalars) ≡ pos 0 = dot_zero (f.variable ∷ f.outer ∷ f.inner ∷ f.scalars) (v.variable ∷ v.outer ∷ v.inner ∷ v.scalars) rest in
    omega (arith, ints, *ℤ-one f.literal)
