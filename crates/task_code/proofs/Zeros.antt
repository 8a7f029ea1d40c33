-- The scalars with 0 for some names, and lists with a property for each value.
use Rattle.std.proofs.Common.{◌≡◌, ◌≢◌, ℕ, zero, suc, ◌<◌, ℤ, pos, Bool, true, false, ◌||◌, ◌==◌, ◌⊎◌, inl, inr, List, [], ◌∷◌, length, slice_index_or, slice_set, refl, sym, ap, ◌∙◌, subst, arith}
use Rattle.std.proofs.lemmas.Bool.{eq-eqb, ltb-true, ltb-false}
use Rattle.std.proofs.lemmas.Bool.Decides.{eqb_tells}
use Rattle.std.proofs.lemmas.List.{get_or-set_same, get_or-set_other, length-set}
use Rattle.nest_syntax.specs.Among.{Each, is_among}
use Rattle.nest_syntax.specs.Value.{scalar_at, with_scalar}
use Rattle.nest_syntax.specs.Locals.{with_zeros}

or_right : (a b : Bool) → b ≡ true → (a || b) ≡ true
or_right true b e = refl
or_right false b e = e

-- what holds of each name that is among some holds of each of them, and the other way round
pub each_of : (P : ℕ → Type 0) (names : List ℕ) → ((name : ℕ) → is_among names name ≡ true → P name) → Each P names
each_of P [] holds = tt
each_of P (name ∷ names) holds = (holds name (ap (λ b. b || is_among names name) (eq-eqb name name refl)), each_of P names (λ n there. holds n (or_right (n == name) (is_among names n) there)))

pub each_at : (P : ℕ → Type 0) (names : List ℕ) → Each P names → (name : ℕ) → is_among names name ≡ true → P name
each_at P [] each name there = absurd (let no : false ≡ true = there in cc)
each_at P (first ∷ names) each name there = by (eqb_tells name first) (each_at P names each.1 name) where
  by : (((name == first) ≡ true) × (name ≡ first)) ⊎ (((name == first) ≡ false) × (name ≢ first)) → (is_among names name ≡ true → P name) → P name
  by (inl same) rest = subst P (sym same.1) each.0
  by (inr other) rest = rest (sym (ap (λ b. b || is_among names name) other.0) ∙ there)

pub zeros_long : (names : List ℕ) (scalars : List ℤ) → length (with_zeros names scalars) ≡ length scalars
zeros_long [] scalars = refl
zeros_long (name ∷ names) scalars = zeros_long names (with_scalar scalars name (pos 0)) ∙ length-set scalars name (pos 0)

pub zeros_out : (names : List ℕ) (scalars : List ℤ) (name : ℕ) → is_among names name ≡ false → scalar_at (with_zeros names scalars) name ≡ scalar_at scalars name
zeros_out [] scalars name out = refl
zeros_out (first ∷ names) scalars name out = by (eqb_tells name first) (zeros_out names (with_scalar scalars first (pos 0)) name) where
  by : (((name == first) ≡ true) × (name ≡ first)) ⊎ (((name == first) ≡ false) × (name ≢ first)) → (is_among names name ≡ false → scalar_at (with_zeros (first ∷ names) scalars) name ≡ scalar_at (with_scalar scalars first (pos 0)) name)
      → scalar_at (with_zeros (first ∷ names) scalars) name ≡ scalar_at scalars name
  by (inl same) rest = absurd (let no : true ≡ false = sym (ap (λ b. b || is_among names name) same.0) ∙ out in cc)
  by (inr other) rest = rest (sym (ap (λ b. b || is_among names name) other.0) ∙ out) ∙ get_or-set_other scalars first name (pos 0) (pos 0) other.1

-- a scalar of 0 stays 0, and one that is given 0 is 0, also where it isn't there
set_zero : (scalars : List ℤ) (name : ℕ) → scalar_at (with_scalar scalars name (pos 0)) name ≡ pos 0
set_zero [] name = refl
set_zero (x ∷ scalars) zero = refl
set_zero (x ∷ scalars) (suc name) = set_zero scalars name

zero_kept : (names : List ℕ) (scalars : List ℤ) (name : ℕ) → scalar_at scalars name ≡ pos 0 → scalar_at (with_zeros names scalars) name ≡ pos 0
zero_kept [] scalars name is = is
zero_kept (first ∷ names) scalars name is = zero_kept names (with_scalar scalars first (pos 0)) name (by (eqb_tells name first)) where
  by : (((name == first) ≡ true) × (name ≡ first)) ⊎ (((name == first) ≡ false) × (name ≢ first)) → scalar_at (with_scalar scalars first (pos 0)) name ≡ pos 0
  by (inl same) = subst (λ n. scalar_at (with_scalar scalars first (pos 0)) n ≡ pos 0) (sym same.1) (set_zero scalars first)
  by (inr other) = get_or-set_other scalars first name (pos 0) (pos 0) other.1 ∙ is

pub zeros_in : (names : List ℕ) (scalars : List ℤ) (name : ℕ) → is_among names name ≡ true → scalar_at (with_zeros names scalars) name ≡ pos 0
zeros_in [] scalars name there = absurd (let no : false ≡ true = there in cc)
zeros_in (first ∷ names) scalars name there = by (eqb_tells name first) (zeros_in names (with_scalar scalars first (pos 0)) name) where
  by : (((name == first) ≡ true) × (name ≡ first)) ⊎ (((name == first) ≡ false) × (name ≢ first)) → (is_among names name ≡ true → scalar_at (with_zeros (first ∷ names) scalars) name ≡ pos 0) → scalar_at (with_zeros (first ∷ names) scalars) name ≡ pos 0
  by (inl same) rest = zero_kept names (with_scalar scalars first (pos 0)) name (subst (λ n. scalar_at (with_scalar scalars first (pos 0)) n ≡ pos 0) (sym same.1) (set_zero scalars first))
  by (inr other) rest = rest (sym (ap (λ b. b || is_among names name) other.0) ∙ there)
