-- Scalars that are made 0 one after the other.
use Rattle.std.proofs.Common.{◌≡◌, ℕ, zero, suc, ◌+◌, ℤ, pos, List, [], ◌∷◌, length, replicate, refl, sym, ap, ◌∙◌, add-one}
use Rattle.nest_syntax.specs.Value.{with_scalar}

-- the first n are 0
abbrev pub cleared : ℕ → List ℤ → List ℤ
cleared zero scalars = scalars
cleared (suc n) [] = []
cleared (suc n) (x ∷ scalars) = pos 0 ∷ cleared n scalars

one_cleared : (n : ℕ) (scalars : List ℤ) → with_scalar (cleared n scalars) n (pos 0) ≡ cleared (suc n) scalars
one_cleared zero [] = refl
one_cleared zero (x ∷ scalars) = refl
one_cleared (suc n) [] = refl
one_cleared (suc n) (x ∷ scalars) = ap (λ xs. pos 0 ∷ xs) (one_cleared n scalars)

pub one_more : (n : ℕ) (scalars present : List ℤ) → present ≡ cleared n scalars → with_scalar present n (pos 0) ≡ cleared (n + 1) scalars
one_more n scalars present is = ap (λ s. with_scalar s n (pos 0)) is ∙ one_cleared n scalars ∙ ap (λ m. cleared m scalars) (sym (add-one n))

pub all_cleared : (scalars : List ℤ) → cleared (length scalars) scalars ≡ replicate (length scalars) (pos 0)
all_cleared [] = refl
all_cleared (x ∷ scalars) = ap (λ xs. pos 0 ∷ xs) (all_cleared scalars)
