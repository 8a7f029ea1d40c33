-- A list that is filled from another, item by item.
use Rattle.std.proofs.Common.{◌≡◌, ℕ, zero, suc, ◌+◌, ◌<◌, ℤ, Option, None, List, [], ◌∷◌, map, length, set, get_or, refl, sym, ap, ◌∙◌, arith, add-one}

abbrev Names : Type 0
Names = List (Option ℕ)

-- the values of the first n names, and then what was there
abbrev pub filled : (Option ℕ → ℤ) → ℕ → Names → List ℤ → List ℤ
filled value zero names xs = xs
filled value (suc n) [] xs = xs
filled value (suc n) (name ∷ names) [] = []
filled value (suc n) (name ∷ names) (x ∷ xs) = value name ∷ filled value n names xs

one_filled : (value : Option ℕ → ℤ) (n : ℕ) (names : Names) (xs : List ℤ) → n < length names → set (filled value n names xs) n (value (get_or names n None)) ≡ filled value (suc n) names xs
one_filled value n [] xs inside = absurd (omega (arith, inside))
one_filled value zero (name ∷ names) [] inside = refl
one_filled value zero (name ∷ names) (x ∷ xs) inside = refl
one_filled value (suc n) (name ∷ names) [] inside = refl
one_filled value (suc n) (name ∷ names) (x ∷ xs) inside = ap (λ ys. value name ∷ ys) (one_filled value n names xs (omega (arith, inside)))

pub one_more : (value : Option ℕ → ℤ) (n : ℕ) (names : Names) (xs present : List ℤ) → n < length names → present ≡ filled value n names xs → set present n (value (get_or names n None)) ≡ filled value (n + 1) names xs
one_more value n names xs present inside is = ap (λ ys. set ys n (value (get_or names n None))) is ∙ one_filled value n names xs inside ∙ ap (λ m. filled value m names xs) (sym (add-one n))

pub all_filled : (value : Option ℕ → ℤ) (names : Names) (xs : List ℤ) → length xs ≡ length names → filled value (length names) names xs ≡ map value names
all_filled value [] [] many = refl
all_filled value [] (x ∷ xs) many = absurd (omega (arith, many))
all_filled value (name ∷ names) [] many = absurd (omega (arith, many))
all_filled value (name ∷ names) (x ∷ xs) many = ap (λ ys. value name ∷ ys) (all_filled value names xs (omega (arith, many)))
