-- Tests over lists that follow one another, and parts of lists.
use Rattle.std.proofs.lemmas.List.{flat_map_more, take_more}
use Rattle.std.proofs.Common.{◌==◌, Result, Ok, Err, OnOk, ◌≡◌, ◌+◌, ◌<◌, length, take, get_or, ℕ, Bool, true, false, ◌||◌, ◌&&◌, ◌⊎◌, inl, inr, List, [], ◌∷◌, ◌++◌, reverse, refl, sym, ap, ◌∙◌}
use Rattle.std.specs.List.{list_any, flat_map}
use Rattle.std.proofs.lemmas.List.Folds.{list_any-append}
use Rattle.std.proofs.lemmas.List.Sorted.{list_any-IsPermutation, IsPermutation-reverse}
use Rattle.nest_syntax.specs.Among.{is_among, IsOne}

pub either : (a b : Bool) → (a || b) ≡ true → (a ≡ true) ⊎ (b ≡ true)
either true b e = inl refl
either false b e = inr e

pub or_left : (a b : Bool) → a ≡ true → (a || b) ≡ true
or_left a b e = ap (λ x. x || b) e

pub or_right : (a b : Bool) → b ≡ true → (a || b) ≡ true
or_right true b e = refl
or_right false b e = e

pub both_left : (a b : Bool) → (a && b) ≡ true → a ≡ true
both_left true b e = refl
both_left false b e = e

pub both_right : (a b : Bool) → (a && b) ≡ true → b ≡ true
both_right true b e = e
both_right false b e = cc

pub any_flat : {A B : Type 0} (p : B → Bool) (f : A → List B) (xs : List A) → list_any p (flat_map f xs) ≡ list_any (λ x. list_any p (f x)) xs
any_flat p f [] = refl
any_flat p f (x ∷ xs) = list_any-append p (f x) (flat_map f xs) ∙ ap (λ b. list_any p (f x) || b) (any_flat p f xs)

pub any_reverse : {A B : Type 0} (p : B → Bool) (f : A → List B) (xs : List A) → list_any p (flat_map f xs) ≡ list_any p (flat_map f (reverse xs))
any_reverse p f xs = any_flat p f xs ∙ list_any-IsPermutation (λ x. list_any p (f x)) xs (reverse xs) (IsPermutation-reverse xs) ∙ sym (any_flat p f (reverse xs))

pub one_left : {A : Type 0} (xs ys : List A) (a : A) → IsOne xs a → IsOne (xs ++ ys) a
one_left [] ys a h = absurd h
one_left (x ∷ xs) ys a (inl e) = inl e
one_left (x ∷ xs) ys a (inr h) = inr (one_left xs ys a h)

pub one_right : {A : Type 0} (xs ys : List A) (a : A) → IsOne ys a → IsOne (xs ++ ys) a
one_right [] ys a h = h
one_right (x ∷ xs) ys a h = inr (one_right xs ys a h)

pub one_parts : {A : Type 0} (xs ys : List A) (a : A) → IsOne (xs ++ ys) a → IsOne xs a ⊎ IsOne ys a
one_parts [] ys a h = inr h
one_parts (x ∷ xs) ys a (inl e) = inl (inl e)
one_parts (x ∷ xs) ys a (inr h) = elim (one_parts xs ys a h) [ inl l ↦ inl (inr l) | inr r ↦ inr r ]

-- one more element of those that are joined
pub flat_take : {A B : Type 0} (f : A → List B) (xs : List A) (i : ℕ) → i < length xs → (here : A) → here ≡ get_or xs i here → (done : List B) → done ≡ flat_map f (take i xs)
    → done ++ f here ≡ flat_map f (take (i + 1) xs)
flat_take f xs i there here is done e =
    ap (λ d. d ++ f here) e ∙ flat_map_more f [] (take i xs) here ∙ ap (λ x. flat_map f (take i xs ++ x ∷ [])) is ∙ ap (flat_map f) (sym (take_more xs i here there))
