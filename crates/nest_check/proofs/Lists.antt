-- States that the items of a list change in turn, and what is left of a list.
use Rattle.std.proofs.Common.{◌≡◌, ℕ, suc, ◌+◌, ◌<◌, ◌≤◌, Bool, ◌||◌, false, true, List, [], ◌∷◌, ◌++◌, map, length, drop, get_or, refl, sym, ap, ◌∙◌, drop-cons, add-one}
use Rattle.std.specs.List.{list_any, flat_map}
use Rattle.std.proofs.lemmas.List.{drop_all}
use Rattle.nest_check.specs.Through.{through}
use Rattle.nest_check.specs.Parts.{Part, Parts_at, all_at}

pub through-append : {S E : Type 0} (step : S → E → S) (s : S) (xs ys : List E) → through step s (xs ++ ys) ≡ through step (through step s xs) ys
through-append step s [] ys = refl
through-append step s (x ∷ xs) ys = through-append step (step s x) xs ys

-- the item at a place, and those behind it
pub left_is : {A : Type 0} (xs : List A) (i : ℕ) → i < length xs → (here : A) → here ≡ get_or xs i here → drop i xs ≡ here ∷ drop (i + 1) xs
left_is xs i there here is = drop-cons xs i here there ∙ ap (λ x. x ∷ drop (suc i) xs) (sym is) ∙ ap (λ k. here ∷ drop k xs) (sym (add-one i))

pub flat_more : {S E A : Type 0} (step : S → E → S) (f : A → List E) (xs : List A) (i : ℕ) → i < length xs → (here : A) → here ≡ get_or xs i here → (s s' whole : S)
    → through step s (flat_map f (drop i xs)) ≡ whole → s' ≡ through step s (f here) → through step s' (flat_map f (drop (i + 1) xs)) ≡ whole
flat_more step f xs i there here is s s' whole left more =
    ap (λ t. through step t (flat_map f (drop (i + 1) xs))) more
    ∙ sym (through-append step s (f here) (flat_map f (drop (i + 1) xs)))
    ∙ ap (λ ys. through step s (flat_map f ys)) (sym (left_is xs i there here is))
    ∙ left

pub flat_end : {S E A : Type 0} (step : S → E → S) (f : A → List E) (xs : List A) (i : ℕ) → length xs ≤ i → (s whole : S) → through step s (flat_map f (drop i xs)) ≡ whole → s ≡ whole
flat_end step f xs i over s whole left = ap (λ ys. through step s (flat_map f ys)) (sym (drop_all i xs over)) ∙ left

-- the same of parts at a depth
pub parts_more : {S A : Type 0} (step : S → Part → S) (f : A → Parts_at) (at : ℕ) (xs : List A) (i : ℕ) → i < length xs → (here : A) → here ≡ get_or xs i here → (s s' whole : S)
    → through step s (all_at (map f (drop i xs)) at) ≡ whole → s' ≡ through step s (f here at) → through step s' (all_at (map f (drop (i + 1) xs)) at) ≡ whole
parts_more step f at xs i there here is s s' whole left more =
    ap (λ t. through step t (all_at (map f (drop (i + 1) xs)) at)) more
    ∙ sym (through-append step s (f here at) (all_at (map f (drop (i + 1) xs)) at))
    ∙ ap (λ ys. through step s (all_at (map f ys) at)) (sym (left_is xs i there here is))
    ∙ left

pub parts_end : {S A : Type 0} (step : S → Part → S) (f : A → Parts_at) (at : ℕ) (xs : List A) (i : ℕ) → length xs ≤ i → (s whole : S) → through step s (all_at (map f (drop i xs)) at) ≡ whole → s ≡ whole
parts_end step f at xs i over s whole left = ap (λ ys. through step s (all_at (map f ys) at)) (sym (drop_all i xs over)) ∙ left

-- the same of single items
pub each_more : {S A : Type 0} (step : S → A → S) (xs : List A) (i : ℕ) → i < length xs → (here : A) → here ≡ get_or xs i here → (s s' whole : S)
    → through step s (drop i xs) ≡ whole → s' ≡ step s here → through step s' (drop (i + 1) xs) ≡ whole
each_more step xs i there here is s s' whole left more =
    ap (λ t. through step t (drop (i + 1) xs)) more ∙ ap (through step s) (sym (left_is xs i there here is)) ∙ left

pub each_end : {S A : Type 0} (step : S → A → S) (xs : List A) (i : ℕ) → length xs ≤ i → (s whole : S) → through step s (drop i xs) ≡ whole → s ≡ whole
each_end step xs i over s whole left = ap (through step s) (sym (drop_all i xs over)) ∙ left

-- a test that some item passes
pub any_more : {A : Type 0} (test : A → Bool) (xs : List A) (i : ℕ) → i < length xs → (here : A) → here ≡ get_or xs i here → test here ≡ false → list_any test (drop i xs) ≡ list_any test xs → list_any test (drop (i + 1) xs) ≡ list_any test xs
any_more test xs i there here is fails left = ap (λ b. b || list_any test (drop (i + 1) xs)) (sym fails) ∙ ap (list_any test) (sym (left_is xs i there here is)) ∙ left

pub any_here : {A : Type 0} (test : A → Bool) (xs : List A) (i : ℕ) → i < length xs → (here : A) → here ≡ get_or xs i here → test here ≡ true → list_any test (drop i xs) ≡ list_any test xs → true ≡ list_any test xs
any_here test xs i there here is passes left = ap (λ b. b || list_any test (drop (i + 1) xs)) (sym passes) ∙ ap (list_any test) (sym (left_is xs i there here is)) ∙ left

pub any_end : {A : Type 0} (test : A → Bool) (xs : List A) (i : ℕ) → length xs ≤ i → list_any test (drop i xs) ≡ list_any test xs → false ≡ list_any test xs
any_end test xs i over left = ap (list_any test) (sym (drop_all i xs over)) ∙ left
