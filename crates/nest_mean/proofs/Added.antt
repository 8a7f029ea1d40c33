-- Names that are added to others, list by list.
use Rattle.std.proofs.Common.{◌≡◌, ◌≢◌, ℕ, suc, ◌+◌, ◌<◌, ◌≤◌, ◌==◌, ◌||◌, Bool, true, false, ◌⊎◌, inl, inr, List, [], ◌∷◌, ◌++◌, map, length, drop, get_or, refl, sym, ap, ◌∙◌, subst, drop-cons, add-one}
use Rattle.std.specs.List.{concat}
use Rattle.std.proofs.lemmas.List.{drop_all}
use Rattle.std.proofs.lemmas.List.Folds.{list_any-append}
use Rattle.std.proofs.lemmas.Bool.Decides.{eqb_tells}
use Rattle.nest_syntax.specs.Among.{is_among}
use Rattle.nest_mean.specs.Added.{Adds}

or_false : (a : Bool) → (a || false) ≡ a
or_false true = refl
or_false false = refl

or_assoc : (a b c : Bool) → ((a || b) || c) ≡ (a || (b || c))
or_assoc true b c = refl
or_assoc false b c = refl

or_true : (a : Bool) → (a || true) ≡ true
or_true true = refl
or_true false = refl

pub adds_none : (names : List ℕ) → Adds names names []
adds_none names name = sym (or_false (is_among names name))

pub adds_both : (old new newer xs ys : List ℕ) → Adds old new xs → Adds new newer ys → Adds old newer (xs ++ ys)
adds_both old new newer xs ys first second name =
    second name ∙ ap (λ b. b || is_among ys name) (first name) ∙ or_assoc (is_among old name) (is_among xs name) (is_among ys name)
    ∙ ap (λ b. is_among old name || b) (sym (list_any-append (λ other. name == other) xs ys))

-- a name that is there is there once more
pub adds_known : (names : List ℕ) (name : ℕ) → is_among names name ≡ true → Adds names names (name ∷ [])
adds_known names name known other = by_name (eqb_tells other name)
  where
    by_name : (((other == name) ≡ true) × (other ≡ name)) ⊎ (((other == name) ≡ false) × (other ≢ name)) → is_among names other ≡ (is_among names other || ((other == name) || false))
    by_name (inl e) = (ap (is_among names) e.1 ∙ known) ∙ sym (ap (λ b. is_among names other || (b || false)) e.0 ∙ or_true (is_among names other))
    by_name (inr e) = sym (ap (λ b. is_among names other || (b || false)) e.0 ∙ or_false (is_among names other))

pub adds_new : (names : List ℕ) (name : ℕ) → Adds names (names ++ name ∷ []) (name ∷ [])
adds_new names name other = list_any-append (λ x. other == x) names (name ∷ [])

-- of the parts from place i on the names are left to be added to these
abbrev pub IsLeft : {A : Type 0} (f : A → List ℕ) (xs : List A) (i : ℕ) (old names : List ℕ) → Type 0
IsLeft f xs i old names = (new : List ℕ) → Adds names new (concat (map f (drop i xs))) → Adds old new (concat (map f xs))

pub left_more : {A : Type 0} (f : A → List ℕ) (xs : List A) (i : ℕ) → i < length xs → (here : A) → here ≡ get_or xs i here → (old names more : List ℕ) → IsLeft f xs i old names → Adds names more (f here) → IsLeft f xs (i + 1) old more
left_more f xs i there here is old names more left adds new others =
    let rest : drop i xs ≡ here ∷ drop (i + 1) xs = drop-cons xs i here there ∙ ap (λ x. x ∷ drop (suc i) xs) (sym is) ∙ ap (λ k. here ∷ drop k xs) (sym (add-one i)) in
    left new (subst (λ ys. Adds names new (concat (map f ys))) (sym rest) (adds_both names more new (f here) (concat (map f (drop (i + 1) xs))) adds others))

pub left_none : {A : Type 0} (f : A → List ℕ) (xs : List A) (i : ℕ) → length xs ≤ i → (old names : List ℕ) → IsLeft f xs i old names → Adds old names (concat (map f xs))
left_none f xs i over old names left = left names (subst (λ ys. Adds names names (concat (map f ys))) (sym (drop_all i xs over)) (adds_none names))
