-- Scalars that are put aside and put back.
use Rattle.std.proofs.Common.{◌≡◌, ◌≢◌, ℕ, suc, ◌+◌, ◌<◌, ◌≤◌, ◌==◌, ◌||◌, ℤ, pos, Bool, true, false, List, [], ◌∷◌, ◌++◌, map, length, drop, get_or, refl, sym, ap, ◌∙◌, subst, arith, drop-cons, add-one}
use Rattle.std.specs.List.{concat}
use Rattle.std.proofs.lemmas.List.{drop_all, get_or-set_same, get_or-set_other, length-set, ext_get_or}
use Rattle.std.proofs.lemmas.Bool.Decides.{eqb_tells}
use Rattle.std.proofs.Common.{◌⊎◌, inl, inr}
use Rattle.nest_syntax.specs.declared.tree.Decl.{Decl}
use Rattle.nest_syntax.specs.declared.tree.Decl.TheVariants as decl
use Rattle.nest_syntax.specs.Course.{declared_scalars}
use Rattle.nest_syntax.specs.Value.{scalar_at, with_scalar}
use Rattle.nest_syntax.specs.Among.{is_among}
use Rattle.nest_mean.specs.NamesChanged.{KeepsOthers}
use Rattle.nest_mean.specs.Saved.{taken_over, AreSaved}

pub taken-append : (xs ys : List ℕ) (source target : List ℤ) → taken_over (xs ++ ys) source target ≡ taken_over ys source (taken_over xs source target)
taken-append [] ys source target = refl
taken-append (x ∷ xs) ys source target = taken-append xs ys source (with_scalar target x (scalar_at source x))

-- of the parts at place i and behind it, the one at i is taken over
pub takes_more : {A : Type 0} (source : List ℤ) (f : A → List ℕ) (xs : List A) (i : ℕ) → i < length xs → (here : A) → here ≡ get_or xs i here → (target target' whole : List ℤ)
    → taken_over (concat (map f (drop i xs))) source target ≡ whole → target' ≡ taken_over (f here) source target → taken_over (concat (map f (drop (i + 1) xs))) source target' ≡ whole
takes_more source f xs i there here is target target' whole left more =
    let rest : drop i xs ≡ here ∷ drop (i + 1) xs = drop-cons xs i here there ∙ ap (λ x. x ∷ drop (suc i) xs) (sym is) ∙ ap (λ k. here ∷ drop k xs) (sym (add-one i)) in
    ap (taken_over (concat (map f (drop (i + 1) xs))) source) more ∙ sym (taken-append (f here) (concat (map f (drop (i + 1) xs))) source target)
    ∙ ap (λ ys. taken_over (concat (map f ys)) source target) (sym rest) ∙ left

pub takes_all : {A : Type 0} (source : List ℤ) (f : A → List ℕ) (xs : List A) (i : ℕ) → length xs ≤ i → (target whole : List ℤ) → taken_over (concat (map f (drop i xs))) source target ≡ whole → target ≡ whole
takes_all source f xs i over target whole left = ap (λ ys. taken_over (concat (map f ys)) source target) (sym (drop_all i xs over)) ∙ left

-- the same of a list of names itself
pub takes_next : (names : List ℕ) (i d : ℕ) → i < length names → (source target target' whole : List ℤ)
    → taken_over (drop i names) source target ≡ whole → target' ≡ taken_over (get_or names i d ∷ []) source target → taken_over (drop (i + 1) names) source target' ≡ whole
takes_next names i d there source target target' whole left more =
    let rest : drop i names ≡ get_or names i d ∷ drop (i + 1) names = drop-cons names i d there ∙ ap (λ k. get_or names i d ∷ drop k names) (sym (add-one i)) in
    ap (taken_over (drop (i + 1) names) source) more ∙ ap (λ ys. taken_over ys source target) (sym rest) ∙ left

pub takes_none : (names : List ℕ) (i : ℕ) → length names ≤ i → (source target whole : List ℤ) → taken_over (drop i names) source target ≡ whole → target ≡ whole
takes_none names i over source target whole left = ap (λ ys. taken_over ys source target) (sym (drop_all i names over)) ∙ left

pub length-taken : (names : List ℕ) (source target : List ℤ) → length (taken_over names source target) ≡ length target
length-taken [] source target = refl
length-taken (first ∷ names) source target = length-taken names source (with_scalar target first (scalar_at source first)) ∙ length-set target first (scalar_at source first)

-- a name that isn't among them keeps its scalar, and one that is takes that of the source
taken_at : (names : List ℕ) (source target : List ℤ) (name : ℕ) (value : ℤ) → name < length target → (is_among names name ≡ false → scalar_at target name ≡ value) → (is_among names name ≡ true → scalar_at source name ≡ value)
    → scalar_at (taken_over names source target) name ≡ value
taken_at [] source target name value there apart among = apart refl
taken_at (first ∷ names) source target name value there apart among = taken_at names source next name value inside (out (eqb_tells name first)) (within (eqb_tells name first))
  where
    next : List ℤ
    next = with_scalar target first (scalar_at source first)

    inside : name < length next
    inside = subst (λ n. name < n) (sym (length-set target first (scalar_at source first))) there

    out : (((name == first) ≡ true) × (name ≡ first)) ⊎ (((name == first) ≡ false) × (name ≢ first)) → is_among names name ≡ false → scalar_at next name ≡ value
    out (inl e) apart' =
        let there' : first < length target = omega (arith, e.1, there) in
        ap (scalar_at next) e.1 ∙ get_or-set_same target first (scalar_at source first) (pos 0) there' ∙ ap (scalar_at source) (sym e.1) ∙ among (ap (λ b. b || is_among names name) e.0)
    out (inr e) apart' = get_or-set_other target first name (scalar_at source first) (pos 0) e.1 ∙ apart (ap (λ b. b || is_among names name) e.0 ∙ apart')

    within : (((name == first) ≡ true) × (name ≡ first)) ⊎ (((name == first) ≡ false) × (name ≢ first)) → is_among names name ≡ true → scalar_at source name ≡ value
    within (inl e) among' = among (ap (λ b. b || is_among names name) e.0)
    within (inr e) among' = among (ap (λ b. b || is_among names name) e.0 ∙ among')

not_both : {A : Type 0} (b : Bool) → b ≡ true → b ≡ false → A
not_both b is isn = absurd (cc)

-- scalars that were taken over are saved
pub saves : (names : List ℕ) (scalars saved : List ℤ) → length saved ≡ length scalars → AreSaved names scalars (taken_over names scalars saved)
saves names scalars saved many = record {
  many = length-taken names scalars saved ∙ many;
  each = λ name there among. taken_at names scalars saved name (scalar_at scalars name) (subst (λ n. name < n) (length-taken names scalars saved) there) (λ apart. not_both (is_among names name) among apart) (λ _. refl);
}

-- what was saved is put back: the scalars are what they were
pub put_back_saved : (names : List ℕ) (before after saved : List ℤ) → KeepsOthers names before after → AreSaved names before saved → taken_over names saved after ≡ before
put_back_saved names before after saved kept are_saved = ext_get_or (pos 0) (taken_over names saved after) before (length-taken names saved after ∙ kept.many) (λ name there.
    let inside : name < length after = subst (λ n. name < n) (length-taken names saved after) there in
    let in_saved : name < length saved = subst (λ n. name < n) (kept.many ∙ sym are_saved.many) inside in
    taken_at names saved after name (scalar_at before name) inside (λ apart. kept.others name apart) (λ among. are_saved.each name in_saved among))

-- names with the same members take over the same
pub takes_same : (names others : List ℕ) (source target : List ℤ) → ((name : ℕ) → is_among names name ≡ is_among others name) → taken_over names source target ≡ taken_over others source target
takes_same names others source target same = ext_get_or (pos 0) (taken_over names source target) (taken_over others source target) (length-taken names source target ∙ sym (length-taken others source target)) (λ name there.
    let inside : name < length target = subst (λ n. name < n) (length-taken names source target) there in
    taken_at names source target name (scalar_at (taken_over others source target) name) inside
    (λ apart. sym (taken_at others source target name (scalar_at target name) inside (λ _. refl) (λ among. not_both (is_among names name) (same name ∙ among) apart)))
    (λ among. sym (taken_at others source target name (scalar_at source name) inside (λ apart. not_both (is_among names name) among (same name ∙ apart)) (λ _. refl))))

pub length-declared : (decls : List Decl) (scalars : List ℤ) → length (declared_scalars decls scalars) ≡ length scalars
length-declared [] scalars = refl
length-declared (decl.Array line name size fixed ∷ decls) scalars = length-declared decls scalars
length-declared (decl.Scalar line name value ∷ decls) scalars = length-declared decls (with_scalar scalars name value) ∙ length-set scalars name value
