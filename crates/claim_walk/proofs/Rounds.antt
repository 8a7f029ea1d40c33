-- As many rounds as a body has givings find its data locals, and nothing else.
use Rattle.std.proofs.Common.{◌≡◌, ℕ, zero, suc, ◌+◌, ◌≤◌, ◌==◌, Bool, true, false, ◌||◌, cond, List, [], ◌∷◌, map, length, refl, sym, ap, ◌∙◌, subst, arith, ◌⊎◌, inl, inr, eq-eqb}
use Rattle.std.specs.List.{list_any, filter}
use Rattle.std.proofs.lemmas.Bool.{or_left, or_right, or_cases, eqb-true}
use Rattle.nest_syntax.specs.declared.tree.Expr.{Expr}
use Rattle.nest_syntax.specs.declared.tree.Stmt.{Stmt}
use Rattle.nest_syntax.specs.Among.{is_among, IsOne}
use Rattle.nest_syntax.specs.Arrays.{Array}
use Rattle.nest_syntax.specs.Value.{names_written}
use Rattle.data_local.specs.Names.{scalars_in}
use Rattle.data_local.specs.Givings.{Giving, givings}
use Rattle.data_local.specs.DataLocals.{IsGivenData, by_array, by_local, AreDataLocals}
use Rattle.data_local.specs.Breaches.{is_data}
use Rattle.claim_walk.specs.Rounds.{is_data_giving, next_round, after_rounds, data_locals_of}

-- some of a list passes a test
any_one : {A : Type 0} (p : A → Bool) (xs : List A) → list_any p xs ≡ true → (x : A) × IsOne xs x × (p x ≡ true)
any_one p [] is = absurd (let no : false ≡ true = is in cc)
any_one p (x ∷ xs) is = elim (or_cases (p x) (list_any p xs) is) [
  | inl here ↦ (x, inl refl, here)
  | inr later ↦ let found = any_one p xs later in (found.0, inr found.1, found.2)
]

one_any : {A : Type 0} (p : A → Bool) (xs : List A) (x : A) → IsOne xs x → p x ≡ true → list_any p xs ≡ true
one_any p [] x one is = absurd one
one_any p (y ∷ xs) x (inl same) is = or_left (p y) (list_any p xs) (ap p (sym same) ∙ is)
one_any p (y ∷ xs) x (inr later) is = or_right (p y) (list_any p xs) (one_any p xs x later is)

among_one : (names : List ℕ) (name : ℕ) → IsOne names name → is_among names name ≡ true
among_one names name one = one_any (λ other. name == other) names name one (eq-eqb name name refl)

-- what is kept of a list by two tests, of which the second passes more
module _ {A : Type 0} (p q : A → Bool) (more : (x : A) → p x ≡ true → q x ≡ true) where
  abbrev Compared : List A → Type 0
  Compared xs = (suc (length (filter p xs)) ≤ length (filter q xs)) ⊎ (filter p xs ≡ filter q xs)

  compared_at : (x : A) (xs : List A) (a b : Bool) → (a ≡ true → b ≡ true) → Compared xs
      → (suc (length (cond a (x ∷ filter p xs) (filter p xs))) ≤ length (cond b (x ∷ filter q xs) (filter q xs))) ⊎ (cond a (x ∷ filter p xs) (filter p xs) ≡ cond b (x ∷ filter q xs) (filter q xs))
  compared_at x xs true true into (inl less) = inl (omega (arith, less))
  compared_at x xs true true into (inr same) = inr (ap (λ ys. x ∷ ys) same)
  compared_at x xs true false into c = absurd (let no : false ≡ true = into refl in cc)
  compared_at x xs false true into (inl less) = inl (omega (arith, less))
  compared_at x xs false true into (inr same) = inl (let e : length (filter p xs) ≡ length (filter q xs) = ap length same in omega (arith, e))
  compared_at x xs false false into c = c

  pub compared : (xs : List A) → Compared xs
  compared [] = inr refl
  compared (x ∷ xs) = compared_at x xs (p x) (q x) (more x) (compared xs)

fewer : {A : Type 0} (p : A → Bool) (xs : List A) → length (filter p xs) ≤ length xs
fewer p [] = omega arith
fewer p (x ∷ xs) = by (p x) (fewer p xs)
  where
    by : (a : Bool) → length (filter p xs) ≤ length xs → length (cond a (x ∷ filter p xs) (filter p xs)) ≤ suc (length xs)
    by true le = omega (arith, le)
    by false le = omega (arith, le)

map_length : {A : Type 0} {B : Type 0} (f : A → B) (xs : List A) → length (map f xs) ≡ length xs
map_length f [] = refl
map_length f (x ∷ xs) = ap suc (map_length f xs)

module _ (arrays : List Array) (gs : List Giving) where
  abbrev Under : List ℕ → List ℕ → Type 0
  Under found more = (name : ℕ) → is_among found name ≡ true → is_among more name ≡ true

  named_under : (found more names : List ℕ) → Under found more → list_any (is_among found) names ≡ true → list_any (is_among more) names ≡ true
  named_under found more names under is = let one = any_one (is_among found) names is in one_any (is_among more) names one.0 one.1 (under one.0 one.2)

  data_under : (found more : List ℕ) (e : Expr) → Under found more → is_data arrays found e ≡ true → is_data arrays more e ≡ true
  data_under found more e under is = elim (or_cases (names_written arrays e) (list_any (is_among found) (scalars_in e)) is) [
    | inl written ↦ or_left (names_written arrays e) (list_any (is_among more) (scalars_in e)) written
    | inr named ↦ or_right (names_written arrays e) (list_any (is_among more) (scalars_in e)) (named_under found more (scalars_in e) under named)
  ]

  giving_under : (found more : List ℕ) → Under found more → (g : Giving) → is_data_giving arrays found g ≡ true → is_data_giving arrays more g ≡ true
  giving_under found more under g is = let one = any_one (is_data arrays found) g.depends is in one_any (is_data arrays more) g.depends one.0 one.1 (data_under found more one.0 under one.2)

  -- what a round finds is given by a giving that passes, and each such giving is found
  abbrev names : (Giving → Bool) → List Giving → List ℕ
  names p some = map (λ (g : Giving). g.name) (filter p some)

  found_giving : (p : Giving → Bool) (some : List Giving) (name : ℕ) → is_among (names p some) name ≡ true → (g : Giving) × IsOne some g × (p g ≡ true) × (name ≡ g.name)
  found_giving p [] name is = absurd (let no : false ≡ true = is in cc)
  found_giving p (g ∷ some) name is = by (p g) refl is (found_giving p some name)
    where
      abbrev_of : Type 0
      abbrev_of = (h : Giving) × IsOne (g ∷ some) h × (p h ≡ true) × (name ≡ h.name)

      later : (h : Giving) × IsOne some h × (p h ≡ true) × (name ≡ h.name) → abbrev_of
      later h = (h.0, inr h.1, h.2, h.3)

      by : (b : Bool) → p g ≡ b → is_among (map (λ (h : Giving). h.name) (cond b (g ∷ filter p some) (filter p some))) name ≡ true → (is_among (names p some) name ≡ true → (h : Giving) × IsOne some h × (p h ≡ true) × (name ≡ h.name)) → abbrev_of
      by true passes e rest = elim (or_cases (name == g.name) (is_among (names p some) name) e) [
        | inl same ↦ (g, inl refl, passes, eqb-true name g.name same)
        | inr behind ↦ later (rest behind)
      ]
      by false passes e rest = later (rest e)

  giving_found : (p : Giving → Bool) (some : List Giving) (g : Giving) → IsOne some g → p g ≡ true → is_among (names p some) g.name ≡ true
  giving_found p [] g one is = absurd one
  giving_found p (h ∷ some) g one is = by (λ later. giving_found p some g later is) (p h) refl one
    where
      by : (IsOne some g → is_among (names p some) g.name ≡ true) → (b : Bool) → p h ≡ b → (g ≡ h) ⊎ IsOne some g → is_among (map (λ (k : Giving). k.name) (cond b (h ∷ filter p some) (filter p some))) g.name ≡ true
      by rest true passes (inl same) = or_left (g.name == h.name) (is_among (names p some) g.name) (eq-eqb g.name h.name (ap (λ (k : Giving). k.name) same))
      by rest true passes (inr later) = or_right (g.name == h.name) (is_among (names p some) g.name) (rest later)
      by rest false passes (inl same) = absurd (let no : false ≡ true = sym passes ∙ (ap p (sym same) ∙ is) in cc)
      by rest false passes (inr later) = rest later

  abbrev after : ℕ → List ℕ
  after n = after_rounds arrays gs n

  round_under : (found more : List ℕ) → Under found more → Under (next_round arrays gs found) (next_round arrays gs more)
  round_under found more under name is =
      let g = found_giving (is_data_giving arrays found) gs name is in
      subst (λ k. is_among (next_round arrays gs more) k ≡ true) (sym g.3) (giving_found (is_data_giving arrays more) gs g.0 g.1 (giving_under found more under g.0 g.2))

  grows : (n : ℕ) → Under (after n) (after (suc n))
  grows zero name is = absurd (let no : false ≡ true = is in cc)
  grows (suc n) name is = round_under (after n) (after (suc n)) (grows n) name is

  -- a round finds more names than the one before, or the same
  abbrev Growing : ℕ → Type 0
  Growing n = (suc (length (after n)) ≤ length (after (suc n))) ⊎ (after (suc n) ≡ after n)

  some_or_none : (xs : List ℕ) → (1 ≤ length xs) ⊎ (xs ≡ [])
  some_or_none [] = inr refl
  some_or_none (x ∷ xs) = inl (omega arith)

  growing : (n : ℕ) → Growing n
  growing zero = some_or_none (after 1)
  growing (suc n) = elim (compared (is_data_giving arrays (after n)) (is_data_giving arrays (after (suc n))) (giving_under (after n) (after (suc n)) (grows n)) gs) [
    | inl less ↦ inl (
        let old : length (after (suc n)) ≡ length (filter (is_data_giving arrays (after n)) gs) = map_length (λ (g : Giving). g.name) (filter (is_data_giving arrays (after n)) gs) in
        let new : length (after (suc (suc n))) ≡ length (filter (is_data_giving arrays (after (suc n))) gs) = map_length (λ (g : Giving). g.name) (filter (is_data_giving arrays (after (suc n))) gs) in
        omega (arith, less, old, new))
    | inr same ↦ inr (ap (map (λ (g : Giving). g.name)) (sym same))
  ]

  abbrev Stands : ℕ → Type 0
  Stands n = after (suc n) ≡ after n

  many_or_stands : (n : ℕ) → (n ≤ length (after n)) ⊎ Stands n
  many_or_stands zero = inl (omega arith)
  many_or_stands (suc n) = by (many_or_stands n) (growing n)
    where
      by : (n ≤ length (after n)) ⊎ Stands n → Growing n → (suc n ≤ length (after (suc n))) ⊎ Stands (suc n)
      by (inl many) (inl less) = inl (omega (arith, many, less))
      by (inl many) (inr same) = inr (ap (next_round arrays gs) same)
      by (inr stands) grown = inr (ap (next_round arrays gs) stands)

  stands : Stands (length gs)
  stands = by (many_or_stands (length gs)) (growing (length gs))
    where
      by : (length gs ≤ length (after (length gs))) ⊎ Stands (length gs) → Growing (length gs) → Stands (length gs)
      by (inr stands) grown = stands
      by (inl many) (inr same) = same
      by (inl many) (inl less) =
          let all : length (after (suc (length gs))) ≡ length (filter (is_data_giving arrays (after (length gs))) gs) = map_length (λ (g : Giving). g.name) (filter (is_data_giving arrays (after (length gs))) gs) in
          absurd (omega (arith, many, less, all, fewer (is_data_giving arrays (after (length gs))) gs))

  found_again : (g : Giving) → IsOne gs g → is_data_giving arrays (after (length gs)) g ≡ true → is_among (after (length gs)) g.name ≡ true
  found_again g one is = subst (λ found. is_among found g.name ≡ true) stands (giving_found (is_data_giving arrays (after (length gs))) gs g one is)

  pub all_found : (name : ℕ) → IsGivenData arrays gs name → is_among (after (length gs)) name ≡ true
  all_found name (by_array g e one dep written) = found_again g one (one_any (is_data arrays (after (length gs))) g.depends e dep (or_left (names_written arrays e) (list_any (is_among (after (length gs))) (scalars_in e)) written))
  all_found name (by_local g e other one dep named given) = found_again g one (one_any (is_data arrays (after (length gs))) g.depends e dep
      (or_right (names_written arrays e) (list_any (is_among (after (length gs))) (scalars_in e)) (one_any (is_among (after (length gs))) (scalars_in e) other (among_is (scalars_in e) other named) (all_found other given))))
    where
      among_is : (names : List ℕ) (name : ℕ) → is_among names name ≡ true → IsOne names name
      among_is names name is = let one = any_one (λ other. name == other) names is in subst (IsOne names) (sym (eqb-true name one.0 one.2)) one.1

  pub found_is_given : (n : ℕ) (name : ℕ) → is_among (after n) name ≡ true → IsGivenData arrays gs name
  found_is_given zero name is = absurd (let no : false ≡ true = is in cc)
  found_is_given (suc n) name is =
      let g = found_giving (is_data_giving arrays (after n)) gs name is in
      let e = any_one (is_data arrays (after n)) g.0.depends g.2 in
      subst (IsGivenData arrays gs) (sym g.3) (elim (or_cases (names_written arrays e.0) (list_any (is_among (after n)) (scalars_in e.0)) e.2) [
        | inl written ↦ by_array g.0 e.0 g.1 e.1 written
        | inr named ↦ let other = any_one (is_among (after n)) (scalars_in e.0) named in by_local g.0 e.0 other.0 g.1 e.1 (among_one (scalars_in e.0) other.0 other.1) (found_is_given n other.0 other.2)
      ])

pub are_data_locals : (arrays : List Array) (body : List Stmt) → AreDataLocals arrays body (data_locals_of arrays body)
are_data_locals arrays body name = (λ is. found_is_given arrays (givings body) (length (givings body)) name is, λ given. all_found arrays (givings body) name given)
