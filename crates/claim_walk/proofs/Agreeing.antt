-- Scalars that agree: on the names that may be used, but for data locals.
use Rattle.std.proofs.Common.{◌≡◌, ℕ, zero, suc, ◌==◌, ℤ, Bool, true, false, not, ◌||◌, ◌&&◌, List, [], ◌∷◌, length, refl, sym, ap, ◌∙◌, subst, eq-eqb}
use Rattle.std.specs.List.{list_all}
use Rattle.std.proofs.lemmas.List.{length-set}
use Rattle.std.proofs.lemmas.Bool.{or_left, or_right, eqb-true}
use Rattle.nest_syntax.specs.declared.tree.Expr.{Expr}
use Rattle.nest_syntax.specs.Among.{is_among}
use Rattle.nest_syntax.specs.Value.{scalar_at, with_scalar}
use Rattle.data_local.specs.Names.{scalars_in}
use Rattle.claim_walk.specs.Walk.{Setting}
use Rattle.claim_walk.proofs.Slices.{AgreeIn}
use Rattle.claim_walk.proofs.Fits.{is_seen, sees}

pub and_left : (a b : Bool) → (a && b) ≡ true → a ≡ true
and_left true b e = refl
and_left false b e = e

pub and_right : (a b : Bool) → (a && b) ≡ true → b ≡ true
and_right true b e = e
and_right false b e = absurd (let no : false ≡ true = e in cc)

pub not_false : (a : Bool) → not a ≡ true → a ≡ false
not_false true e = absurd (let no : false ≡ true = e in cc)
not_false false e = refl

-- a scalar behind a write of a scalar
pub set_same : (xs ys : List ℤ) (name : ℕ) (v : ℤ) → length xs ≡ length ys → scalar_at (with_scalar xs name v) name ≡ scalar_at (with_scalar ys name v) name
set_same [] [] name v e = refl
set_same [] (y ∷ ys) name v e = absurd (let no : 0 ≡ suc (length ys) = e in cc)
set_same (x ∷ xs) [] name v e = absurd (let no : suc (length xs) ≡ 0 = e in cc)
set_same (x ∷ xs) (y ∷ ys) zero v e = refl
set_same (x ∷ xs) (y ∷ ys) (suc name) v e = set_same xs ys name v (let same : length xs ≡ length ys = cc in same)

set_apart : (xs : List ℤ) (name other : ℕ) (v : ℤ) → (other ≡ name → ⊥) → scalar_at (with_scalar xs name v) other ≡ scalar_at xs other
set_apart [] name other v apart = refl
set_apart (x ∷ xs) zero zero v apart = absurd (apart refl)
set_apart (x ∷ xs) zero (suc other) v apart = refl
set_apart (x ∷ xs) (suc name) zero v apart = refl
set_apart (x ∷ xs) (suc name) (suc other) v apart = set_apart xs name other v (λ e. apart (ap suc e))

pub set_other : (xs : List ℤ) (name other : ℕ) (v : ℤ) → (other == name) ≡ false → scalar_at (with_scalar xs name v) other ≡ scalar_at xs other
set_other xs name other v e = set_apart xs name other v (λ same. let no : true ≡ false = sym (eq-eqb other name same) ∙ e in absurd cc)

module _ (set : Setting) (hidden : ℕ → Bool) where
  -- each name that may be used where these names are bound, and is no data local, has the same value
  pub record Agree (bound : List ℕ) (xs ys : List ℤ) : Type 0 where
    pub as_many : length xs ≡ length ys
    pub each : (name : ℕ) → set.is_data_local name ≡ false → is_seen set hidden bound name ≡ true → scalar_at xs name ≡ scalar_at ys name

  pub agree_refl : (bound : List ℕ) (xs : List ℤ) → Agree bound xs xs
  agree_refl bound xs = record { as_many = refl; each = λ name sliced seen. refl }

  pub agree_sym : (bound : List ℕ) (xs ys : List ℤ) → Agree bound xs ys → Agree bound ys xs
  agree_sym bound xs ys a = record { as_many = sym a.as_many; each = λ name sliced seen. sym (a.each name sliced seen) }

  pub agree_trans : (bound : List ℕ) (xs ys zs : List ℤ) → Agree bound xs ys → Agree bound ys zs → Agree bound xs zs
  agree_trans bound xs ys zs a b = record { as_many = a.as_many ∙ b.as_many; each = λ name sliced seen. a.each name sliced seen ∙ b.each name sliced seen }

  -- more names are bound
  abbrev pub Wider : List ℕ → List ℕ → Type 0
  Wider bound wide = (name : ℕ) → is_among bound name ≡ true → is_among wide name ≡ true

  pub seen_wider : (bound wide : List ℕ) (name : ℕ) → Wider bound wide → is_seen set hidden bound name ≡ true → is_seen set hidden wide name ≡ true
  seen_wider bound wide name wider seen = by (is_among bound name) refl seen
    where
      by : (b : Bool) → is_among bound name ≡ b → (b || not (hidden name)) ≡ true → (is_among wide name || not (hidden name)) ≡ true
      by true is e = or_left (is_among wide name) (not (hidden name)) (wider name is)
      by false is e = or_right (is_among wide name) (not (hidden name)) e

  pub agree_narrower : (bound wide : List ℕ) (xs ys : List ℤ) → Wider bound wide → Agree wide xs ys → Agree bound xs ys
  agree_narrower bound wide xs ys wider a = record { as_many = a.as_many; each = λ name sliced seen. a.each name sliced (seen_wider bound wide name wider seen) }

  pub one_wider : (bound : List ℕ) (name : ℕ) → Wider bound (name ∷ bound)
  one_wider bound name other is = or_right (other == name) (is_among bound other) is

  -- both are given a value of a name, which is bound from then on
  pub agree_given : (bound : List ℕ) (xs ys : List ℤ) (name : ℕ) (v : ℤ) → Agree bound xs ys → Agree (name ∷ bound) (with_scalar xs name v) (with_scalar ys name v)
  agree_given bound xs ys name v a = record {
    as_many = length-set xs name v ∙ a.as_many ∙ sym (length-set ys name v);
    each = λ other sliced seen. by other sliced (other == name) refl seen;
  }
    where
      by : (other : ℕ) → set.is_data_local other ≡ false → (b : Bool) → (other == name) ≡ b → ((b || is_among bound other) || not (hidden other)) ≡ true → scalar_at (with_scalar xs name v) other ≡ scalar_at (with_scalar ys name v) other
      by other sliced true same seen = subst (λ n. scalar_at (with_scalar xs name v) n ≡ scalar_at (with_scalar ys name v) n) (sym (eqb-true other name same)) (set_same xs ys name v a.as_many)
      by other sliced false apart seen = set_other xs name other v apart ∙ a.each other sliced seen ∙ sym (set_other ys name other v apart)

  -- one is given a value of a name that is a data local, or that may not be used
  pub data_given : (bound : List ℕ) (xs : List ℤ) (name : ℕ) (v : ℤ) → set.is_data_local name ≡ true → Agree bound xs (with_scalar xs name v)
  data_given bound xs name v is_data = record {
    as_many = sym (length-set xs name v);
    each = λ other sliced seen. by other sliced (other == name) refl;
  }
    where
      by : (other : ℕ) → set.is_data_local other ≡ false → (b : Bool) → (other == name) ≡ b → scalar_at xs other ≡ scalar_at (with_scalar xs name v) other
      by other sliced true same = absurd (let no : true ≡ false = sym is_data ∙ sym (ap set.is_data_local (eqb-true other name same)) ∙ sliced in cc)
      by other sliced false apart = sym (set_other xs name other v apart)

  pub unseen_given : (bound : List ℕ) (xs : List ℤ) (name : ℕ) (v : ℤ) → is_seen set hidden bound name ≡ false → Agree bound xs (with_scalar xs name v)
  unseen_given bound xs name v unseen = record {
    as_many = sym (length-set xs name v);
    each = λ other sliced seen. by other seen (other == name) refl;
  }
    where
      by : (other : ℕ) → is_seen set hidden bound other ≡ true → (b : Bool) → (other == name) ≡ b → scalar_at xs other ≡ scalar_at (with_scalar xs name v) other
      by other seen true same = absurd (let no : true ≡ false = sym seen ∙ ap (is_seen set hidden bound) (eqb-true other name same) ∙ unseen in cc)
      by other seen false apart = sym (set_other xs name other v apart)

  -- scalars that agree do so in an expression that may stand there
  all_of : (test : ℕ → Bool) (xs : List ℕ) (name : ℕ) → list_all test xs ≡ true → is_among xs name ≡ true → test name ≡ true
  all_of test [] name e is = absurd (let no : false ≡ true = is in cc)
  all_of test (x ∷ xs) name e is = by (λ later. all_of test xs name (and_right (test x) (list_all test xs) e) later) (name == x) refl is
    where
      by : (is_among xs name ≡ true → test name ≡ true) → (b : Bool) → (name == x) ≡ b → (b || is_among xs name) ≡ true → test name ≡ true
      by rest true same is = ap test (eqb-true name x same) ∙ and_left (test x) (list_all test xs) e
      by rest false apart is = rest is

  pub agree_in : (bound : List ℕ) (xs ys : List ℤ) (e : Expr) → sees set hidden bound e ≡ true → Agree bound xs ys → AgreeIn set e xs ys
  agree_in bound xs ys e all a name is sliced = a.each name sliced (all_of (is_seen set hidden bound) (scalars_in e) name all is)
