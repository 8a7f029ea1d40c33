-- The scalars with which an iteration is carried out: but for the locals of its body, which begin with 0, they are those of
-- the iteration.
use Rattle.std.proofs.Common.{◌≡◌, ℕ, zero, suc, ℤ, pos, false, ◌||◌, ◌⊎◌, ◌<◌, Option, Some, None, List, [], ◌∷◌, length, refl, sym, ap, ◌∙◌, subst, inl, inr, ⊎_elim, arith}
use Rattle.std.proofs.lemmas.Bool.{cases_order, ne_eqb}
use Rattle.std.proofs.lemmas.List.{length-set, set-get_or, get_or-set_other}
use Rattle.nest_syntax.specs.Among.{is_among}
use Rattle.nest_syntax.specs.Locals.{with_zeros}
use Rattle.nest_syntax.specs.Value.{scalar_at, with_scalar}
use Rattle.sched_cursor.specs.declared.node.Invocation.{Invocation}
use Rattle.sched_cursor.specs.declared.node.At.TheVariants as at
use Rattle.sched_cursor.specs.Turning.{variable_of}
use Rattle.sched_cursor.specs.Cursor.{Cursor}
use Rattle.sched_cursor.specs.Events.{value_of, scalars_inside}
use Rattle.sched_cursor.specs.Given.{with_given, given_named, given_at}
use Rattle.sched_cursor.proofs.Given.{as_many_with, as_many_named}

-- what is set in both is the same in both
set_same : (xs ys : List ℤ) (name : ℕ) (v : ℤ) → length xs ≡ length ys → scalar_at (with_scalar xs name v) name ≡ scalar_at (with_scalar ys name v) name
set_same [] [] name v e = refl
set_same [] (y ∷ ys) name v e = absurd (let no : 0 ≡ suc (length ys) = e in cc)
set_same (x ∷ xs) [] name v e = absurd (let no : suc (length xs) ≡ 0 = e in cc)
set_same (x ∷ xs) (y ∷ ys) zero v e = refl
set_same (x ∷ xs) (y ∷ ys) (suc name) v e = set_same xs ys name v (let same : length xs ≡ length ys = cc in same)

-- and what was the same stays so
set_alike : (xs ys : List ℤ) (name other : ℕ) (v : ℤ) → length xs ≡ length ys → scalar_at xs other ≡ scalar_at ys other → scalar_at (with_scalar xs name v) other ≡ scalar_at (with_scalar ys name v) other
set_alike xs ys name other v many same = ⊎_elim
    (λ here. subst (λ n. scalar_at (with_scalar xs name v) n ≡ scalar_at (with_scalar ys name v) n) (sym here) (set_same xs ys name v many))
    (λ differ. get_or-set_other xs name other v (pos 0) (apart differ) ∙ same ∙ sym (get_or-set_other ys name other v (pos 0) (apart differ)))
    (cases_order other name)
  where
    apart : (other < name) ⊎ (name < other) → other ≡ name → ⊥
    apart (inl low) is = omega (arith, low, is)
    apart (inr high) is = omega (arith, high, is)

all_same : (xs ys : List ℤ) → length xs ≡ length ys → ((name : ℕ) → scalar_at xs name ≡ scalar_at ys name) → xs ≡ ys
all_same [] [] many same = refl
all_same [] (y ∷ ys) many same = absurd (let no : 0 ≡ suc (length ys) = many in cc)
all_same (x ∷ xs) [] many same = absurd (let no : suc (length xs) ≡ 0 = many in cc)
all_same (x ∷ xs) (y ∷ ys) many same = λ i. same 0 i ∷ all_same xs ys (let tails : length xs ≡ length ys = cc in tails) (λ name. same (suc name)) i

-- With 0 for these names, scalars are the same that differ in these alone.
pub zeros_same : (names : List ℕ) (xs ys : List ℤ) → length xs ≡ length ys → ((name : ℕ) → is_among names name ≡ false → scalar_at xs name ≡ scalar_at ys name) → with_zeros names xs ≡ with_zeros names ys
zeros_same [] xs ys many same = all_same xs ys many (λ name. same name refl)
zeros_same (n ∷ names) xs ys many same = zeros_same names (with_scalar xs n (pos 0)) (with_scalar ys n (pos 0)) (length-set xs n (pos 0) ∙ many ∙ sym (length-set ys n (pos 0))) (λ name other. by name other (cases_order name n))
  where
    by : (name : ℕ) → is_among names name ≡ false → (name ≡ n) ⊎ ((name < n) ⊎ (n < name)) → scalar_at (with_scalar xs n (pos 0)) name ≡ scalar_at (with_scalar ys n (pos 0)) name
    by name other (inl here) = subst (λ k. scalar_at (with_scalar xs n (pos 0)) k ≡ scalar_at (with_scalar ys n (pos 0)) k) (sym here) (set_same xs ys n (pos 0) many)
    by name other (inr (inl low)) = set_alike xs ys n name (pos 0) many (same name (ap (λ b. b || is_among names name) (ne_eqb name n (λ is. omega (arith, is, low))) ∙ other))
    by name other (inr (inr high)) = set_alike xs ys n name (pos 0) many (same name (ap (λ b. b || is_among names name) (ne_eqb name n (λ is. omega (arith, is, high))) ∙ other))

-- a scalar that is right already stays so
kept_named : (others : List ℤ) (names : List (Option ℕ)) (scalars : List ℤ) (n : ℕ) → length scalars ≡ length others → scalar_at scalars n ≡ scalar_at others n → scalar_at (given_named others names scalars) n ≡ scalar_at others n
kept_named others [] scalars n many same = same
kept_named others (name ∷ names) scalars n many same = kept_named others names (with_given scalars name (value_of others name)) n (as_many_with scalars name (value_of others name) ∙ many) (by name)
  where
    by : (name : Option ℕ) → scalar_at (with_given scalars name (value_of others name)) n ≡ scalar_at others n
    by None = same
    by (Some m) = set_alike scalars others m n (scalar_at others m) many same ∙ ap (λ xs. scalar_at xs n) (set-get_or others m (pos 0))

module _ (c : Cursor) (i : Invocation) where
  -- what was given the scalars of the next iteration is right where it was right before, and at its variable
  pub given_right : (scalars : List ℤ) (n : ℕ) → length scalars ≡ length c.scalars → ((i.name ≡ Some n → ⊥) → scalar_at scalars n ≡ scalar_at c.scalars n) → scalar_at (given_at c (at.Inside i) scalars) n ≡ scalar_at (scalars_inside c.scalars i) n
  given_right scalars n many same = by i.name same
    where
      named : length (given_named c.scalars c.names scalars) ≡ length c.scalars
      named = as_many_named c.scalars c.names scalars ∙ many

      by : (name : Option ℕ) → ((name ≡ Some n → ⊥) → scalar_at scalars n ≡ scalar_at c.scalars n)
          → scalar_at (with_given (given_named c.scalars c.names scalars) name (variable_of i.turning)) n ≡ scalar_at (with_given c.scalars name (variable_of i.turning)) n
      by None same = kept_named c.scalars c.names scalars n many (same (λ is. let no : None ≡ Some n = is in cc))
      by (Some m) same = ⊎_elim
          (λ here. subst (λ k. scalar_at (with_scalar (given_named c.scalars c.names scalars) m (variable_of i.turning)) k ≡ scalar_at (with_scalar c.scalars m (variable_of i.turning)) k) (sym here) (set_same (given_named c.scalars c.names scalars) c.scalars m (variable_of i.turning) named))
          (λ differ. set_alike (given_named c.scalars c.names scalars) c.scalars m n (variable_of i.turning) named (kept_named c.scalars c.names scalars n many (same (λ is. let here : m ≡ n = cc in apart m differ (sym here)))))
          (cases_order n m)
        where
          apart : (m : ℕ) → (n < m) ⊎ (m < n) → n ≡ m → ⊥
          apart m (inl low) is = omega (arith, low, is)
          apart m (inr high) is = omega (arith, high, is)

  pub as_many_inside : length (scalars_inside c.scalars i) ≡ length c.scalars
  as_many_inside = as_many_with c.scalars i.name (variable_of i.turning)
