-- Scalars that were given the values of the scheduler's agree with those of the iteration.
use Rattle.std.proofs.Common.{◌≡◌, ℕ, zero, suc, ℤ, pos, Bool, true, false, nat_lt, Option, Some, None, List, [], ◌∷◌, length, slice_get, refl, sym, ap, ◌∙◌, subst, get_or, ◌≤◌}
use Rattle.std.specs.Option.{option_map, option_and_then}
use Rattle.std.proofs.lemmas.Bool.{ltb-true, ltb-false}
use Rattle.std.proofs.lemmas.List.{length-set, get_or_past}
use Rattle.nest_syntax.specs.declared.tree.Loop.{Loop}
use Rattle.nest_syntax.specs.declared.tree.Program.{Program}
use Rattle.nest_syntax.specs.Shape.{Body, invoked_by}
use Rattle.nest_syntax.specs.Value.{scalar_at, with_scalar}
use Rattle.nest_check.specs.Tables.{scalar_of}
use Rattle.sched_cursor.specs.declared.node.Invocation.{Invocation}
use Rattle.sched_cursor.specs.declared.node.At.{At}
use Rattle.sched_cursor.specs.declared.node.At.TheVariants as at
use Rattle.sched_cursor.specs.Turning.{variable_of}
use Rattle.sched_cursor.specs.Cursor.{Cursor}
use Rattle.sched_cursor.specs.Events.{is_iterating, value_of, handed_at, scalars_inside}
use Rattle.sched_cursor.specs.Handed.{what_of, loop_of_body, variable_of_body, NumbersNames, AtTells, Tells, naming_of}
use Rattle.sched_cursor.specs.Given.{with_given, given_named, given_at, AgreeOn, GivenAgree}
use Rattle.sched_cursor.proofs.Handing.{variable_told, told_inside}

-- as many scalars as before
pub as_many_with : (scalars : List ℤ) (name : Option ℕ) (value : ℤ) → length (with_given scalars name value) ≡ length scalars
as_many_with scalars None value = refl
as_many_with scalars (Some n) value = length-set scalars n value

pub as_many_named : (others : List ℤ) (names : List (Option ℕ)) (scalars : List ℤ) → length (given_named others names scalars) ≡ length scalars
as_many_named others [] scalars = refl
as_many_named others (name ∷ names) scalars = as_many_named others names (with_given scalars name (value_of others name)) ∙ as_many_with scalars name (value_of others name)

-- what is set in both is the same in both
set_same : (xs ys : List ℤ) (name : ℕ) (v : ℤ) → length xs ≡ length ys → scalar_at (with_scalar xs name v) name ≡ scalar_at (with_scalar ys name v) name
set_same [] [] name v e = refl
set_same [] (y ∷ ys) name v e = absurd (let no : 0 ≡ suc (length ys) = e in cc)
set_same (x ∷ xs) [] name v e = absurd (let no : suc (length xs) ≡ 0 = e in cc)
set_same (x ∷ xs) (y ∷ ys) zero v e = refl
set_same (x ∷ xs) (y ∷ ys) (suc name) v e = set_same xs ys name v (let same : length xs ≡ length ys = cc in same)

-- and what was the same stays so
set_alike : (xs ys : List ℤ) (name other : ℕ) (v : ℤ) → length xs ≡ length ys → scalar_at xs other ≡ scalar_at ys other → scalar_at (with_scalar xs name v) other ≡ scalar_at (with_scalar ys name v) other
set_alike [] [] name other v e same = refl
set_alike [] (y ∷ ys) name other v e same = absurd (let no : 0 ≡ suc (length ys) = e in cc)
set_alike (x ∷ xs) [] name other v e same = absurd (let no : suc (length xs) ≡ 0 = e in cc)
set_alike (x ∷ xs) (y ∷ ys) zero zero v e same = refl
set_alike (x ∷ xs) (y ∷ ys) zero (suc other) v e same = same
set_alike (x ∷ xs) (y ∷ ys) (suc name) zero v e same = same
set_alike (x ∷ xs) (y ∷ ys) (suc name) (suc other) v e same = set_alike xs ys name other v (let tails : length xs ≡ length ys = cc in tails) same

-- to set a scalar what it is changes nothing
set_own : (xs : List ℤ) (name : ℕ) → with_scalar xs name (scalar_at xs name) ≡ xs
set_own [] name = refl
set_own (x ∷ xs) zero = refl
set_own (x ∷ xs) (suc name) = ap (λ ys. x ∷ ys) (set_own xs name)

module _ (others : List ℤ) where
  same_given : (scalars : List ℤ) (n : ℕ) → length scalars ≡ length others → scalar_at (with_scalar scalars n (scalar_at others n)) n ≡ scalar_at others n
  same_given scalars n many = set_same scalars others n (scalar_at others n) many ∙ ap (λ xs. scalar_at xs n) (set_own others n)

  still_given : (scalars : List ℤ) (name : Option ℕ) (n : ℕ) → length scalars ≡ length others → scalar_at scalars n ≡ scalar_at others n
      → scalar_at (with_given scalars name (value_of others name)) n ≡ scalar_at others n
  still_given scalars None n many same = same
  still_given scalars (Some other) n many same = set_alike scalars others other n (scalar_at others other) many same ∙ ap (λ xs. scalar_at xs n) (set_own others other)

  keeps : (names : List (Option ℕ)) (scalars : List ℤ) (n : ℕ) → length scalars ≡ length others → scalar_at scalars n ≡ scalar_at others n → scalar_at (given_named others names scalars) n ≡ scalar_at others n
  keeps [] scalars n many same = same
  keeps (name ∷ names) scalars n many same = keeps names (with_given scalars name (value_of others name)) n (as_many_with scalars name (value_of others name) ∙ many) (still_given scalars name n many same)

  -- a name among the names has its value
  gives : (names : List (Option ℕ)) (number : ℕ) (scalars : List ℤ) (n : ℕ) → get_or names number None ≡ Some n → length scalars ≡ length others → scalar_at (given_named others names scalars) n ≡ scalar_at others n
  gives [] number scalars n is many = absurd (let no : None ≡ Some n = is in cc)
  gives (name ∷ names) zero scalars n is many =
      keeps names (with_given scalars name (value_of others name)) n (as_many_with scalars name (value_of others name) ∙ many)
      (subst (λ m. scalar_at (with_given scalars m (value_of others m)) n ≡ scalar_at others n) (sym is) (same_given scalars n many))
  gives (name ∷ names) (suc number) scalars n is many = gives names number (with_given scalars name (value_of others name)) n is (as_many_with scalars name (value_of others name) ∙ many)

-- with the variable
with_alike : (xs ys : List ℤ) (name : Option ℕ) (other : ℕ) (v : ℤ) → length xs ≡ length ys → scalar_at xs other ≡ scalar_at ys other → scalar_at (with_given xs name v) other ≡ scalar_at (with_given ys name v) other
with_alike xs ys None other v many same = same
with_alike xs ys (Some name) other v many same = set_alike xs ys name other v many same

-- a loop's name is the variable
named_by : (program : Program) (body : ℕ) (l : Loop) → loop_of_body program body ≡ Some l → variable_of_body program body ≡ Some l.name
named_by program body l = by (slice_get (invoked_by program) body)
  where
    header : (h : Option Loop) → h ≡ Some l → option_map (λ (l : Loop). l.name) h ≡ Some l.name
    header h is = ap (option_map (λ (l : Loop). l.name)) is

    by : (found : Option Body) → option_and_then (λ (b : Body). b.header) found ≡ Some l → option_and_then (λ (b : Body). option_map (λ (l : Loop). l.name) b.header) found ≡ Some l.name
    by None is = absurd (let no : None ≡ Some l = is in cc)
    by (Some b) is = header b.header is

module _ (program : Program) (c : Cursor) (scalars : List ℤ) (numbers : NumbersNames program c.names) (tells : Tells (naming_of program) c) (many : length scalars ≡ length program.names) where
  as_many_own : length scalars ≡ length c.scalars
  as_many_own = many ∙ sym tells.many

  as_many_both : length (given_named c.scalars c.names scalars) ≡ length c.scalars
  as_many_both = as_many_named c.scalars c.names scalars ∙ as_many_own

  scheduled : (name number : ℕ) → scalar_of program name ≡ Some number → scalar_at (given_named c.scalars c.names scalars) name ≡ scalar_at c.scalars name
  scheduled name number is = by (nat_lt name (length program.names)) refl
    where
      by : (b : Bool) → nat_lt name (length program.names) ≡ b → scalar_at (given_named c.scalars c.names scalars) name ≡ scalar_at c.scalars name
      by true inside = gives c.scalars c.names number scalars name ((numbers.tells number name (ltb-true name (length program.names) inside)).0 is) as_many_own
      by false outside =
          let far = ltb-false name (length program.names) outside in
          get_or_past (given_named c.scalars c.names scalars) name (pos 0) (subst (λ n. n ≤ name) (sym (as_many_both ∙ tells.many)) far)
          ∙ sym (get_or_past c.scalars name (pos 0) (subst (λ n. n ≤ name) (sym tells.many) far))

  agree_inside : (i : Invocation) → variable_of_body program i.body ≡ i.name → AgreeOn program i.body (given_at c (at.Inside i) scalars) (scalars_inside c.scalars i)
  agree_inside i named = record {
    as_many = as_many_with (given_named c.scalars c.names scalars) i.name (variable_of i.turning) ∙ as_many_both ∙ sym (as_many_with c.scalars i.name (variable_of i.turning));
    scheduled = λ name number is. with_alike (given_named c.scalars c.names scalars) c.scalars i.name name (variable_of i.turning) as_many_both (scheduled name number is);
    variable = λ l is.
        subst (λ m. scalar_at (with_given (given_named c.scalars c.names scalars) m (variable_of i.turning)) l.name ≡ scalar_at (with_given c.scalars m (variable_of i.turning)) l.name)
        (sym (named_by program i.body l is) ∙ named) (set_same (given_named c.scalars c.names scalars) c.scalars l.name (variable_of i.turning) as_many_both);
  }

  agree_at : (a : At) → is_iterating a ≡ true → AtTells (naming_of program) a → AgreeOn program (handed_at c a).body (given_at c a scalars) (what_of program (handed_at c a)).1
  agree_at (at.Before next) is told = absurd (let no : false ≡ true = is in cc)
  agree_at (at.Inside i) is told =
      let named = variable_told program i told.variable in
      subst (λ (b : ℕ × List ℤ). AgreeOn program i.body (given_at c (at.Inside i) scalars) b.1) (sym (told_inside program c numbers tells i named)) (agree_inside i named)

pub given_agree : GivenAgree
given_agree program c scalars of is many = agree_at program c scalars of.names of.tells many c.at is of.tells.at
