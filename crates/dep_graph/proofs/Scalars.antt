-- Scalars while a turn goes on: names among lists, what a statement changes, and what stays of the values of symbols.
use Rattle.std.proofs.Common.{◌≡◌, ◌≢◌, ℕ, ◌<◌, ◌==◌, ℤ, pos, Bool, true, false, ◌||◌, if◌then◌else◌, ◌⊎◌, inl, inr, Option, Some, None, List, [], ◌∷◌, ◌++◌, length, slice_index_or, refl, sym, ap, ◌∙◌, subst, arith}
use Rattle.std.specs.List.{list_any}
use Rattle.std.specs.Option.{option_map}
use Rattle.std.proofs.lemmas.List.{get_or-set_same, get_or-set_other, length-set}
use Rattle.std.proofs.lemmas.List.Folds.{list_any-append}
use Rattle.std.proofs.lemmas.Bool.{eqb-true}
use Rattle.std.proofs.lemmas.Bool.Decides.{eqb_tells}
use Rattle.nest_syntax.specs.declared.tree.Loop.{Loop}
use Rattle.nest_syntax.specs.declared.tree.Program.{Program}
use Rattle.nest_syntax.specs.Words.{variable}
use Rattle.nest_syntax.specs.Value.{scalar_at, with_scalar}
use Rattle.nest_syntax.specs.Among.{is_among}
use Rattle.nest_check.specs.Tables.{scalar_of}
use Rattle.dep_graph.specs.declared.forms.Symbol.{Symbol}
use Rattle.dep_graph.specs.declared.forms.Symbol.TheVariants as symbol
use Rattle.dep_graph.specs.declared.around.Turning.{Turning}
use Rattle.dep_graph.specs.declared.around.Around.{Around}
use Rattle.dep_graph.specs.declared.around.Around.TheVariants as around
use Rattle.dep_graph.specs.declared.around.Header.{Header}
use Rattle.dep_graph.specs.declared.around.Header.TheVariants as header
use Rattle.dep_graph.specs.Forms.{is_given, symbol_inside, symbol_outside, symbol_of, or_else}
use Rattle.dep_graph.specs.Spans.{within}
use Rattle.dep_graph.proofs.Values.{Valuation, symbol_value, IsSmall}
use Rattle.dep_graph.proofs.Reach.{Between, FitsAround}

-- a name among one list or the other
pub out_first : (xs ys : List ℕ) (name : ℕ) → is_among (xs ++ ys) name ≡ false → is_among xs name ≡ false
out_first xs ys name out = by (is_among xs name) (is_among ys name) (sym (list_any-append (λ other. name == other) xs ys) ∙ out)
  where
    by : (a b : Bool) → (a || b) ≡ false → a ≡ false
    by false b e = refl
    by true b e = e

pub out_second : (xs ys : List ℕ) (name : ℕ) → is_among (xs ++ ys) name ≡ false → is_among ys name ≡ false
out_second xs ys name out = by (is_among xs name) (is_among ys name) (sym (list_any-append (λ other. name == other) xs ys) ∙ out)
  where
    by : (a b : Bool) → (a || b) ≡ false → b ≡ false
    by false b e = e
    by true b e = absurd cc

pub in_first : (xs ys : List ℕ) (name : ℕ) → is_among xs name ≡ true → is_among (xs ++ ys) name ≡ true
in_first xs ys name among = list_any-append (λ other. name == other) xs ys ∙ ap (λ b. b || is_among ys name) among

pub in_second : (xs ys : List ℕ) (name : ℕ) → is_among ys name ≡ true → is_among (xs ++ ys) name ≡ true
in_second xs ys name among = list_any-append (λ other. name == other) xs ys ∙ ap (λ b. is_among xs name || b) among ∙ by (is_among xs name)
  where
    by : (a : Bool) → (a || true) ≡ true
    by true = refl
    by false = refl

pub same_name : (a b : ℕ) → (a == b) ≡ true → a ≡ b
same_name a b e = eqb-true a b e

not_one : (name one : ℕ) (rest : List ℕ) → is_among (one ∷ rest) name ≡ false → name ≢ one
not_one name one rest out same = by (eqb_tells name one)
  where
    by : (((name == one) ≡ true) × (name ≡ one)) ⊎ (((name == one) ≡ false) × (name ≢ one)) → ⊥
    by (inl is) = absurd (let no : true ≡ false = sym (ap (λ b. b || is_among rest name) is.0) ∙ out in cc)
    by (inr isnt) = isnt.1 same

-- the scalars are as before, but for some names
pub record Changes (names : List ℕ) (before after : List ℤ) : Type 0 where
  pub same : (name : ℕ) → is_among names name ≡ false → scalar_at after name ≡ scalar_at before name
  pub size : length after ≡ length before

pub changes_none : (names : List ℕ) (scalars : List ℤ) → Changes names scalars scalars
changes_none names scalars = record { same = λ name out. refl; size = refl }

pub changes_one : (name : ℕ) (rest : List ℕ) (scalars : List ℤ) (value : ℤ) → Changes (name ∷ rest) scalars (with_scalar scalars name value)
changes_one name rest scalars value = record {
  same = λ other out. get_or-set_other scalars name other value (pos 0) (not_one other name rest out);
  size = length-set scalars name value;
}

pub changes_both : (xs ys : List ℕ) (a b c : List ℤ) → Changes xs a b → Changes ys b c → Changes (xs ++ ys) a c
changes_both xs ys a b c first second = record {
  same = λ name out. second.same name (out_second xs ys name out) ∙ first.same name (out_first xs ys name out);
  size = second.size ∙ first.size;
}

pub changes_more : (names : List ℕ) (a b c : List ℤ) → Changes names a b → Changes names b c → Changes names a c
changes_more names a b c first second = record { same = λ name out. second.same name out ∙ first.same name out; size = second.size ∙ first.size }

pub changes_within : (xs ys : List ℕ) (a b : List ℤ) → Changes xs a b → ((name : ℕ) → is_among ys name ≡ false → is_among xs name ≡ false) → Changes ys a b
changes_within xs ys a b change out = record { same = λ name is. change.same name (out name is); size = change.size }

-- in a body: the loops around aren't among these names
abbrev pub IsStill : Around → List ℕ → Type 0
IsStill around.Nothing names = Unit {0}
IsStill (around.One l) names = is_among names l.name ≡ false
IsStill (around.Two l m) names = (is_among names l.name ≡ false) × (is_among names m.name ≡ false)

pub still_first : (inside : Around) (xs ys : List ℕ) → IsStill inside (xs ++ ys) → IsStill inside xs
still_first around.Nothing xs ys still = tt
still_first (around.One l) xs ys still = out_first xs ys l.name still
still_first (around.Two l m) xs ys still = (out_first xs ys l.name still.0, out_first xs ys m.name still.1)

pub still_second : (inside : Around) (xs ys : List ℕ) → IsStill inside (xs ++ ys) → IsStill inside ys
still_second around.Nothing xs ys still = tt
still_second (around.One l) xs ys still = out_second xs ys l.name still
still_second (around.Two l m) xs ys still = (out_second xs ys l.name still.0, out_second xs ys m.name still.1)

-- the scalars have the values of the loops around
abbrev pub HasAround : Around → Valuation → List ℤ → Type 0
HasAround around.Nothing v scalars = Unit {0}
HasAround (around.One l) v scalars = scalar_at scalars l.name ≡ v.outer
HasAround (around.Two l m) v scalars = (scalar_at scalars l.name ≡ v.outer) × (scalar_at scalars m.name ≡ v.inner)

pub around_after : (inside : Around) (v : Valuation) (names : List ℕ) (a b : List ℤ) → IsStill inside names → Changes names a b → HasAround inside v a → HasAround inside v b
around_after around.Nothing v names a b still change has = tt
around_after (around.One l) v names a b still change has = change.same l.name still ∙ has
around_after (around.Two l m) v names a b still change has = (change.same l.name still.0 ∙ has.0, change.same m.name still.1 ∙ has.1)

-- all of these names are given by the body
abbrev pub IsInside : Loop → List ℕ → Type 0
IsInside nest names = (name : ℕ) → is_given nest name ≡ false → is_among names name ≡ false

-- a turn of a loop of the body
abbrev pub entered : Header → Around → Around
entered header.Open inside = inside
entered header.Idle inside = inside
entered (header.Turns l) inside = within inside l

abbrev pub valued : Header → Around → Valuation → ℤ → Valuation
valued header.Open inside v x = v
valued header.Idle inside v x = v
valued (header.Turns l) around.Nothing v x = record { variable = v.variable; outer = x; inner = v.inner; scalars = v.scalars }
valued (header.Turns l) (around.One m) v x = record { variable = v.variable; outer = v.outer; inner = x; scalars = v.scalars }
valued (header.Turns l) (around.Two m n) v x = v

abbrev pub FitsHeader : Header → ℕ → ℤ → Type 0
FitsHeader header.Open name x = Unit {0}
FitsHeader header.Idle name x = Unit {0}
FitsHeader (header.Turns l) name x = (l.name ≡ name) × Between l.low l.last x

-- the body of an invocation, from the scalars with which a turn begins; `numbered` has the values of the scheduler's
-- scalars by their numbers
module _ (program : Program) (nest : Loop) (opening numbered : List ℤ) where
  pub record State (inside : Around) (v : Valuation) (scalars : List ℤ) : Type 0 where
    pub fits : FitsAround inside v
    pub variable : v.variable ≡ scalar_at opening nest.name
    pub scheduled : v.scalars ≡ numbered
    pub kept : (name : ℕ) → is_given nest name ≡ false → scalar_at scalars name ≡ scalar_at opening name
    pub has : HasAround inside v scalars
    pub size : length scalars ≡ length opening

  pub state_after : (inside : Around) (v : Valuation) (names : List ℕ) (a b : List ℤ) → IsStill inside names → IsInside nest names → Changes names a b → State inside v a → State inside v b
  state_after inside v names a b still within change state = record {
    fits = state.fits;
    variable = state.variable;
    scheduled = state.scheduled;
    kept = λ name out. change.same name (within name out) ∙ state.kept name out;
    has = around_after inside v names a b still change state.has;
    size = change.size ∙ state.size;
  }

  -- the numbers of the scheduler's scalars are right
  pub record IsNumbered : Type 0 where
    pub small : (name n : ℕ) → scalar_of program name ≡ Some n → n < 32
    pub value : (name n : ℕ) → scalar_of program name ≡ Some n → (nest.name == name) ≡ false → is_given nest name ≡ false → slice_index_or numbered n (pos 0) ≡ scalar_at opening name
    pub steady : is_given nest nest.name ≡ false

  -- so each symbol has its value
  module _ (right : IsNumbered) (v : Valuation) (scalars : List ℤ) where
    outside_agrees : (inside : Around) → State inside v scalars → (name : ℕ) (s : Symbol) → symbol_outside program nest name ≡ Some s → IsSmall s × (scalar_at scalars name ≡ symbol_value v s)
    outside_agrees inside state name s e = by (nest.name == name) refl e
      where
        by_number : (o : Option ℕ) → scalar_of program name ≡ o → (nest.name == name) ≡ false → is_given nest name ≡ false → option_map symbol.Scalar o ≡ Some s → IsSmall s × (scalar_at scalars name ≡ symbol_value v s)
        by_number None is other free e = absurd cc
        by_number (Some n) is other free e =
            let same : symbol.Scalar n ≡ s = cc in
            let here : scalar_at scalars name ≡ slice_index_or v.scalars n (pos 0) = state.kept name free ∙ sym (right.value name n is other free) ∙ ap (λ l. slice_index_or l n (pos 0)) (sym state.scheduled) in
            subst (λ t. IsSmall t × (scalar_at scalars name ≡ symbol_value v t)) same (right.small name n is, here)

        by_given : (nest.name == name) ≡ false → (b : Bool) → is_given nest name ≡ b → (if b then None else option_map symbol.Scalar (scalar_of program name)) ≡ Some s → IsSmall s × (scalar_at scalars name ≡ symbol_value v s)
        by_given other true is e = absurd cc
        by_given other false is e = by_number (scalar_of program name) refl other is e

        by : (b : Bool) → (nest.name == name) ≡ b → (if b then Some symbol.Variable else if is_given nest name then None else option_map symbol.Scalar (scalar_of program name)) ≡ Some s → IsSmall s × (scalar_at scalars name ≡ symbol_value v s)
        by true is e =
            let same : symbol.Variable ≡ s = cc in
            let own : scalar_at scalars name ≡ v.variable = ap (scalar_at scalars) (sym (same_name nest.name name is)) ∙ state.kept nest.name right.steady ∙ sym state.variable in
            subst (λ t. IsSmall t × (scalar_at scalars name ≡ symbol_value v t)) same (tt, own)
        by false is e = by_given is (is_given nest name) refl e

    pub symbols_agree : (inside : Around) → State inside v scalars → (name : ℕ) (s : Symbol) → symbol_of program nest inside name ≡ Some s → IsSmall s × (scalar_at scalars name ≡ symbol_value v s)
    symbols_agree around.Nothing state name s e = outside_agrees around.Nothing state name s e
    symbols_agree (around.One l) state name s e = by (l.name == name) refl e
      where
        by : (b : Bool) → (l.name == name) ≡ b → or_else (if b then Some symbol.Outer else None) (symbol_outside program nest name) ≡ Some s → IsSmall s × (scalar_at scalars name ≡ symbol_value v s)
        by true is e = let same : symbol.Outer ≡ s = cc in subst (λ t. IsSmall t × (scalar_at scalars name ≡ symbol_value v t)) same (tt, ap (scalar_at scalars) (sym (same_name l.name name is)) ∙ state.has)
        by false is e = outside_agrees (around.One l) state name s e
    symbols_agree (around.Two l m) state name s e = by (m.name == name) refl e
      where
        by_outer : (b : Bool) → (l.name == name) ≡ b → or_else (if b then Some symbol.Outer else None) (symbol_outside program nest name) ≡ Some s → IsSmall s × (scalar_at scalars name ≡ symbol_value v s)
        by_outer true is e = let same : symbol.Outer ≡ s = cc in subst (λ t. IsSmall t × (scalar_at scalars name ≡ symbol_value v t)) same (tt, ap (scalar_at scalars) (sym (same_name l.name name is)) ∙ state.has.0)
        by_outer false is e = outside_agrees (around.Two l m) state name s e

        by : (b : Bool) → (m.name == name) ≡ b → or_else (if b then Some symbol.Inner else if l.name == name then Some symbol.Outer else None) (symbol_outside program nest name) ≡ Some s → IsSmall s × (scalar_at scalars name ≡ symbol_value v s)
        by true is e = let same : symbol.Inner ≡ s = cc in subst (λ t. IsSmall t × (scalar_at scalars name ≡ symbol_value v t)) same (tt, ap (scalar_at scalars) (sym (same_name m.name name is)) ∙ state.has.1)
        by false is e = by_outer (l.name == name) refl e

  module _ (v : Valuation) (scalars : List ℤ) (name : ℕ) (rest : List ℕ) (x : ℤ) (there : name < length opening) (within' : IsInside nest (name ∷ rest)) (apart : is_among rest name ≡ false) where
    changed : Changes (name ∷ []) scalars (with_scalar scalars name x)
    changed = changes_one name [] scalars x

    kept_on : (inside : Around) → State inside v scalars → (other : ℕ) → is_given nest other ≡ false → scalar_at (with_scalar scalars name x) other ≡ scalar_at opening other
    kept_on inside state other out = (changes_one name rest scalars x).same other (within' other out) ∙ state.kept other out

    own : (inside : Around) → State inside v scalars → scalar_at (with_scalar scalars name x) name ≡ x
    own inside state = get_or-set_same scalars name x (pos 0) (let same : length scalars ≡ length opening = state.size in omega arith)

    sized : (inside : Around) → State inside v scalars → length (with_scalar scalars name x) ≡ length opening
    sized inside state = length-set scalars name x ∙ state.size

    unchanged : (inside : Around) → IsStill inside (name ∷ rest) → State inside v scalars → State inside v (with_scalar scalars name x)
    unchanged inside still state = state_after inside v (name ∷ rest) scalars (with_scalar scalars name x) still within' (changes_one name rest scalars x) state

    pub state_entered : (h : Header) (inside : Around) → FitsHeader h name x → IsStill inside (name ∷ rest) → State inside v scalars → State (entered h inside) (valued h inside v x) (with_scalar scalars name x)
    state_entered header.Open inside fits still state = unchanged inside still state
    state_entered header.Idle inside fits still state = unchanged inside still state
    state_entered (header.Turns l) around.Nothing fits still state = record {
      fits = (fits.1, state.fits.1);
      variable = state.variable;
      scheduled = state.scheduled;
      kept = kept_on around.Nothing state;
      has = ap (scalar_at (with_scalar scalars name x)) fits.0 ∙ own around.Nothing state;
      size = sized around.Nothing state;
    }
    state_entered (header.Turns l) (around.One m) fits still state = record {
      fits = (state.fits.0, fits.1);
      variable = state.variable;
      scheduled = state.scheduled;
      kept = kept_on (around.One m) state;
      has = ((changes_one name rest scalars x).same m.name still ∙ state.has, ap (scalar_at (with_scalar scalars name x)) fits.0 ∙ own (around.One m) state);
      size = sized (around.One m) state;
    }
    state_entered (header.Turns l) (around.Two m n) fits still state = unchanged (around.Two m n) still state

    pub still_entered : (h : Header) (inside : Around) → FitsHeader h name x → IsStill inside (name ∷ rest) → IsStill (entered h inside) rest
    still_entered header.Open inside fits still = still_second inside (name ∷ []) rest still
    still_entered header.Idle inside fits still = still_second inside (name ∷ []) rest still
    still_entered (header.Turns l) around.Nothing fits still = ap (is_among rest) fits.0 ∙ apart
    still_entered (header.Turns l) (around.One m) fits still = (still_second (around.One m) (name ∷ []) rest still, ap (is_among rest) fits.0 ∙ apart)
    still_entered (header.Turns l) (around.Two m n) fits still = still_second (around.Two m n) (name ∷ []) rest still
