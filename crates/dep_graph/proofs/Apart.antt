-- DoAll: each pair of accesses is parted, so any two turns are apart.
use Rattle.std.proofs.Common.{◌≡◌, ◌≢◌, ℕ, zero, suc, ◌+◌, ◌<◌, ◌≤◌, ◌==◌, ℤ, pos, Bool, true, false, not, ◌&&◌, ◌||◌, ◌⊎◌, inl, inr, if◌then◌else◌, Option, Some, None, List, [], ◌∷◌, ◌++◌, map, length, slice_index_or, refl, sym, ap, ◌∙◌, subst, arith, append_assoc, eq-eqb}
use Rattle.std.specs.Option.{option_map, option_and_then}
use Rattle.std.proofs.lemmas.Bool.{eqb-true}
use Rattle.std.proofs.lemmas.Bool.Decides.{eqb_tells}
use Rattle.std.proofs.lemmas.List.{get_or-set_same, get_or-set_other, length-set, length-map}
use Rattle.nest_syntax.specs.declared.tree.Loop.{Loop}
use Rattle.nest_syntax.specs.declared.tree.Program.{Program}
use Rattle.nest_syntax.specs.declared.tree.Stmt.{Stmt}
use Rattle.nest_syntax.specs.Words.{variable, most_turns, is_zero}
use Rattle.std.proofs.Math.ListN.{get_or-eq_default}
use Rattle.std.proofs.lemmas.Bool.{cases_lt}
use Rattle.nest_syntax.specs.Arrays.{Array, arrays_of, array_of, sizes_of, located, place_of, place_in}
use Rattle.nest_syntax.specs.Value.{scalar_at, with_scalar}
use Rattle.nest_syntax.specs.Turn.{Turn, Finished, turn_of}
use Rattle.nest_syntax.specs.Locals.{given, names_given, locals_of, with_zeros}
use Rattle.nest_syntax.specs.Among.{Each, IsOne, is_among}
use Rattle.nest_syntax.proofs.Places.{place_in-inside, word_number-same}
use Rattle.nest_check.specs.Declarations.{names_of, first_of_each, index_of_name}
use Rattle.nest_check.specs.Entries.{scheduler_scalars}
use Rattle.nest_check.specs.Tables.{scalar_of}
use Rattle.data_local.specs.Loops.{loops_in}
use Rattle.settle_law.specs.Reading.{number_in, fixed_in}
use Rattle.settle_law.proofs.Reading.{apart_reads}
use Rattle.settle_law.proofs.Turns.{inside_turns_tell}
use Rattle.dep_graph.specs.declared.around.Around.TheVariants as around
use Rattle.dep_graph.specs.declared.accesses.Subscript.{Subscript}
use Rattle.dep_graph.specs.declared.accesses.Access.{Access}
use Rattle.dep_graph.specs.declared.kinds.LoopKind.{LoopKind}
use Rattle.dep_graph.specs.declared.kinds.LoopKind.TheVariants as kind
use Rattle.dep_graph.specs.Forms.{is_given}
use Rattle.dep_graph.specs.Accesses.{accesses_of}
use Rattle.dep_graph.specs.Kinds.{is_parted, passes_test, may_depend, first_where, behind, kind_from, kind_of, do_match, is_moderate, stands_apart, is_skipped, is_elsewhere}
use Rattle.dep_graph.specs.Apart.{turn_with, DoAllIsApart}
use Rattle.dep_graph.proofs.Orderly.{HoldsItsVariable, IsOrderly, is_orderly}
use Rattle.dep_graph.proofs.Whole.{Same}
use Rattle.dep_graph.proofs.Values.{Valuation, value_of, and_left, and_right}
use Rattle.dep_graph.proofs.Reach.{Between, loop_part}
use Rattle.dep_graph.proofs.Touching.{Claim, Touches, reads_apart, IsPlace}
use Rattle.dep_graph.proofs.Meaning.{IsSubscript}
use Rattle.dep_graph.proofs.Scalars.{State, IsNumbered, Changes, changes_none, changes_one, changes_more, changes_within, same_name, out_second}
use Rattle.dep_graph.proofs.Bodies.{HoldsVariable, body_touches}
use Rattle.dep_graph.proofs.Locals.{locals_given, each_own}
use Rattle.dep_graph.proofs.Parting.{turns_between, tests_part, matching}

-- of a DoAll invocation no two accesses may depend on each other, in one order or the other
abbrev Free : ℕ → Access → Access → Type 0
Free step a b = (may_depend step b a ≡ false) ⊎ (may_depend step a b ≡ false)

free_back : (step : ℕ) (a b : Access) → Free step a b → Free step b a
free_back step a b (inl h) = inr h
free_back step a b (inr h) = inl h

none_first : (step : ℕ) (q : Access) (accesses : List Access) → first_where (may_depend step q) accesses ≡ None → (p : Access) → IsOne accesses p → may_depend step q p ≡ false
none_first step q [] e p one = absurd one
none_first step q (x ∷ accesses) e p one = by (λ none later. none_first step q accesses none p later) (may_depend step q x) refl e one
  where
    by : (first_where (may_depend step q) accesses ≡ None → IsOne accesses p → may_depend step q p ≡ false) → (b : Bool) → may_depend step q x ≡ b → (if b then Some x else first_where (may_depend step q) accesses) ≡ None → (p ≡ x) ⊎ IsOne accesses p → may_depend step q p ≡ false
    by go true is none h = absurd cc
    by go false is none (inl same) = ap (may_depend step q) same ∙ is
    by go false is none (inr later) = go none later

one_of_more : (before rest : List Access) (r p : Access) → IsOne (before ++ r ∷ rest) p → IsOne (before ++ r ∷ []) p ⊎ IsOne rest p
one_of_more [] rest r p (inl same) = inl (inl same)
one_of_more [] rest r p (inr later) = inr later
one_of_more (x ∷ before) rest r p (inl same) = inl (inl same)
one_of_more (x ∷ before) rest r p (inr later) = more (one_of_more before rest r p later)
  where
    more : IsOne (before ++ r ∷ []) p ⊎ IsOne rest p → IsOne ((x ∷ before) ++ r ∷ []) p ⊎ IsOne rest p
    more (inl h) = inl (inr h)
    more (inr h) = inr h

one_moved : (before rest : List Access) (r p : Access) → IsOne (before ++ r ∷ rest) p → IsOne ((before ++ r ∷ []) ++ rest) p
one_moved before rest r p one = subst (λ l. IsOne l p) (sym (append_assoc before (r ∷ []) rest)) one

one_last : (before rest : List Access) (r : Access) → IsOne ((before ++ r ∷ []) ++ rest) r
one_last [] rest r = inl refl
one_last (x ∷ before) rest r = inr (one_last before rest r)

behind_all : (o : Option Access) (q : Access) (others : LoopKind) → behind o q others ≡ kind.DoAll → (o ≡ None) × (others ≡ kind.DoAll)
behind_all None q others e = (refl, e)
behind_all (Some p) q others e = absurd cc

all_free : (step : ℕ) (before rest : List Access) → kind_from step before rest ≡ kind.DoAll → (p q : Access) → IsOne (before ++ rest) p → IsOne rest q → Free step p q
all_free step before [] e p q one other = absurd other
all_free step before (r ∷ rest) e p q one other = by (λ a b. all_free step (before ++ r ∷ []) rest parts.1 a b) one other
  where
    parts : (first_where (may_depend step r) (before ++ r ∷ []) ≡ None) × (kind_from step (before ++ r ∷ []) rest ≡ kind.DoAll)
    parts = behind_all (first_where (may_depend step r) (before ++ r ∷ [])) r (kind_from step (before ++ r ∷ []) rest) e

    own : ((a b : Access) → IsOne ((before ++ r ∷ []) ++ rest) a → IsOne rest b → Free step a b) → (a : Access) → IsOne (before ++ r ∷ []) a ⊎ IsOne rest a → Free step a r
    own go a (inl earlier) = inl (none_first step r (before ++ r ∷ []) parts.0 a earlier)
    own go a (inr later) = free_back step r a (go r a (one_last before rest r) later)

    by : ((a b : Access) → IsOne ((before ++ r ∷ []) ++ rest) a → IsOne rest b → Free step a b) → IsOne (before ++ r ∷ rest) p → (q ≡ r) ⊎ IsOne rest q → Free step p q
    by go h (inl same) = subst (λ x. Free step p x) (sym same) (own go p (one_of_more before rest r p h))
    by go h (inr later) = go p q (one_moved before rest r p h) later

-- what is claimed of the accesses of a turn
module _ (program : Program) (nest : Loop) (numbered : List ℤ) where
  abbrev arrays : List Array
  arrays = arrays_of program.decls

  abbrev Reached : ℤ → Option Subscript → ℕ → Type 0
  Reached i None place = Unit {0}
  Reached i (Some s) place = (v : Valuation) × (v.variable ≡ i) × (v.scalars ≡ numbered) × Same (pos place) (value_of v s.form) × Between s.span.least s.span.greatest (loop_part v s.form)

  abbrev Claimed : ℤ → Claim
  Claimed i array place write = (a : Access) × IsOne (accesses_of program nest) a × (array_of arrays a.at.array ≡ Some array) × (a.at.write ≡ write) × Reached i a.subscript place

  located_at : (name : ℕ) (at : ℤ) (p : ℕ × ℕ) → located arrays name at ≡ Some p → (array_of arrays name ≡ Some p.0) × (at ≡ pos p.1)
  located_at name at p e = by (array_of arrays name) e
    where
      by_place : (n : ℕ) (o : Option ℕ) → place_of (sizes_of arrays) n at ≡ o → option_map (λ (place : ℕ). (n, place)) o ≡ Some p → (Some n ≡ Some p.0) × (at ≡ pos p.1)
      by_place n None is e = absurd cc
      by_place n (Some place) is e =
          let same : (n, place) ≡ p = cc in
          (ap (λ (q : ℕ × ℕ). Some q.0) same, (place_in-inside (slice_index_or (sizes_of arrays) n 0) at place is).1 ∙ ap (λ (q : ℕ × ℕ). pos q.1) same)

      by : (o : Option ℕ) → option_and_then (λ (n : ℕ). option_map (λ (place : ℕ). (n, place)) (place_of (sizes_of arrays) n at)) o ≡ Some p → (o ≡ Some p.0) × (at ≡ pos p.1)
      by None e = absurd cc
      by (Some n) e = by_place n (place_of (sizes_of arrays) n at) refl e

  claims : (i : ℤ) (a : Access) → IsOne (accesses_of program nest) a → (v : Valuation) → v.variable ≡ i → v.scalars ≡ numbered → (array place : ℕ) (at : ℤ) → located arrays a.at.array at ≡ Some (array, place) → IsSubscript v a.subscript at → Claimed i array place a.at.write
  claims i a one v variable scalars array place at is value = (a, one, (located_at a.at.array at (array, place) is).0, refl, by a.subscript value)
    where
      by : (s : Option Subscript) → IsSubscript v s at → Reached i s place
      by None h = tt
      by (Some s) h = (v, variable, scalars, subst (λ z. Same z (value_of v s.form)) (located_at a.at.array at (array, place) is).1 h.0, h.1)

-- two accesses at one place, in turns k and m, are not parted
module _ (program : Program) (nest : Loop) (numbered : List ℤ) (low : ℤ) (k m : ℕ) (steps : nest.step ≤ 65536) (differ : k ≡ m → ⊥) (few : k < most_turns) (few' : m < most_turns) where
  parted_never : (i j : ℤ) (s s' : Option Subscript) (place : ℕ) → i ≡ variable low nest.step k → j ≡ variable low nest.step m → is_parted nest.step s s' ≡ true → Reached program nest numbered i s place → Reached program nest numbered j s' place → ⊥
  parted_never i j None s' place first second e reached reached' = absurd cc
  parted_never i j (Some p) None place first second e reached reached' = absurd cc
  parted_never i j (Some p) (Some q) place first second e (v, variable, scalars, same, inside) (w, variable', scalars', same', inside') =
      let (t, some, under, far) = turns_between low nest.step k m differ few few' in
      let equal = matching p.form q.form (and_left (do_match p.form q.form) ((is_moderate p.form && (stands_apart nest.step p q || is_skipped nest.step p q)) || (is_zero p.form.variable && is_elsewhere p q)) e) in
      tests_part nest.step p q v w low k m t steps some under far (variable ∙ first) (variable' ∙ second) (scalars ∙ sym scalars') inside inside' equal.0 equal.1 (sym same ∙ same') e

-- arrays by name
one_name : (arrays : List Array) (a b n : ℕ) → array_of arrays a ≡ Some n → array_of arrays b ≡ Some n → a ≡ b
one_name [] a b n first second = absurd cc
one_name (x ∷ arrays) a b n first second = by (λ i e f. one_name arrays a b i e f) (x.name == a) (x.name == b) refl refl first second
  where
    less : (m : ℕ) (o o' : Option ℕ) → option_map suc o ≡ Some m → option_map suc o' ≡ Some m → (i : ℕ) × (o ≡ Some i) × (o' ≡ Some i)
    less m None o' e f = absurd cc
    less m (Some i) None e f = absurd cc
    less m (Some i) (Some j) e f = (i, refl, let same : Some (suc j) ≡ Some (suc i) = f ∙ sym e in let under : j ≡ i = cc in ap Some under)

    clash : (m : ℕ) (o : Option ℕ) → Some 0 ≡ Some m → option_map suc o ≡ Some m → ⊥
    clash m None e f = absurd cc
    clash m (Some i) e f = let same : Some (suc i) ≡ Some 0 = f ∙ sym e in let zero_is : suc i ≡ 0 = cc in absurd (omega arith)

    by : ((i : ℕ) → array_of arrays a ≡ Some i → array_of arrays b ≡ Some i → a ≡ b) → (t u : Bool) → (x.name == a) ≡ t → (x.name == b) ≡ u → (if t then Some 0 else option_map suc (array_of arrays a)) ≡ Some n → (if u then Some 0 else option_map suc (array_of arrays b)) ≡ Some n → a ≡ b
    by go true true is is' e f = sym (same_name x.name a is) ∙ same_name x.name b is'
    by go true false is is' e f = absurd (clash n (array_of arrays b) e f)
    by go false true is is' e f = absurd (clash n (array_of arrays a) f e)
    by go false false is is' e f = let at = less n (array_of arrays a) (array_of arrays b) e f in go at.0 at.1 at.2

place_bound : (sizes : List ℕ) (array place : ℕ) → place < slice_index_or sizes array 0 → array < length sizes
place_bound sizes array place h = by (cases_lt array (length sizes))
  where
    by : (array < length sizes) ⊎ (length sizes ≤ array) → array < length sizes
    by (inl there) = there
    by (inr past) = absurd (let none : slice_index_or sizes array 0 ≡ 0 = get_or-eq_default sizes 0 past in omega arith)

is_told : (a b c : Bool) → a ≡ true → b ≡ true → (a && (b && not c)) ≡ false → c ≡ true
is_told true true true e f h = refl
is_told true true false e f h = absurd cc
is_told true false c e f h = absurd cc
is_told false b c e f h = absurd cc

or_back : (a b : Bool) → (a || b) ≡ true → (b || a) ≡ true
or_back true true e = refl
or_back true false e = refl
or_back false true e = refl
or_back false false e = e

-- no two claims of two turns meet in a word, one of them a write
module _ (program : Program) (nest : Loop) (all : kind_of program nest ≡ kind.DoAll) (numbered : List ℤ) (low : ℤ) (k m : ℕ) (steps : nest.step ≤ 65536) (differ : k ≡ m → ⊥) (few : k < most_turns) (few' : m < most_turns) (i j : ℤ) (first_is : i ≡ variable low nest.step k) (second_is : j ≡ variable low nest.step m) where
  never_meet : (array place other there : ℕ) (first second : Bool) → IsPlace (arrays_of program.decls) (Claimed program nest numbered i) array place → IsPlace (arrays_of program.decls) (Claimed program nest numbered j) other there
      → Claimed program nest numbered i array place first → Claimed program nest numbered j other there second → (first || second) ≡ true → number_in (arrays_of program.decls) array place ≡ number_in (arrays_of program.decls) other there → ⊥
  never_meet array place other there first second inside inside' (a, one, named, writes, reached) (b, one', named', writes', reached') some word = by (all_free nest.step [] (accesses_of program nest) all a b one one')
    where
      sizes : List ℕ
      sizes = sizes_of (arrays_of program.decls)

      same : (array ≡ other) × (place ≡ there)
      same = word_number-same sizes array place other there (place_bound sizes array place inside) (place_bound sizes other there inside') inside inside' word

      names : a.at.array ≡ b.at.array
      names = one_name (arrays_of program.decls) a.at.array b.at.array array named (named' ∙ ap Some (sym same.0))

      write : (a.at.write || b.at.write) ≡ true
      write = ap (λ x. x || b.at.write) writes ∙ ap (λ x. first || x) writes' ∙ some

      reached_there : Reached program nest numbered j b.subscript place
      reached_there = subst (λ n. Reached program nest numbered j b.subscript n) (sym same.1) reached'

      by : Free nest.step a b → ⊥
      by (inl free) = parted_never program nest numbered low k m steps differ few few' i j a.subscript b.subscript place first_is second_is
          (is_told (a.at.array == b.at.array) (a.at.write || b.at.write) (is_parted nest.step a.subscript b.subscript) (eq-eqb a.at.array b.at.array names) write free) reached reached_there
      by (inr free) = parted_never program nest numbered low m k steps (λ e. differ (sym e)) few' few j i b.subscript a.subscript place second_is first_is
          (is_told (b.at.array == a.at.array) (b.at.write || a.at.write) (is_parted nest.step b.subscript a.subscript) (eq-eqb b.at.array a.at.array (sym names)) (or_back a.at.write b.at.write write) free) reached_there reached

-- the scalars with which a turn begins
zeros_change : (names : List ℕ) (scalars : List ℤ) → Changes names scalars (with_zeros names scalars)
zeros_change [] scalars = changes_none [] scalars
zeros_change (name ∷ names) scalars =
    changes_more (name ∷ names) scalars (with_scalar scalars name (pos 0)) (with_zeros names (with_scalar scalars name (pos 0))) (changes_one name names scalars (pos 0))
    (changes_within names (name ∷ names) (with_scalar scalars name (pos 0)) (with_zeros names (with_scalar scalars name (pos 0))) (zeros_change names (with_scalar scalars name (pos 0))) (λ other out. out_second (name ∷ []) names other out))

-- the values of the scheduler's scalars by their numbers
numbered_is : (f : ℕ → ℤ) (names : List ℕ) (name n : ℕ) → index_of_name names name ≡ Some n → slice_index_or (map f names) n (pos 0) ≡ f name
numbered_is f [] name n e = absurd cc
numbered_is f (first ∷ names) name n e = by (λ i is. numbered_is f names name i is) (first == name) refl e
  where
    later : ((i : ℕ) → index_of_name names name ≡ Some i → slice_index_or (map f names) i (pos 0) ≡ f name) → (o : Option ℕ) → index_of_name names name ≡ o → option_map suc o ≡ Some n → slice_index_or (f first ∷ map f names) n (pos 0) ≡ f name
    later go None is e = absurd cc
    later go (Some i) is e = let at : suc i ≡ n = cc in ap (λ x. slice_index_or (f first ∷ map f names) x (pos 0)) (sym at) ∙ go i is

    by : ((i : ℕ) → index_of_name names name ≡ Some i → slice_index_or (map f names) i (pos 0) ≡ f name) → (b : Bool) → (first == name) ≡ b → (if b then Some 0 else option_map suc (index_of_name names name)) ≡ Some n → slice_index_or (f first ∷ map f names) n (pos 0) ≡ f name
    by go true is e = let at : 0 ≡ n = cc in ap (λ x. slice_index_or (f first ∷ map f names) x (pos 0)) (sym at) ∙ ap f (same_name first name is)
    by go false is e = later go (index_of_name names name) refl e

module _ (program : Program) (nest : Loop) (orderly : IsOrderly program nest) (scalars : List ℤ) (sized : length scalars ≡ length program.names) (value : ℤ) where
  abbrev opening : List ℤ
  opening = with_zeros (locals_of nest.body) (with_scalar scalars nest.name value)

  abbrev numbers : List ℤ
  numbers = map (scalar_at scalars) (names_of (first_of_each (scheduler_scalars program)))

  steady : is_given nest nest.name ≡ false
  steady = orderly.variables.0.steady

  kept_free : (name : ℕ) → is_given nest name ≡ false → scalar_at opening name ≡ scalar_at (with_scalar scalars nest.name value) name
  kept_free name free = (zeros_change (locals_of nest.body) (with_scalar scalars nest.name value)).same name (locals_given nest.body name free)

  length_opening : length opening ≡ length program.names
  length_opening = (zeros_change (locals_of nest.body) (with_scalar scalars nest.name value)).size ∙ length-set scalars nest.name value ∙ sized

  variable_is : scalar_at opening nest.name ≡ value
  variable_is = kept_free nest.name steady ∙ get_or-set_same scalars nest.name value (pos 0) (let there : nest.name < length program.names = orderly.variables.0.named in omega arith)

  is_numbered : IsNumbered program nest opening numbers
  is_numbered = record {
    small = orderly.scalars;
    value = λ name n is other free. numbered_is (scalar_at scalars) (names_of (first_of_each (scheduler_scalars program))) name n is ∙ sym (kept_free name free ∙ get_or-set_other scalars nest.name name value (pos 0) (λ same. absurd (let no : true ≡ false = sym (eq-eqb nest.name name (sym same)) ∙ other in cc)));
    steady = steady;
  }

  all_hold : (list : List Loop) → Each (HoldsItsVariable program) list → Each (HoldsVariable program nest opening numbers is_numbered (Claimed program nest numbers (scalar_at opening nest.name)) (IsOne (accesses_of program nest)) (claims program nest numbers (scalar_at opening nest.name))) list
  all_hold [] each = tt
  all_hold (l ∷ list) each = ((each.0.steady, let there : l.name < length program.names = each.0.named in omega (arith, length_opening)), all_hold list each.1)

  turn_touches : Touches (arrays_of program.decls) (Claimed program nest numbers (scalar_at opening nest.name)) (turn_with program nest scalars value)
  turn_touches = body_touches program nest opening numbers is_numbered (Claimed program nest numbers (scalar_at opening nest.name)) (IsOne (accesses_of program nest)) (claims program nest numbers (scalar_at opening nest.name)) (all_hold (loops_in nest.body) orderly.variables.1) (each_own (accesses_of program nest))

pub do_all_is_apart : DoAllIsApart
do_all_is_apart program well keeps nest invokes all scalars words sized low k m few few' differ =
    let orderly = is_orderly program well keeps nest invokes in
    let arrays = arrays_of program.decls in
    let first = variable low nest.step k in let second = variable low nest.step m in
    let numbers = map (scalar_at scalars) (names_of (first_of_each (scheduler_scalars program))) in
    let i = scalar_at (with_zeros (locals_of nest.body) (with_scalar scalars nest.name first)) nest.name in
    let j = scalar_at (with_zeros (locals_of nest.body) (with_scalar scalars nest.name second)) nest.name in
    let one = turn_with program nest scalars first in let other = turn_with program nest scalars second in
    let stays = orderly.inside (with_scalar scalars nest.name first) in let stays' = orderly.inside (with_scalar scalars nest.name second) in
    let told = inside_turns_tell arrays words in
    (apart_reads arrays (fixed_in arrays words) words one other (told.1 one stays) (told.1 other stays')).0
    (reads_apart arrays (Claimed program nest numbers i) (Claimed program nest numbers j)
    (never_meet program nest all numbers low k m orderly.step differ few few' i j (variable_is program nest orderly scalars sized first) (variable_is program nest orderly scalars sized second))
    words one other stays stays' (turn_touches program nest orderly scalars sized first) (turn_touches program nest orderly scalars sized second))
