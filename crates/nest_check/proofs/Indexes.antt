-- Tables of the indexes at which names stand first in a list.
use Rattle.std.proofs.Common.{◌≡◌, ◌≢◌, ℕ, zero, suc, ◌+◌, ◌<◌, ◌≤◌, ◌==◌, Bool, true, false, if◌then◌else◌, Option, Some, None, List, [], ◌∷◌, length, drop, replicate, get_or, refl, sym, ap, ◌∙◌, subst, arith, drop-cons, add-one, ◌⊎◌, inl, inr}
use Rattle.std.specs.Prelude.{is_none, slice_set}
use Rattle.std.specs.Option.{option_map}
use Rattle.std.proofs.lemmas.Bool.Decides.{eqb_tells}
use Rattle.std.proofs.lemmas.List.{drop_all, get_or-set_same, get_or-set_other, length-set, length-replicate}
use Rattle.nest_syntax.specs.Arrays.{Array, array_names, array_of}
use Rattle.nest_check.specs.Declarations.{index_of_name}
use Rattle.nest_check.specs.Tables.{at_name, index_noted}

abbrev pub found_or : Option ℕ → Option ℕ → Option ℕ
found_or None other = other
found_or (Some p) other = Some p

-- the first i names have their indexes
pub record IsIndexed (names : List ℕ) (table : List (Option ℕ)) (i index : ℕ) : Type 0 where
  pub at : index ≡ i
  pub room : (k : ℕ) → k < length names → get_or names k 0 < length table
  pub indexes : (name : ℕ) → found_or (at_name table name) (option_map (λ p. i + p) (index_of_name (drop i names) name)) ≡ index_of_name names name

none_at : (n name : ℕ) → at_name (replicate n None) name ≡ None
none_at zero name = refl
none_at (suc n) zero = refl
none_at (suc n) (suc name) = none_at n name

from_zero : (o : Option ℕ) → option_map (λ p. 0 + p) o ≡ o
from_zero None = refl
from_zero (Some p) = ap Some (omega arith)

pub indexing_begins : (names : List ℕ) (n : ℕ) → ((k : ℕ) → k < length names → get_or names k 0 < n) → IsIndexed names (replicate n None) 0 0
indexing_begins names n room = record {
  at = refl;
  room = λ k there. subst (λ m. get_or names k 0 < m) (sym (length-replicate n None)) (room k there);
  indexes = λ name. ap (λ o. found_or o (option_map (λ p. 0 + p) (index_of_name names name))) (none_at n name) ∙ from_zero (index_of_name names name);
}

shifted : (i : ℕ) (o : Option ℕ) → option_map (λ p. (i + 1) + p) o ≡ option_map (λ p. i + p) (option_map suc o)
shifted i None = refl
shifted i (Some p) = ap Some (omega arith)

noted_same : (table : List (Option ℕ)) (name index : ℕ) (o rest : Option ℕ) → name < length table → at_name table name ≡ o → found_or (at_name (index_noted table name index) name) rest ≡ found_or (at_name table name) (Some index)
noted_same table name index None rest there is =
    ap (λ o. found_or (at_name (if is_none o then slice_set table name (Some index) else table) name) rest) is ∙ ap (λ o. found_or o rest) (get_or-set_same table name (Some index) None there) ∙ ap (λ o. found_or o (Some index)) (sym is)
noted_same table name index (Some p) rest there is =
    ap (λ o. found_or (at_name (if is_none o then slice_set table name (Some index) else table) name) rest) is ∙ ap (λ o. found_or o rest) is ∙ ap (λ o. found_or o (Some index)) (sym is)

noted_other : (table : List (Option ℕ)) (here name index : ℕ) → name ≢ here → at_name (index_noted table here index) name ≡ at_name table name
noted_other table here name index other = by (is_none (at_name table here))
  where
    by : (b : Bool) → at_name (if b then slice_set table here (Some index) else table) name ≡ at_name table name
    by true = get_or-set_other table here name (Some index) None other
    by false = refl

noted_length : (table : List (Option ℕ)) (here index : ℕ) → length (index_noted table here index) ≡ length table
noted_length table here index = by (is_none (at_name table here))
  where
    by : (b : Bool) → length (if b then slice_set table here (Some index) else table) ≡ length table
    by true = length-set table here (Some index)
    by false = refl

pub indexing_goes : (names : List ℕ) (table table' : List (Option ℕ)) (i index here : ℕ) → i < length names → here ≡ get_or names i 0 → table' ≡ index_noted table here index → IsIndexed names table i index → IsIndexed names table' (i + 1) (index + 1)
indexing_goes names table table' i index here there is after before = subst (λ t. IsIndexed names t (i + 1) (index + 1)) (sym after) (record {
  at = ap (λ n. n + 1) before.at;
  room = λ k there'. subst (λ m. get_or names k 0 < m) (sym (noted_length table here index)) (before.room k there');
  indexes = λ name. by name (eqb_tells here name) ∙ before.indexes name;
})
  where
    rest : drop i names ≡ here ∷ drop (i + 1) names
    rest = drop-cons names i 0 there ∙ ap (λ x. x ∷ drop (suc i) names) (sym is) ∙ ap (λ k. here ∷ drop k names) (sym (add-one i))

    inside : here < length table
    inside = subst (λ n. n < length table) (sym is) (before.room i there)

    by : (name : ℕ) → (((here == name) ≡ true) × (here ≡ name)) ⊎ (((here == name) ≡ false) × (here ≢ name))
        → found_or (at_name (index_noted table here index) name) (option_map (λ p. (i + 1) + p) (index_of_name (drop (i + 1) names) name)) ≡ found_or (at_name table name) (option_map (λ p. i + p) (index_of_name (drop i names) name))
    by name (inl e) =
        subst (λ n. found_or (at_name (index_noted table here index) n) (option_map (λ p. (i + 1) + p) (index_of_name (drop (i + 1) names) n)) ≡ found_or (at_name table n) (Some index)) e.1 (noted_same table here index (at_name table here) _ inside refl)
        ∙ ap (λ p. found_or (at_name table name) (Some p)) (before.at ∙ sym_zero i)
        ∙ ap (λ b. found_or (at_name table name) (option_map (λ p. i + p) (if b then Some 0 else option_map suc (index_of_name (drop (i + 1) names) name)))) (sym e.0)
        ∙ ap (λ ns. found_or (at_name table name) (option_map (λ p. i + p) (index_of_name ns name))) (sym rest)
      where
        sym_zero : (n : ℕ) → n ≡ n + 0
        sym_zero n = omega arith
    by name (inr e) =
        ap (λ o. found_or o (option_map (λ p. (i + 1) + p) (index_of_name (drop (i + 1) names) name))) (noted_other table here name index (λ same. e.1 (sym same)))
        ∙ ap (found_or (at_name table name)) (shifted i (index_of_name (drop (i + 1) names) name))
        ∙ ap (λ b. found_or (at_name table name) (option_map (λ p. i + p) (if b then Some 0 else option_map suc (index_of_name (drop (i + 1) names) name)))) (sym e.0)
        ∙ ap (λ ns. found_or (at_name table name) (option_map (λ p. i + p) (index_of_name ns name))) (sym rest)

or_none : (o : Option ℕ) → found_or o None ≡ o
or_none None = refl
or_none (Some p) = refl

pub indexing_ends : (names : List ℕ) (table : List (Option ℕ)) (i index : ℕ) → length names ≤ i → IsIndexed names table i index → (name : ℕ) → at_name table name ≡ index_of_name names name
indexing_ends names table i index over placing name =
    sym (or_none (at_name table name)) ∙ ap (λ ns. found_or (at_name table name) (option_map (λ p. i + p) (index_of_name ns name))) (sym (drop_all i names over)) ∙ placing.indexes name

pub array_index : (arrays : List Array) (name : ℕ) → index_of_name (array_names arrays) name ≡ array_of arrays name
array_index [] name = refl
array_index (a ∷ arrays) name = ap (λ o. if a.name == name then Some 0 else option_map suc o) (array_index arrays name)
