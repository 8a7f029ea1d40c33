-- From the nodes that are reached to the names of the data locals, and a list of names that is put in order.
use Rattle.std.proofs.Common.{◌≡◌, ℕ, ◌<◌, ◌≤◌, ◌==◌, eqb, leb, ◌≢◌, Bool, true, false, ◌||◌, if◌then◌else◌, IsTrue, ◌↔◌, ◌⊎◌, inl, inr, Result, Ok, Err, MatchResult, is_ok, List, [], ◌∷◌, length, reverse, get_or, refl, sym, ap, ◌∙◌, subst, arith, eq-eqb, ne_eqb}
use Rattle.std.specs.List.{dedup, flat_map}
use Rattle.std.specs.List.Sorted.{IsBinarySearchResult, IsPermutation, IsStrictlyIncreasing}
use Rattle.std.specs.Cmp.{nat_eq_equiv}
use Rattle.std.specs.Ordering.{nat_cmp}
use Rattle.std.proofs.lemmas.Bool.{eqb-true, false≢true}
use Rattle.std.proofs.lemmas.Bool.Decides.{eqb_tells, leb_tells}
use Rattle.std.proofs.lemmas.List.{get_or_default}
use Rattle.std.proofs.lemmas.List.Folds.{list_any-append, list_any_none, list_any_at}
use Rattle.std.proofs.lemmas.List.Kept.{Contains-dedup_nat, Contains-from_dedup, AllPairs-from_increasing}
use Rattle.std.proofs.lemmas.List.Sorted.{list_any-IsPermutation, searched}
use Rattle.std.proofs.lemmas.Map.Views.{Contains-from_any, list_any-from_Contains, exact_unsigned_eq}
use Rattle.nest_syntax.specs.declared.tree.Stmt.{Stmt}
use Rattle.nest_syntax.specs.Arrays.{Array}
use Rattle.data_local.specs.declared.rows.Row.{Row}
use Rattle.data_local.specs.declared.rows.Row.TheVariants as row
use Rattle.nest_syntax.specs.Among.{is_among, IsOne}
use Rattle.data_local.specs.Givings.{Giving, givings}
use Rattle.data_local.specs.DataLocals.{IsGivenData, IsDataLocal, by_array, by_local, AreDataLocals}
use Rattle.data_local.specs.Rows.{tests_at, told, node_of_name, row_names}
use Rattle.data_local.proofs.Parts.{either, or_left, or_right, any_reverse, one_parts}

-- the name of a row is that of a node
name_reached : (nodes : List ℕ) (name other : ℕ) → is_among (if is_among nodes (node_of_name name) then name ∷ [] else []) other ≡ true → is_among nodes (node_of_name other) ≡ true
name_reached nodes name other h = by_node (is_among nodes (node_of_name name)) refl h
  where
    by_node : (b : Bool) → is_among nodes (node_of_name name) ≡ b → is_among (if b then name ∷ [] else []) other ≡ true → is_among nodes (node_of_name other) ≡ true
    by_node true is h = elim (either (other == name) false h) [
      | inl same ↦ ap (λ n. is_among nodes (node_of_name n)) (eqb-true other name same) ∙ is
      | inr wrong ↦ absurd (false≢true wrong)
    ]
    by_node false is h = absurd cc

names_reached : (nodes : List ℕ) (rows : List Row) (name : ℕ) → is_among (flat_map (row_names nodes) rows) name ≡ true → is_among nodes (node_of_name name) ≡ true
names_reached nodes [] name h = absurd cc
names_reached nodes (row.Test number test under ∷ rows) name h = names_reached nodes rows name h
names_reached nodes (row.Gives given value under ∷ rows) name h =
    elim (either (is_among (row_names nodes (row.Gives given value under)) name) (is_among (flat_map (row_names nodes) rows) name) (sym (list_any-append (λ other. name == other) (row_names nodes (row.Gives given value under)) (flat_map (row_names nodes) rows)) ∙ h)) [
      | inl here ↦ name_reached nodes given name here
      | inr later ↦ names_reached nodes rows name later
    ]

-- each name that is given and reached is listed
giving_listed : (nodes : List ℕ) (rows : List Row) (giving : Giving) → IsOne (told rows) giving → is_among nodes (node_of_name giving.name) ≡ true → is_among (flat_map (row_names nodes) rows) giving.name ≡ true
giving_listed nodes [] giving one h = absurd one
giving_listed nodes (row.Test number test under ∷ rows) giving one h = giving_listed nodes rows giving one h
giving_listed nodes (row.Gives name value under ∷ rows) giving one h =
    list_any-append (λ other. giving.name == other) (row_names nodes (row.Gives name value under)) (flat_map (row_names nodes) rows)
    ∙ by_part (λ earlier. giving_listed nodes rows giving earlier h) (one_parts (told rows) (record { name = name; depends = value.now ∷ tests_at rows under } ∷ []) giving one)
  where
    here : giving.name ≡ name → is_among (row_names nodes (row.Gives name value under)) giving.name ≡ true
    here same =
        ap (λ b. is_among (if b then name ∷ [] else []) giving.name) (sym (ap (λ n. is_among nodes (node_of_name n)) same) ∙ h)
        ∙ or_left (giving.name == name) false (eq-eqb giving.name name same)

    by_part : (IsOne (told rows) giving → is_among (flat_map (row_names nodes) rows) giving.name ≡ true) → IsOne (told rows) giving ⊎ IsOne (record { name = name; depends = value.now ∷ tests_at rows under } ∷ []) giving
        → (is_among (row_names nodes (row.Gives name value under)) giving.name || is_among (flat_map (row_names nodes) rows) giving.name) ≡ true
    by_part go (inl earlier) = or_right (is_among (row_names nodes (row.Gives name value under)) giving.name) (is_among (flat_map (row_names nodes) rows) giving.name) (go earlier)
    by_part go (inr (inl same)) = or_left (is_among (row_names nodes (row.Gives name value under)) giving.name) (is_among (flat_map (row_names nodes) rows) giving.name) (here (ap (λ (g : Giving). g.name) same))
    by_part go (inr (inr none)) = absurd none

name_listed : (arrays : List Array) (nodes : List ℕ) (rows : List Row) (name : ℕ) → IsGivenData arrays (told rows) name → is_among nodes (node_of_name name) ≡ true → is_among (flat_map (row_names nodes) rows) name ≡ true
name_listed arrays nodes rows name (by_array giving e one dep written) h = giving_listed nodes rows giving one h
name_listed arrays nodes rows name (by_local giving e other one dep named local) h = giving_listed nodes rows giving one h

pub listed_are : (arrays : List Array) (body : List Stmt) (rows : List Row) (nodes names : List ℕ) → told (reverse rows) ≡ givings body
    → ((name : ℕ) → IsTrue (is_among nodes (node_of_name name)) ↔ IsDataLocal arrays body name) → ((name : ℕ) → is_among names name ≡ is_among (flat_map (row_names nodes) rows) name) → AreDataLocals arrays body names
listed_are arrays body rows nodes names tells reached same name = (
  (λ h. (reached name).0 (names_reached nodes rows name (sym (same name) ∙ h))),
  (λ local.
      same name ∙ any_reverse (λ other. name == other) (row_names nodes) rows
      ∙ name_listed arrays nodes (reverse rows) name (subst (λ gs. IsGivenData arrays gs name) (sym tells) local) ((reached name).1 local)),
)

-- names that are sorted, and then each kept once, are the same names
same_tests : (a b : Bool) → (a ≡ true → b ≡ true) → (b ≡ true → a ≡ true) → a ≡ b
same_tests true b into back = sym (into refl)
same_tests false true into back = back refl
same_tests false false into back = refl

once_same : (names : List ℕ) (name : ℕ) → is_among (dedup eqb names) name ≡ is_among names name
once_same names name =
    same_tests (is_among (dedup eqb names) name) (is_among names name)
    (λ h. list_any-from_Contains nat_eq_equiv name names (Contains-from_dedup eqb names name (Contains-from_any exact_unsigned_eq name (dedup eqb names) h)))
    (λ h. list_any-from_Contains nat_eq_equiv name (dedup eqb names) (Contains-dedup_nat names name (Contains-from_any exact_unsigned_eq name names h)))

pub kept_same : (names sorted kept : List ℕ) → IsPermutation names sorted → kept ≡ dedup eqb sorted → (name : ℕ) → is_among kept name ≡ is_among names name
kept_same names sorted kept moved once name =
    ap (λ ns. is_among ns name) once ∙ once_same sorted name ∙ sym (list_any-IsPermutation (λ other. name == other) names sorted moved)

-- a search in names that rise tells whether a name is among them
pub search_tells : (names : List ℕ) (name : ℕ) (r : Result ℕ ℕ) → IsStrictlyIncreasing names → IsBinarySearchResult (λ y. nat_cmp y name) names r → is_ok r ≡ is_among names name
search_tells names name r rising found = by_result r (searched names name r found up)
  where
    up : (i j : ℕ) → i ≤ j → j < length names → get_or names i 0 ≤ get_or names j 0
    up i j le within = elim (eqb_tells i j) [
      | inl same ↦ omega (arith, ap (λ k. get_or names k 0) same.1)
      | inr apart ↦
          let other : i ≢ j = apart.1 in
          let less : get_or names i 0 < get_or names j 0 = AllPairs-from_increasing names rising i j 0 (omega arith) within in
          omega arith
    ]

    by_result : (r : Result ℕ ℕ) → MatchResult r (λ i. (i < length names) × (get_or names i 0 ≡ name)) (λ i. (i ≤ length names) × ((k : ℕ) → k < i → get_or names k 0 < name) × ((k : ℕ) → i ≤ k → k < length names → name < get_or names k 0))
        → is_ok r ≡ is_among names name
    by_result (Ok i) at = sym (list_any_at (λ other. name == other) names i 0 at.0 (eq-eqb name (get_or names i 0) (sym at.1)))
    by_result (Err i) around = sym (list_any_none (λ other. name == other) names (λ k d within. ap (λ n. name == n) (get_or_default names k d 0 within) ∙ ne_eqb name (get_or names k 0) (apart k within (leb_tells i k))))
      where
        apart : (k : ℕ) → k < length names → ((leb i k ≡ true) × (i ≤ k)) ⊎ ((leb i k ≡ false) × (k < i)) → name ≢ get_or names k 0
        apart k within (inl behind) = let more : name < get_or names k 0 = around.2 k behind.1 within in omega arith
        apart k within (inr before) = let less : get_or names k 0 < name = around.1 k before.1 in omega arith
