-- A place inside an array.
use Rattle.std.proofs.Common.{◌≡◌, ℕ, ◌<◌, ◌≤◌, ◌^◌, ℤ, pos, nat_lt, Some, List, length, sum, get_or, ap, arith, ⊎_elim}
use Rattle.std.specs.Option.{option_map, option_map_or}
use Rattle.std.proofs.Math.ListN.{get_or-eq_default}
use Rattle.std.proofs.lemmas.Bool.{cases_lt, lt-ltb, cond-true}
use Rattle.std.proofs.lemmas.List.Sums.{get_or-le-sum_by}
use Rattle.nest_syntax.specs.Arrays.{word_at, with_word, word_number, place_of}
use Rattle.word_store.specs.Memory.{Memory, IsSound, loaded, stored}

pub array_there : (sizes : List ℕ) (array place : ℕ) → place < get_or sizes array 0 → array < length sizes
array_there sizes array place inside = ⊎_elim (λ (less : array < length sizes). less) (λ (past : length sizes ≤ array). (let none : get_or sizes array 0 ≡ 0 = get_or-eq_default sizes 0 past in absurd (omega arith))) (cases_lt array (length sizes))

pub place_small : (m : Memory) (array place : ℕ) → IsSound m → place < get_or m.sizes array 0 → place < 2 ^ 63
place_small m array place sound inside =
    let there = array_there m.sizes array place inside in
    let below : get_or m.sizes array 0 ≤ sum m.sizes = get_or-le-sum_by (λ n. n) m.sizes array 0 there in
    omega (arith, sound.few)

module _ (m : Memory) (array place : ℕ) (inside : place < get_or m.sizes array 0) where
  there : place_of m.sizes array (pos place) ≡ Some place
  there = cond-true (nat_lt place (get_or m.sizes array 0)) _ _ (lt-ltb place (get_or m.sizes array 0) inside)

  pub loaded_is : loaded m array (pos place) ≡ Some (word_at m.words (word_number m.sizes array place))
  loaded_is = ap (λ o. option_map (word_at m.words) (option_map (word_number m.sizes array) o)) there

  pub stored_is : (value : ℤ) → stored m array (pos place) value ≡ record m { words = with_word m.words (word_number m.sizes array place) value }
  stored_is value = ap (λ o. option_map_or (λ n. let t : Memory = record m { words = with_word m.words n value } in t) (option_map (word_number m.sizes array) o) m) there
