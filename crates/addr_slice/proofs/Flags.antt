-- Flags for each word of a program hold what the claims of the same steps hold.
use Rattle.std.proofs.Common.{◌≡◌, ℕ, zero, suc, ◌+◌, ◌<◌, Bool, true, false, Option, ℤ, List, [], ◌∷◌, take, sum, slice_index_or, ◌∙◌, arith}
use Rattle.std.proofs.lemmas.List.Sums.{sum_by-cons}
use Rattle.std.proofs.lemmas.List.FromFn.{get_or-map-range_with_len}
use Rattle.nest_syntax.specs.Arrays.{Array, sizes_of, word_number}
use Rattle.nest_syntax.specs.Inside.{StaysInside}
use Rattle.nest_syntax.specs.Turn.{Turn, Finished, Trapped, Load, Store, Op, Go}
use Rattle.settle_law.specs.Reading.{WithinTurn}
use Rattle.claim_walk.specs.Walk.{Step, is_claimed, claims_met}
use Rattle.addr_slice.specs.Claims.{is_set, by_word}
use Rattle.addr_slice.specs.Slice.{flags_met, claims_of_steps}

pub flag_at : (sizes : List ℕ) (steps : List Step) (write : Bool) (w : ℕ) → w < sum sizes → is_set (flags_met sizes steps write) w ≡ is_claimed sizes steps write w
flag_at sizes steps write w there = get_or-map-range_with_len (is_claimed sizes steps write) 0 (sum sizes) w w false there (omega arith)

array_ends : (sizes : List ℕ) (array place : ℕ) → place < slice_index_or sizes array 0 → word_number sizes array place < sum sizes
array_ends [] zero place inside = absurd (omega (arith, inside))
array_ends [] (suc array) place inside = absurd (omega (arith, inside))
array_ends (size ∷ sizes) zero place inside = let all : sum (size ∷ sizes) ≡ size + sum sizes = sum_by-cons (λ n. n) size sizes in omega (arith, all, inside)
array_ends (size ∷ sizes) (suc array) place inside =
    let rest : word_number sizes array place < sum sizes = array_ends sizes array place inside in
    let all : sum (size ∷ sizes) ≡ size + sum sizes = sum_by-cons (λ n. n) size sizes in
    let some : sum (size ∷ take array sizes) ≡ size + sum (take array sizes) = sum_by-cons (λ n. n) size (take array sizes) in
    omega (arith, rest, all, some)

-- They hold each turn that stays inside its arrays and that the claims of the steps hold.
module _ (arrays : List Array) (fixed : ℕ → Option ℤ) (steps : List Step) where
  abbrev sizes : List ℕ
  sizes = sizes_of arrays

  flag_set : (write : Bool) (array place : ℕ) → place < slice_index_or sizes array 0 → is_claimed sizes steps write (word_number sizes array place) ≡ true → is_set (flags_met sizes steps write) (word_number sizes array place) ≡ true
  flag_set write array place inside is = flag_at sizes steps write (word_number sizes array place) (array_ends sizes array place inside) ∙ is

  pub held_by_flags : (t : Turn) → StaysInside arrays t → WithinTurn sizes fixed (claims_met sizes steps) t → WithinTurn sizes fixed (by_word (claims_of_steps sizes steps)) t
  held_by_flags Finished inside held = tt
  held_by_flags (Trapped cause line) inside held = tt
  held_by_flags (Load array place go) inside held = (λ unfixed. flag_set false array place inside.0 (held.0 unfixed), λ value can. held_by_flags (go value) (inside.1 value) (held.1 value can))
  held_by_flags (Store array place value rest) inside held = (flag_set true array place inside.0 held.0, held_by_flags rest inside.2 held.1)
  held_by_flags (Op rest) inside held = held_by_flags rest inside held
  held_by_flags (Go rest) inside held = held_by_flags rest inside held
