-- Where words have what is told of the opening words, their `const` words are the opening ones.
use Rattle.std.proofs.Common.{◌≡◌, ℕ, ◌<◌, ℤ, Bool, true, false, if◌then◌else◌, Option, Some, None, Ok, Err, List, get_or, refl, ap, ◌∙◌}
use Rattle.std.specs.Option.{option_map, option_and_then, option_map_or}
use Rattle.nest_syntax.specs.declared.operators.Cause.TheVariants as cause
use Rattle.nest_syntax.specs.Arrays.{Array, sizes_of, word_at, word_number, array_of, is_fixed, place_of}
use Rattle.nest_syntax.proofs.Places.{place_in-inside}
use Rattle.settle_law.specs.Cuts.{HoldsFixed}
use Rattle.settle_law.specs.Reading.{told, fixed_in}
use Rattle.settle_law.proofs.Turns.{fixed_as_array}
use Rattle.sched_cursor.specs.Laws.{FixedWordsAreConst}

fixed_true : (fixed : Bool) → (if fixed then false else true) ≡ false → fixed ≡ true
fixed_true true is = refl
fixed_true false is = cc

module _ (arrays : List Array) (opening words : List ℤ) (holds : HoldsFixed (fixed_in arrays opening) words) where
  abbrev number : ℕ → ℕ → ℕ
  number n place = word_number (sizes_of arrays) n place

  word_same : (n place : ℕ) → is_fixed arrays n ≡ true → place < get_or (sizes_of arrays) n 0 → word_at words (number n place) ≡ word_at opening (number n place)
  word_same n place fixed inside = holds (number n place) (word_at opening (number n place)) (ap (λ b. told b (word_at opening (number n place))) (fixed_as_array arrays n place inside ∙ fixed))

  place_same : (n : ℕ) (at : ℤ) → is_fixed arrays n ≡ true → (found : Option ℕ) → place_of (sizes_of arrays) n at ≡ found
      → option_map_or (λ (p : ℕ × ℕ). Ok (word_at words (number p.0 p.1))) (option_map (λ (place : ℕ). (n, place)) found) (Err cause.Index)
      ≡ option_map_or (λ (p : ℕ × ℕ). Ok (word_at opening (number p.0 p.1))) (option_map (λ (place : ℕ). (n, place)) found) (Err cause.Index)
  place_same n at fixed None is = refl
  place_same n at fixed (Some place) is = ap Ok (word_same n place fixed (place_in-inside (get_or (sizes_of arrays) n 0) at place is).0)

  array_same : (at : ℤ) (found : Option ℕ) → option_map_or (λ n. if is_fixed arrays n then false else true) found false ≡ false
      → option_map_or (λ (p : ℕ × ℕ). Ok (word_at words (number p.0 p.1))) (option_and_then (λ (n : ℕ). option_map (λ (place : ℕ). (n, place)) (place_of (sizes_of arrays) n at)) found) (Err cause.Index)
      ≡ option_map_or (λ (p : ℕ × ℕ). Ok (word_at opening (number p.0 p.1))) (option_and_then (λ (n : ℕ). option_map (λ (place : ℕ). (n, place)) (place_of (sizes_of arrays) n at)) found) (Err cause.Index)
  array_same at None is = refl
  array_same at (Some n) is = place_same n at (fixed_true (is_fixed arrays n) is) (place_of (sizes_of arrays) n at) refl

pub fixed_words_are_const : FixedWordsAreConst
fixed_words_are_const arrays opening words holds name at fixed = array_same arrays opening words holds at (array_of arrays name) fixed
