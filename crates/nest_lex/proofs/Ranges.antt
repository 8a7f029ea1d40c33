-- Bytes of a part of a text.
use Rattle.std.proofs.Common.{◌≡◌, ℕ, suc, ◌+◌, ◌-◌, ◌<◌, ◌≤◌, Bool, true, false, ◌&&◌, List, [], ◌∷◌, length, get_or, refl, sym, ap, ◌∙◌, arith, slice_range}
use Rattle.std.specs.List.{list_all}
use Rattle.std.proofs.lemmas.List.Edits.{get_or-between, length-between}
use Rattle.std.proofs.lemmas.List.Folds.{list_all_at}
use Rattle.std.proofs.lemmas.Bool.{false≢true}
use Rattle.std.proofs.lemmas.Bool.Decides.{nat_tests}
use Rattle.nest_lex.specs.Bytes.{is_letter, is_digit, is_word_byte, is_blank}

pub length-range : (text : List ℕ) (start next : ℕ) → next ≤ length text → length (slice_range text start next) ≡ next - start
length-range text start next within = length-between text start next within

-- what a test says of all bytes, it says of each
pub all_at : (p : ℕ → Bool) (xs : List ℕ) (k : ℕ) → k < length xs → list_all p xs ≡ true → p (get_or xs k 0) ≡ true
all_at p xs k within all = by (p (get_or xs k 0)) refl
  where
    by : (b : Bool) → p (get_or xs k 0) ≡ b → b ≡ true
    by true e = refl
    by false e = absurd (false≢true (sym (list_all_at p xs k 0 within e) ∙ all))

-- the byte of a part that stands at a place of the text
pub at_place : (text : List ℕ) (start next place : ℕ) → start ≤ place → place < next → get_or (slice_range text start next) (place - start) 0 ≡ get_or text place 0
at_place text start next place from to =
    let e : start + (place - start) ≡ place = omega arith in
    get_or-between text start next (place - start) 0 (omega arith) ∙ ap (λ k. get_or text k 0) e

pub all_at_place : (p : ℕ → Bool) (text : List ℕ) (start next place : ℕ) → start ≤ place → place < next → next ≤ length text
    → list_all p (slice_range text start next) ≡ true → p (get_or text place 0) ≡ true
all_at_place p text start next place from to within all =
    sym (ap p (at_place text start next place from to)) ∙ all_at p (slice_range text start next) (place - start) (omega (arith, length-range text start next within)) all

-- the first byte of a part
pub first_byte : (text : List ℕ) (start next : ℕ) → start < next → get_or (slice_range text start next) 0 0 ≡ get_or text start 0
first_byte text start next some = get_or-between text start next 0 0 (omega arith) ∙ ap (λ k. get_or text k 0) (omega arith)

pub word_from_digit : (b : ℕ) → is_digit b ≡ true → is_word_byte b ≡ true
word_from_digit b digit = grind (arith, nat_tests)

pub word_from_letter : (b : ℕ) → is_letter b ≡ true → is_word_byte b ≡ true
word_from_letter b letter = grind (arith, nat_tests)

pub letter_no_digit : (b : ℕ) → is_letter b ≡ true → is_digit b ≡ false
letter_no_digit b letter = grind (arith, nat_tests)

pub letter_from_word : (b : ℕ) → is_word_byte b ≡ true → is_digit b ≡ false → is_letter b ≡ true
letter_from_word b word digit = grind (arith, nat_tests)

all_from : (p : ℕ → Bool) (xs : List ℕ) → ((k : ℕ) → k < length xs → p (get_or xs k 0) ≡ true) → list_all p xs ≡ true
all_from p [] each = refl
all_from p (x ∷ xs) each =
    let first : p x ≡ true = each 0 (omega arith) in
    ap (λ b. b && list_all p xs) first ∙ all_from p xs (λ k within. each (suc k) (omega arith))

pub all_from_places : (p : ℕ → Bool) (text : List ℕ) (start next : ℕ) → next ≤ length text
    → ((place : ℕ) → start ≤ place → place < next → p (get_or text place 0) ≡ true) → list_all p (slice_range text start next) ≡ true
all_from_places p text start next within each =
    all_from p (slice_range text start next) (λ k below.
    let inside : start + k < next = omega (arith, length-range text start next within) in
    ap p (get_or-between text start next k 0 inside) ∙ each (start + k) (omega arith) inside)

pub blank_no_word : (b : ℕ) → is_blank b ≡ true → is_word_byte b ≡ false
blank_no_word b blank = grind (arith, nat_tests)
