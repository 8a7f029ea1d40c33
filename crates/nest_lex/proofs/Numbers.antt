-- Digits and the number that they say.
use Rattle.std.proofs.Common.{◌≡◌, ℕ, ◌+◌, ◌-◌, ◌*◌, ◌<◌, ◌≤◌, true, false, not, ◌==◌, ◌&&◌, nat_le, Option, Some, None, MatchOption, List, [], ◌∷◌, ◌++◌, length, get_or, take, drop, refl, sym, ap, subst, ◌∙◌, arith}
use Rattle.std.specs.List.{list_all, fold}
use Rattle.std.proofs.lemmas.List.{take-append-drop}
use Rattle.std.proofs.lemmas.List.Folds.{list_all_at}
use Rattle.std.proofs.lemmas.List.Sums.{fold-append, fold_more}
use Rattle.std.proofs.lemmas.Bool.{false≢true, cond-true, cond-false, and_left, and_right, and_parts, and_from, cond_both, eqb-false, not-true, leb-true, ne_eqb, lt-leb, le-leb}
use Rattle.nest_lex.specs.Bytes.{is_digit}
use Rattle.nest_lex.specs.Spelling.{decimal, are_digits, number_within, IsNumber}

-- a byte that is no digit
pub no_digit : (most : ℕ) (bytes : List ℕ) (i : ℕ) → i < length bytes → is_digit (get_or bytes i 0) ≡ false → number_within most bytes ≡ None
no_digit most bytes i within bad =
    cond-false (are_digits bytes && _) _ _ (and_left _ _ (and_right (not _) _ (list_all_at is_digit bytes i 0 within bad)))

-- more digits never say less
grows : (xs : List ℕ) (v : ℕ) → v ≤ fold (λ value digit. 10 * value + (digit - 48)) v xs
grows [] v = omega arith
grows (x ∷ xs) v = omega (arith, grows xs (10 * v + (x - 48)))

decimal-front : (word : List ℕ) (i : ℕ) → decimal (take i word) ≤ decimal word
decimal-front word i =
    let e : decimal (take i word ++ drop i word) ≡ decimal word = ap decimal (take-append-drop i word) in
    let f = fold-append (λ (value : ℕ) (digit : ℕ). 10 * value + (digit - 48)) 0 (take i word) (drop i word) in
    let g = grows (drop i word) (decimal (take i word)) in
    omega (arith, e, f, g)

-- a front that says too much
pub too_large : (most : ℕ) (bytes : List ℕ) (i value : ℕ) → i < length bytes → decimal (take i bytes) ≡ value → most < 10 * value + (get_or bytes i 0 - 48) → number_within most bytes ≡ None
too_large most bytes i value within said large =
    let e = fold_more (λ (w : ℕ) (digit : ℕ). 10 * w + (digit - 48)) 0 bytes i 0 within in
    let more : most < decimal bytes = omega (arith, e, said, decimal-front bytes (i + 1)) in
    cond-false (are_digits bytes && _) _ _ (and_right (are_digits bytes) _ (lt-leb _ _ more))

-- digits that say a number
pub is_within : (most : ℕ) (bytes : List ℕ) (value : ℕ) → 0 < length bytes → list_all is_digit bytes ≡ true → decimal bytes ≡ value → value ≤ most → number_within most bytes ≡ Some value
is_within most bytes value some digits said small =
    let word : are_digits bytes ≡ true = and_from _ _ (ap not (ne_eqb (length bytes) 0 (omega arith))) digits in
    cond-true (are_digits bytes && _) _ _ (and_from _ _ word (le-leb _ _ (omega arith))) ∙ ap Some said

-- a number is a word whose digits say so much
abbrev Reads : List ℕ → Option ℕ → Type 0
Reads word result = MatchOption result ((n : ℕ) → IsNumber word n → ⊥) (λ n. IsNumber word n)

digits_tell : (word : List ℕ) → (get_or word 0 0 ≡ 48 → length word ≤ 1) → (are_digits word && nat_le (decimal word) 9223372036854775807) ≡ true → IsNumber word (decimal word)
digits_tell word lone test =
    let parts = and_parts (are_digits word) _ test in
    let digits = and_parts (not (length word == 0)) _ parts.0 in
    let some : 1 ≤ length word = omega (arith, eqb-false (length word) 0 (not-true _ digits.0)) in
    record { some = some; digits = digits.1; lone_zero = λ zero. omega (arith, some, lone zero); says = refl; small = leb-true _ _ parts.1 }

number_tells : (word : List ℕ) (n : ℕ) → IsNumber word n → (are_digits word && nat_le (decimal word) 9223372036854775807) ≡ true
number_tells word n number =
    let some : not (length word == 0) ≡ true = ap not (ne_eqb (length word) 0 (omega (arith, number.some))) in
    and_from _ _ (and_from _ _ some number.digits) (le-leb _ _ (omega (arith, number.says, number.small)))

-- without a zero in front, what is read within the bound is the number
pub is_number : (word : List ℕ) (result : Option ℕ) → (get_or word 0 0 ≡ 48 → length word ≤ 1) → result ≡ number_within 9223372036854775807 word → MatchOption result ((n : ℕ) → IsNumber word n → ⊥) (λ n. IsNumber word n)
is_number word result lone said =
    subst (Reads word) (sym said) (cond_both (are_digits word && nat_le (decimal word) 9223372036854775807) (Some (decimal word)) None (Reads word)
    (λ test. digits_tell word lone test)
    (λ test n number. false≢true (sym test ∙ number_tells word n number)))
