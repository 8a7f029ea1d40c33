-- Words in a list of words: what a write changes, and which number a place of an array has.
use Rattle.std.proofs.Common.{◌≡◌, ◌≢◌, ℕ, zero, suc, ◌+◌, ◌<◌, ◌≤◌, ℤ, pos, negsuc, Some, None, nat_lt, if◌then◌else◌, FitsSigned, w64, List, [], ◌∷◌, length, take, sum, get_or, refl, ap, arith}
use Rattle.std.proofs.lemmas.List.{get_or-set_same, get_or-set_other, get_or-take, length-set, set-set, take-take, length-take-le, ext_get_or}
use Rattle.std.proofs.lemmas.Bool.Decides.{nat_tests}
use Rattle.std.proofs.lemmas.List.Sums.{sum_by_more_le}
use Rattle.nest_syntax.specs.Arrays.{place_in, word_number, word_at, with_word}

-- a word that was written is read
pub word_at-with_word_same : (words : List ℤ) (n : ℕ) (value : ℤ) → n < length words → word_at (with_word words n value) n ≡ value
word_at-with_word_same words n value h = get_or-set_same words n value (pos 0) h

-- a write leaves every other word
pub word_at-with_word_other : (words : List ℤ) (m n : ℕ) (value : ℤ) → m ≢ n → word_at (with_word words n value) m ≡ word_at words m
word_at-with_word_other words m n value apart = get_or-set_other words n m value (pos 0) apart

-- a write adds no word
pub length-with_word : (words : List ℤ) (n : ℕ) (value : ℤ) → length (with_word words n value) ≡ length words
length-with_word words n value = length-set words n value

-- of two writes of one word the later stands
pub with_word-with_word_same : (words : List ℤ) (n : ℕ) (first second : ℤ) → with_word (with_word words n first) n second ≡ with_word words n second
with_word-with_word_same words n first second = set-set words n first second

-- writes of two words may change places
pub with_word-with_word_other : (words : List ℤ) (m n : ℕ) (first second : ℤ) → m ≢ n → with_word (with_word words m first) n second ≡ with_word (with_word words n second) m first
with_word-with_word_other [] m n first second apart = refl
with_word-with_word_other (word ∷ words) zero zero first second apart = absurd (apart refl)
with_word-with_word_other (word ∷ words) zero (suc n) first second apart = refl
with_word-with_word_other (word ∷ words) (suc m) zero first second apart = refl
with_word-with_word_other (word ∷ words) (suc m) (suc n) first second apart =
    ap (λ rest. word ∷ rest) (with_word-with_word_other words m n first second (λ e. apart (ap suc e)))

-- words that are the same at every number are the same
pub same_words : (xs ys : List ℤ) → length xs ≡ length ys → ((n : ℕ) → n < length xs → word_at xs n ≡ word_at ys n) → xs ≡ ys
same_words xs ys lengths words = ext_get_or (pos 0) xs ys lengths words

-- a place of an array has a word
pub word_number-lt : (sizes : List ℕ) (array place : ℕ) → array < length sizes → place < get_or sizes array 0 → word_number sizes array place < sum sizes
word_number-lt sizes array place there inside = omega (arith, sum_by_more_le (λ x. x) sizes array 0 there)

-- an earlier array's words stand before those of a later one
pub word_number-lt_later : (sizes : List ℕ) (array place later other : ℕ) → array < later → later < length sizes → place < get_or sizes array 0 → word_number sizes array place < word_number sizes later other
word_number-lt_later sizes array place later other before there inside =
    let within : array < length (take later sizes) = omega (arith, length-take-le later sizes (omega arith)) in
    let more : sum (take array (take later sizes)) + get_or (take later sizes) array 0 ≤ sum (take later sizes) = sum_by_more_le (λ x. x) (take later sizes) array 0 within in
    let start : sum (take array (take later sizes)) ≡ sum (take array sizes) = ap sum (take-take array later sizes (omega arith)) in
    omega (arith, get_or-take later sizes array 0 before)

-- a number is of one place of one array
pub word_number-same : (sizes : List ℕ) (array place array' place' : ℕ) → array < length sizes → array' < length sizes → place < get_or sizes array 0 → place' < get_or sizes array' 0
    → word_number sizes array place ≡ word_number sizes array' place' → (array ≡ array') × (place ≡ place')
word_number-same sizes array place array' place' there there' inside inside' e =
    let not_before : array < array' → ⊥ = λ before. omega (arith, word_number-lt_later sizes array place array' place' before there' inside) in
    let not_behind : array' < array → ⊥ = λ before. omega (arith, word_number-lt_later sizes array' place' array place before there inside') in
    let arrays : array ≡ array' = omega arith in
    let starts : sum (take array sizes) ≡ sum (take array' sizes) = ap (λ n. sum (take n sizes)) arrays in
    (arrays, omega arith)

place_in_tested : (size at place : ℕ) → (if nat_lt at size then Some at else None) ≡ Some place → (place < size) × (pos at ≡ pos place)
place_in_tested size at place e = grind (arith, nat_tests)

-- a place of an array is below its size, and is the subscript
pub place_in-inside : (size : ℕ) (at : ℤ) (place : ℕ) → place_in size at ≡ Some place → (place < size) × (at ≡ pos place)
place_in-inside size (pos at) place e = place_in_tested size at place e
place_in-inside size (negsuc below) place e = cc

-- words stay words where a word is written
pub words-with_word : (words : List ℤ) (n m : ℕ) (value : ℤ) → ((k : ℕ) → FitsSigned w64 (word_at words k)) → FitsSigned w64 value → FitsSigned w64 (word_at (with_word words n value) m)
words-with_word [] n m value each fits = each m
words-with_word (word ∷ words) zero zero value each fits = fits
words-with_word (word ∷ words) zero (suc m) value each fits = each (suc m)
words-with_word (word ∷ words) (suc n) zero value each fits = each zero
words-with_word (word ∷ words) (suc n) (suc m) value each fits = words-with_word words n m value (λ k. each (suc k)) fits
