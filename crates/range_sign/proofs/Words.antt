-- Words that two sets of flags have in common, and those of an array.
use Rattle.std.proofs.Common.{◌≡◌, ℕ, ◌+◌, ◌-◌, ◌<◌, ◌≤◌, Bool, true, false, ◌&&◌, ◌||◌, List, length, sum, take, get_or, ⊎_elim, refl, ap, subst, sym, ◌∙◌, arith}
use Rattle.std.proofs.lemmas.Bool.{cases_lt, lt-ltb}
use Rattle.std.proofs.lemmas.List.Sums.{sum_by_more_le}
use Rattle.nest_syntax.specs.Arrays.{word_number}
use Rattle.addr_slice.specs.Claims.{is_set}
use Rattle.range_sign.specs.Overlap.{any_below, writes_into}
use Rattle.range_sign.specs.Exact.{Exact, flags_of, holds}
use Rattle.range_sign.proofs.Belows.{any-from, any-none, any-alike, any-either}

-- whether a word is in the first set and in one of the two others
abbrev pub is_common : List Bool → List Bool → List Bool → ℕ → Bool
is_common first second third word = is_set first word && (is_set second word || is_set third word)

abbrev pub NoneBetween : List Bool → List Bool → List Bool → ℕ → ℕ → Type 0
NoneBetween first second third start end = (word : ℕ) → start ≤ word → word < end → is_common first second third word ≡ false

and-false : (b : Bool) → (b && false) ≡ false
and-false true = refl
and-false false = refl

module _ (first second third : List Bool) (start : ℕ) where
  not-first : (word : ℕ) → is_set first word ≡ false → is_common first second third word ≡ false
  not-first word is = ap (λ b. b && (is_set second word || is_set third word)) is

  pub not-others : (word : ℕ) → (is_set second word || is_set third word) ≡ false → is_common first second third word ≡ false
  not-others word is = ap (λ b. is_set first word && b) is ∙ and-false (is_set first word)

  -- a word of the first set that isn't in the others
  pub none-more : (from word : ℕ) → NoneBetween first second third start from → ((k : ℕ) → from ≤ k → k < word → is_set first k ≡ false) → is_common first second third word ≡ false → NoneBetween first second third start (word + 1)
  none-more from word none skipped here k low high = ⊎_elim
      (λ (less : k < from). none k low less)
      (λ (most : from ≤ k). ⊎_elim
      (λ (between : k < word). not-first k (skipped k most between))
      (λ (behind : word ≤ k). let e : k ≡ word = omega arith in ap (is_common first second third) e ∙ here)
      (cases_lt k word))
      (cases_lt k from)

  pub none-left : (from count : ℕ) → NoneBetween first second third start from → ((k : ℕ) → from ≤ k → k < start + count → is_set first k ≡ false) → any_below (λ place. is_common first second third (start + place)) count ≡ false
  none-left from count none skipped = any-none (λ place. is_common first second third (start + place)) count (λ place h. ⊎_elim
      (λ (less : start + place < from). none (start + place) (omega arith) less)
      (λ (most : from ≤ start + place). not-first (start + place) (skipped (start + place) most (omega (arith, h))))
      (cases_lt (start + place) from))

  pub some-here : (count word : ℕ) → start ≤ word → word < start + count → is_common first second third word ≡ true → any_below (λ place. is_common first second third (start + place)) count ≡ true
  some-here count word low high is =
      let e : start + (word - start) ≡ word = omega arith in
      any-from (λ place. is_common first second third (start + place)) count (word - start) (omega arith) (ap (is_common first second third) e ∙ is)

-- the words of an array are within those of all
pub array-within : (sizes : List ℕ) (array : ℕ) → array < length sizes → sum (take array sizes) + get_or sizes array 0 ≤ sum sizes
array-within sizes array there = sum_by_more_le (λ x. x) sizes array 0 there

held-is : (exact : Exact) (array start place : ℕ) (write : Bool) → start ≡ sum (take array exact.sizes) → place < get_or exact.sizes array 0 → is_set (flags_of exact write) (start + place) ≡ holds exact array place write
held-is exact array start place write e h =
    ap (λ s. is_set (flags_of exact write) (s + place)) e
    ∙ sym (ap (λ b. b && is_set (flags_of exact write) (word_number exact.sizes array place)) (lt-ltb place (get_or exact.sizes array 0) h))

-- what is looked for in an array
pub common-is : (one other : Exact) (array start : ℕ) → start ≡ sum (take array one.sizes) → one.sizes ≡ other.sizes
    → any_below (λ place. is_common one.writes other.reads other.writes (start + place)) (get_or one.sizes array 0) ≡ any_below (writes_into (holds one) (holds other) array) (get_or one.sizes array 0)
common-is one other array start e sizes = any-alike (λ place. is_common one.writes other.reads other.writes (start + place)) (writes_into (holds one) (holds other) array) (get_or one.sizes array 0) (λ place h.
    let there : start ≡ sum (take array other.sizes) = e ∙ ap (λ (ss : List ℕ). sum (take array ss)) sizes in
    let inside : place < get_or other.sizes array 0 = subst (λ (ss : List ℕ). place < get_or ss array 0) sizes h in
    ap (λ b. b && (is_set other.reads (start + place) || is_set other.writes (start + place))) (held-is one array start place true e h)
    ∙ ap (λ b. holds one array place true && (b || is_set other.writes (start + place))) (held-is other array start place false there inside)
    ∙ ap (λ b. holds one array place true && (holds other array place false || b)) (held-is other array start place true there inside))

-- the same of values that are known to be these
pub common-seen : (one other now later : Exact) (array start : ℕ) → one ≡ now → other ≡ later → start ≡ sum (take array one.sizes) → now.sizes ≡ later.sizes
    → any_below (λ place. is_common one.writes other.reads other.writes (start + place)) (get_or one.sizes array 0) ≡ any_below (writes_into (holds now) (holds later) array) (get_or now.sizes array 0)
common-seen one other now later array start e f at sizes =
    common-is one other array start at (ap (λ (x : Exact). x.sizes) e ∙ sizes ∙ sym (ap (λ (x : Exact). x.sizes) f))
    ∙ ap (λ (x : Exact). any_below (writes_into (holds x) (holds other) array) (get_or x.sizes array 0)) e
    ∙ ap (λ (x : Exact). any_below (writes_into (holds now) (holds x) array) (get_or now.sizes array 0)) f

-- one way or the other
pub conflicts-first : (into back : ℕ → Bool) (n : ℕ) (r : Bool) → r ≡ any_below into n → r ≡ true → r ≡ any_below (λ k. into k || back k) n
conflicts-first into back n r e is = is ∙ sym (ap (λ b. b || any_below back n) (sym e ∙ is)) ∙ any-either into back n

pub conflicts-second : (into back : ℕ → Bool) (n m : ℕ) (r s : Bool) → r ≡ any_below into n → r ≡ false → m ≡ n → s ≡ any_below back m → s ≡ any_below (λ k. into k || back k) n
conflicts-second into back n m r s e is same f = f ∙ ap (any_below back) same ∙ sym (ap (λ b. b || any_below back n) (sym e ∙ is)) ∙ any-either into back n
