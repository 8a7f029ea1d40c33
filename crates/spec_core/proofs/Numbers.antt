-- The array and the place of a word, by its number.
use Rattle.std.proofs.Common.{◌≡◌, ℕ, zero, suc, ◌+◌, ◌-◌, ◌<◌, Bool, true, false, if◌then◌else◌, nat_lt, List, [], ◌∷◌, map, take, length, sum, slice_index_or, sym, ap, ◌∙◌, subst, arith}
use Rattle.std.proofs.lemmas.Bool.{lt-ltb, le-ltb}
use Rattle.std.proofs.lemmas.List.Sums.{sum_by-cons}
use Rattle.nest_syntax.specs.Arrays.{Array, sizes_of, word_number}
use Rattle.settle_law.specs.Reading.{is_fixed_word}
use Rattle.spec_setup.specs.Signs.{Signs, array_at, place_at, with_word_noted}

all_of : (size : ℕ) (sizes : List ℕ) → sum (size ∷ sizes) ≡ size + sum sizes
all_of size sizes = sum_by-cons (λ n. n) size sizes

-- the number of a word behind the first array
behind : (size : ℕ) (sizes : List ℕ) (array place : ℕ) → word_number (size ∷ sizes) (suc array) place ≡ size + word_number sizes array place
behind size sizes array place = let e : sum (size ∷ take array sizes) ≡ size + sum (take array sizes) = all_of size (take array sizes) in omega (arith, e)

pub record IsAt (sizes : List ℕ) (array place w : ℕ) : Type 0 where
  pub array_is : array_at sizes w ≡ array
  pub place_is : place_at sizes w ≡ place
  pub below : w < sum sizes

pub is_at : (sizes : List ℕ) (array place : ℕ) → array < length sizes → place < slice_index_or sizes array 0 → IsAt sizes array place (word_number sizes array place)
is_at [] array place lt inside = absurd (omega arith)
is_at (size ∷ sizes) zero place lt inside =
    let here : nat_lt place size ≡ true = lt-ltb place size inside in
    let all : sum (size ∷ sizes) ≡ size + sum sizes = all_of size sizes in
    let z : place ≡ 0 + place = omega arith in
    subst (IsAt (size ∷ sizes) 0 place) z (record {
      array_is = ap (λ b. if b then 0 else suc (array_at sizes (place - size))) here;
      place_is = ap (λ b. if b then place else place_at sizes (place - size)) here;
      below = omega (arith, all, inside);
    })
is_at (size ∷ sizes) (suc array) place lt inside =
    let rest = is_at sizes array place (omega arith) inside in
    let w : ℕ = word_number sizes array place in
    let e : word_number (size ∷ sizes) (suc array) place ≡ size + w = behind size sizes array place in
    let all : sum (size ∷ sizes) ≡ size + sum sizes = all_of size sizes in
    let past : nat_lt (size + w) size ≡ false = le-ltb (size + w) size (omega arith) in
    let back : size + w - size ≡ w = omega arith in
    let low : w < sum sizes = rest.below in
    subst (IsAt (size ∷ sizes) (suc array) place) (sym e) (record {
      array_is = ap (λ b. if b then 0 else suc (array_at sizes (size + w - size))) past ∙ ap (λ n. suc (array_at sizes n)) back ∙ ap suc rest.array_is;
      place_is = ap (λ b. if b then size + w else place_at sizes (size + w - size)) past ∙ ap (place_at sizes) back ∙ rest.place_is;
      below = omega (arith, all, low);
    })

-- what a word's number notes is what its array and place note
pub noted_there : {S : Type 0} (sizes : List ℕ) (s : Signs S) (write : Bool) (array place : ℕ) (sign : S) → array < length sizes → place < slice_index_or sizes array 0
    → with_word_noted sizes s write (word_number sizes array place) sign ≡ s.with_note sign array place write
noted_there sizes s write array place sign lt inside =
    let w : ℕ = word_number sizes array place in
    let at = is_at sizes array place lt inside in
    ap (λ b. if b then s.with_note sign (array_at sizes w) (place_at sizes w) write else sign) (lt-ltb w (sum sizes) at.below)
    ∙ ap (λ a. s.with_note sign a (place_at sizes w) write) at.array_is ∙ ap (λ p. s.with_note sign array p write) at.place_is

-- a word is one of a `const` array where its array is
pub fixed_there : (arrays : List Array) (array place : ℕ) → array < length (sizes_of arrays) → place < slice_index_or (sizes_of arrays) array 0
    → is_fixed_word arrays (word_number (sizes_of arrays) array place) ≡ slice_index_or (map (λ (a : Array). a.fixed) arrays) array false
fixed_there [] array place lt inside = absurd (omega arith)
fixed_there (a ∷ arrays) zero place lt inside =
    let z : 0 + place ≡ place = omega arith in
    ap (is_fixed_word (a ∷ arrays)) z ∙ ap (λ b. if b then a.fixed else is_fixed_word arrays (place - a.size)) (lt-ltb place a.size inside)
fixed_there (a ∷ arrays) (suc array) place lt inside =
    let w : ℕ = word_number (sizes_of arrays) array place in
    let e : word_number (a.size ∷ sizes_of arrays) (suc array) place ≡ a.size + w = behind a.size (sizes_of arrays) array place in
    let past : nat_lt (a.size + w) a.size ≡ false = le-ltb (a.size + w) a.size (omega arith) in
    let back : a.size + w - a.size ≡ w = omega arith in
    ap (is_fixed_word (a ∷ arrays)) e ∙ ap (λ b. if b then a.fixed else is_fixed_word arrays (a.size + w - a.size)) past ∙ ap (is_fixed_word arrays) back ∙ fixed_there arrays array place (omega arith) inside
