-- Bits of a row, and numbers in rows.
use Rattle.std.proofs.Common.{◌≡◌, ◌≢◌, ℕ, ◌+◌, ◌*◌, ◌/◌, ◌%◌, ◌^◌, ◌<◌, ◌≤◌, Bool, true, false, Option, Some, None, List, length, get_or, ◌-◌, ◌==◌, ⊎_elim, refl, ap, sym, ◌∙◌, arith}
use Rattle.std.specs.Int.{bit_at, w64, trailing_zeros}
use Rattle.std.proofs.lemmas.Bool.{eq-eqb, ne_eqb, eqb-true, true≢false, cases_lt}
use Rattle.std.proofs.lemmas.List.{get_or_past}
use Rattle.std.proofs.lemmas.Nat.Bits.{bit_at-zero, bit_at-trailing_zeros, bit_at_above, bit_at_set_same, bit_at_set_other}
use Rattle.std.specs.Int.RustNames.{bit_or}
use lib.Pow.{shr-shr}
use Rattle.addr_slice.specs.Claims.{IsNext}
use Rattle.addr_slice.specs.WordSet.{has_bit, in_rows}

pub has_bit-from_one : (row bit : ℕ) → bit_at row bit ≡ 1 → has_bit row bit ≡ true
has_bit-from_one row bit h = eq-eqb _ _ h

pub has_bit-from_zero : (row bit : ℕ) → bit_at row bit ≡ 0 → has_bit row bit ≡ false
has_bit-from_zero row bit h = ne_eqb _ _ (λ e. absurd (omega (arith, h, e)))

pub one-from_has_bit : (row bit : ℕ) → has_bit row bit ≡ true → bit_at row bit ≡ 1
one-from_has_bit row bit h = eqb-true _ _ h

pub has_bit-zero : (bit : ℕ) → has_bit 0 bit ≡ false
has_bit-zero bit = has_bit-from_zero 0 bit (bit_at-zero bit)

-- a row without a bit that is set is 0, so one with such a bit isn't
pub some-from_has_bit : (row bit : ℕ) → has_bit row bit ≡ true → 0 < row
some-from_has_bit row bit h =
    let no : row ≡ 0 → ⊥ = λ e. true≢false (sym h ∙ ap (λ r. has_bit r bit) e ∙ has_bit-zero bit) in
    omega arith

-- the place of the lowest bit
pub least-trailing_zeros : (row : ℕ) → 0 < row → row < 2 ^ 64 → IsNext (has_bit row) 0 (Some (trailing_zeros w64 row))
least-trailing_zeros row some fits =
    let t = bit_at-trailing_zeros w64 row some fits in
    (omega arith, has_bit-from_one row _ t.1, λ k _ below. has_bit-from_zero row k (t.2 k below))

-- a row with one more bit
pub has_bit-with_same : (row bit : ℕ) → bit < 64 → has_bit (bit_or row (1 * 2 ^ bit % 2 ^ 64)) bit ≡ true
has_bit-with_same row bit h = has_bit-from_one _ bit (bit_at_set_same w64 row bit h)

pub has_bit-with_other : (row bit k : ℕ) → bit < 64 → k ≢ bit → has_bit (bit_or row (1 * 2 ^ bit % 2 ^ 64)) k ≡ has_bit row k
has_bit-with_other row bit k h apart = ap (λ n. n == 1) (bit_at_set_other w64 row bit h k apart)

-- the bits of a row that is shifted down
bit_at-shifted : (row from k : ℕ) → bit_at (row / 2 ^ from) k ≡ bit_at row (from + k)
bit_at-shifted row from k = ap (λ n. n % 2) (shr-shr row from k)

has_bit-shifted : (row from k : ℕ) → from ≤ k → has_bit row k ≡ has_bit (row / 2 ^ from) (k - from)
has_bit-shifted row from k h =
    let e : from + (k - from) ≡ k = omega arith in
    ap (λ n. n == 1) (sym (bit_at-shifted row from (k - from) ∙ ap (bit_at row) e))

pub next_bit-none : (row from : ℕ) → row / 2 ^ from ≡ 0 → IsNext (has_bit row) from None
next_bit-none row from none k h = has_bit-shifted row from k h ∙ ap (λ r. has_bit r (k - from)) none ∙ has_bit-zero (k - from)

pub next_bit-some : (row from bit : ℕ) → row < 2 ^ 64 → IsNext (has_bit (row / 2 ^ from)) 0 (Some bit) → (from + bit < 64) × IsNext (has_bit row) from (Some (from + bit))
next_bit-some row from bit fits next =
    let e : (from + bit) - from ≡ bit = omega arith in
    let set : has_bit row (from + bit) ≡ true = has_bit-shifted row from (from + bit) (omega arith) ∙ ap (has_bit (row / 2 ^ from)) e ∙ next.1 in
    let one : bit_at row (from + bit) ≡ 1 = one-from_has_bit row (from + bit) set in
    let not_above : 64 ≤ from + bit → ⊥ = λ above. absurd (omega (arith, one, bit_at_above row 64 (from + bit) fits above)) in
    (omega arith, (omega arith, set, λ k not_below below. has_bit-shifted row from k not_below ∙ next.2 (k - from) (omega arith) (omega arith)))

-- a number of the row of another
pub in_rows-of : (rows : List ℕ) (row bit number : ℕ) → number ≡ row * 64 + bit → bit < 64 → in_rows rows number ≡ has_bit (get_or rows row 0) bit
in_rows-of rows row bit number e h =
    let rows_agree : number / 64 ≡ row = omega arith in
    let bits_agree : number % 64 ≡ bit = omega arith in
    ap (λ r. has_bit (get_or rows r 0) (number % 64)) rows_agree ∙ ap (has_bit (get_or rows row 0)) bits_agree

-- behind the last row there is no number
pub next_in_rows-past : (rows : List ℕ) (at : ℕ) → length rows ≤ at / 64 → IsNext (in_rows rows) at None
next_in_rows-past rows at past k h =
    let behind : length rows ≤ k / 64 = omega arith in
    ap (λ r. has_bit r (k % 64)) (get_or_past rows (k / 64) 0 behind) ∙ has_bit-zero (k % 64)

-- the first number of a row is the next one
pub next_in_rows-here : (rows : List ℕ) (at bit : ℕ) → bit < 64 → IsNext (has_bit (get_or rows (at / 64) 0)) (at % 64) (Some bit) → IsNext (in_rows rows) at (Some (at / 64 * 64 + bit))
next_in_rows-here rows at bit h next = (
  omega (arith, next.0),
  in_rows-of rows (at / 64) bit _ refl h ∙ next.1,
  λ k not_below below.
      in_rows-of rows (at / 64) (k - at / 64 * 64) k (omega arith) (omega arith) ∙ next.2 (k - at / 64 * 64) (omega arith) (omega arith),
)

-- a row has no number from one of its numbers on
pub next_in_rows-skipped : (rows : List ℕ) (at : ℕ) → IsNext (has_bit (get_or rows (at / 64) 0)) (at % 64) None → (k : ℕ) → at ≤ k → k < (at / 64 + 1) * 64 → in_rows rows k ≡ false
next_in_rows-skipped rows at none k not_below below =
    in_rows-of rows (at / 64) (k - at / 64 * 64) k (omega arith) (omega arith) ∙ none (k - at / 64 * 64) (omega arith)

-- what is passed over on the way to the next number
pub IsNext-from_later : (passes : ℕ → Bool) (from at : ℕ) (next : Option ℕ) → from ≤ at → ((k : ℕ) → from ≤ k → k < at → passes k ≡ false) → IsNext passes at next → IsNext passes from next
IsNext-from_later passes from at None before passed none =
    λ k not_below. ⊎_elim (λ below. passed k not_below below) (λ behind. none k behind) (cases_lt k at)
IsNext-from_later passes from at (Some n) before passed next =
    (omega (arith, next.0), next.1, λ k not_below below. ⊎_elim (λ earlier. passed k not_below earlier) (λ behind. next.2 k behind below) (cases_lt k at))

-- numbers in rows of which one row has changed
pub in_rows-other : (rows rows' : List ℕ) (k : ℕ) → get_or rows' (k / 64) 0 ≡ get_or rows (k / 64) 0 → in_rows rows' k ≡ in_rows rows k
in_rows-other rows rows' k e = ap (λ r. has_bit r (k % 64)) e
