-- The flags of a set against its rows.
use Rattle.std.proofs.Common.{◌≡◌, ℕ, ◌+◌, ◌-◌, ◌*◌, ◌/◌, ◌%◌, ◌<◌, ◌≤◌, Bool, true, false, Option, Some, None, List, length, get_or, set, replicate, nat_lt, ⊎_elim, refl, ap, sym, ◌∙◌, arith}
use Rattle.std.proofs.lemmas.Bool.{lt-ltb, ltb-true, ltb-false, cases_lt, cases_eq, true≢false}
use Rattle.std.proofs.lemmas.List.{get_or_past, get_or-set_same, get_or-set_other, get_or-replicate, length-replicate, length-set, ext_get_or}
use Rattle.std.proofs.lemmas.List.FromFn.{length-map-range_with_len, get_or-map-range_with_len}
use Rattle.addr_slice.specs.Claims.{IsNext, is_set}
use Rattle.addr_slice.specs.WordSet.{has_bit, in_rows, flags_of, Puts, IsSummed}
use Rattle.addr_slice.proofs.Rows.{in_rows-of, has_bit-zero, next_in_rows-skipped}

-- the same answer for a test that says the same
pub IsNext-alike : (p q : ℕ → Bool) (from : ℕ) (next : Option ℕ) → ((k : ℕ) → p k ≡ q k) → IsNext q from next → IsNext p from next
IsNext-alike p q from None same next = λ k h. same k ∙ next k h
IsNext-alike p q from (Some n) same next = (next.0, same n ∙ next.1, λ k h below. same k ∙ next.2 k h below)

pub length-flags_of : (count : ℕ) (rows : List ℕ) → length (flags_of count rows) ≡ count
length-flags_of count rows = length-map-range_with_len (in_rows rows) 0 count

pub flag-inside : (count : ℕ) (rows : List ℕ) (k : ℕ) → k < count → is_set (flags_of count rows) k ≡ in_rows rows k
flag-inside count rows k h = get_or-map-range_with_len (in_rows rows) 0 count k k false h (omega arith)

-- a flag is set where the number is in the rows
pub flag_in_rows : (count : ℕ) (rows : List ℕ) → ((n : ℕ) → count ≤ n → in_rows rows n ≡ false) → (flags : List Bool) → flags_of count rows ≡ flags → (k : ℕ) → is_set flags k ≡ in_rows rows k
flag_in_rows count rows none_behind flags e k =
    ap (λ f. is_set f k) (sym e) ∙ ⊎_elim (flag-inside count rows k)
    (λ behind. get_or_past (flags_of count rows) k false (omega (arith, length-flags_of count rows)) ∙ sym (none_behind k behind)) (cases_lt k count)

pub flag-is : (count : ℕ) (rows summary : List ℕ) (flags : List Bool) → IsSummed count rows summary → flags_of count rows ≡ flags → (k : ℕ) → is_set flags k ≡ in_rows rows k
flag-is count rows summary flags kept = flag_in_rows count rows kept.none_behind flags

-- a row that the summary doesn't name has no number
empty_row : (count : ℕ) (rows summary : List ℕ) → IsSummed count rows summary → (k : ℕ) → in_rows summary (k / 64) ≡ false → in_rows rows k ≡ false
empty_row count rows summary kept k none =
    let zero_row : get_or rows (k / 64) 0 ≡ 0 = omega (arith, ltb-false 0 (get_or rows (k / 64) 0) (sym (kept.exact (k / 64)) ∙ none)) in
    ap (λ row. has_bit row (k % 64)) zero_row ∙ has_bit-zero (k % 64)

-- a row that the summary names is there
pub summed_row-there : (count : ℕ) (rows summary : List ℕ) → IsSummed count rows summary → (row : ℕ) → in_rows summary row ≡ true → row < length rows
summed_row-there count rows summary kept row named =
    let some : 0 < get_or rows row 0 = ltb-true 0 (get_or rows row 0) (sym (kept.exact row) ∙ named) in
    let not_past : length rows ≤ row → ⊥ = λ past. absurd (omega (arith, get_or_past rows row 0 past)) in
    omega arith

-- no number in this row, and none in the rows behind it
pub next-none_behind : (count : ℕ) (rows summary : List ℕ) (from : ℕ) → IsSummed count rows summary → IsNext (has_bit (get_or rows (from / 64) 0)) (from % 64) None → IsNext (in_rows summary) (from / 64 + 1) None
    → IsNext (in_rows rows) from None
next-none_behind count rows summary from kept here behind k h =
    ⊎_elim (next_in_rows-skipped rows from here k h)
    (λ later. empty_row count rows summary kept k (behind (k / 64) (omega arith))) (cases_lt k ((from / 64 + 1) * 64))

-- no number in this row, and the first of a later one
pub next-in_later : (count : ℕ) (rows summary : List ℕ) (from row bit : ℕ) → IsSummed count rows summary → IsNext (has_bit (get_or rows (from / 64) 0)) (from % 64) None → IsNext (in_rows summary) (from / 64 + 1) (Some row)
    → bit < 64 → IsNext (has_bit (get_or rows row 0)) 0 (Some bit) → IsNext (in_rows rows) from (Some (row * 64 + bit))
next-in_later count rows summary from row bit kept here behind within least = (
  omega (arith, behind.0),
  in_rows-of rows row bit (row * 64 + bit) refl within ∙ least.1,
  λ k h below.
      ⊎_elim (next_in_rows-skipped rows from here k h)
      (λ later. ⊎_elim
      (λ (earlier : k < row * 64). empty_row count rows summary kept k (behind.2 (k / 64) (omega arith) (omega arith)))
      (λ (same : row * 64 ≤ k). in_rows-of rows row (k - row * 64) k (omega arith) (omega arith) ∙ least.2 (k - row * 64) (omega arith) (omega arith))
      (cases_lt k (row * 64)))
      (cases_lt k ((from / 64 + 1) * 64)),
)

pub IsSummed-put : (count : ℕ) (rows summary after summary_after : List ℕ) (number : ℕ) → number < count → IsSummed count rows summary → Puts rows after number → Puts summary summary_after (number / 64)
    → IsSummed count after summary_after
IsSummed-put count rows summary after summary_after number below kept put noted = record {
  few = kept.few;
  few_rows = omega (arith, put.as_many, kept.few_rows);
  few_bits = omega (arith, noted.as_many, kept.few_bits);
  a_row_each = omega (arith, put.as_many, kept.a_row_each);
  a_bit_each = omega (arith, put.as_many, noted.as_many, kept.a_bit_each);
  none_behind = λ k behind. put.others k (λ e. absurd (omega (arith, e))) ∙ kept.none_behind k behind;
  exact = λ row. ⊎_elim
      (λ (e : row ≡ number / 64). ap (in_rows summary_after) e ∙ noted.set_there ∙ sym (ap (λ r. nat_lt 0 (get_or after r 0)) e ∙ lt-ltb 0 (get_or after (number / 64) 0) put.some))
      (λ (apart : row ≡ number / 64 → ⊥). noted.others row apart ∙ kept.exact row ∙ ap (nat_lt 0) (sym (put.other_rows row apart)))
      (cases_eq row (number / 64));
}

pub flags_of-put : (count : ℕ) (rows after : List ℕ) (number : ℕ) → number < count → Puts rows after number → flags_of count after ≡ set (flags_of count rows) number true
flags_of-put count rows after number below put =
    let lengths : length (flags_of count after) ≡ length (set (flags_of count rows) number true) =
    length-flags_of count after ∙ sym (length-set (flags_of count rows) number true ∙ length-flags_of count rows) in
    let there : number < length (flags_of count rows) = omega (arith, length-flags_of count rows) in
    ext_get_or false (flags_of count after) (set (flags_of count rows) number true) lengths (λ k h.
    let inside : k < count = omega (arith, length-flags_of count after, h) in
    flag-inside count after k inside ∙ ⊎_elim
    (λ (e : k ≡ number). ap (in_rows after) e ∙ put.set_there ∙ sym (ap (λ i. get_or (set (flags_of count rows) number true) i false) e ∙ get_or-set_same (flags_of count rows) number true false there))
    (λ (apart : k ≡ number → ⊥). put.others k apart ∙ sym (flag-inside count rows k inside) ∙ sym (get_or-set_other (flags_of count rows) number k true false apart))
    (cases_eq k number))

-- rows that are all 0 have no number
pub in_rows-empty : (rows : List ℕ) → ((row : ℕ) → get_or rows row 0 ≡ 0) → (k : ℕ) → in_rows rows k ≡ false
in_rows-empty rows empty k = ap (λ row. has_bit row (k % 64)) (empty (k / 64)) ∙ has_bit-zero (k % 64)

pub flags_of-empty : (count : ℕ) (rows : List ℕ) → ((row : ℕ) → get_or rows row 0 ≡ 0) → flags_of count rows ≡ replicate count false
flags_of-empty count rows empty =
    ext_get_or false (flags_of count rows) (replicate count false) (length-flags_of count rows ∙ sym (length-replicate count false)) (λ k h.
    let inside : k < count = omega (arith, length-flags_of count rows, h) in
    flag-inside count rows k inside ∙ in_rows-empty rows empty k ∙ sym (get_or-replicate count k false false inside))

pub IsSummed-empty : (count : ℕ) (rows summary : List ℕ) → count ≤ 1048576 → length rows ≤ 16384 → length summary ≤ 16384 → count ≤ 64 * length rows → length rows ≤ 64 * length summary → ((row : ℕ) → get_or rows row 0 ≡ 0) → ((row : ℕ) → get_or summary row 0 ≡ 0)
    → IsSummed count rows summary
IsSummed-empty count rows summary few few_rows few_bits a_row_each a_bit_each empty none = record {
  few = few;
  few_rows = few_rows;
  few_bits = few_bits;
  a_row_each = a_row_each;
  a_bit_each = a_bit_each;
  none_behind = λ k behind. in_rows-empty rows empty k;
  exact = λ row. in_rows-empty summary none row ∙ sym (ap (nat_lt 0) (empty row));
}

pub get_or-zeros : (n row : ℕ) → get_or {A = ℕ} (replicate n 0) row 0 ≡ 0
get_or-zeros n row = let none : ℕ = 0 in ⊎_elim (get_or-replicate n row none none) (λ past. get_or_past (replicate n none) row none (omega (arith, length-replicate n none))) (cases_lt row n)

-- a flag that is set is one of the list
pub is_set-within : (flags : List Bool) (n : ℕ) → is_set flags n ≡ true → n < length flags
is_set-within flags n is = let not_past : length flags ≤ n → ⊥ = λ past. true≢false (sym is ∙ get_or_past flags n false past) in omega arith

-- no number is set
pub none_set : (n k : ℕ) → is_set (replicate n false) k ≡ false
none_set n k = ⊎_elim (get_or-replicate n k false false) (λ past. get_or_past (replicate n false) k false (omega (arith, length-replicate n false))) (cases_lt k n)
