-- The flags of a set against its rows, where the rows that aren't 0 are kept as a set of their own.
use Rattle.std.proofs.Common.{◌≡◌, ℕ, ◌+◌, ◌-◌, ◌*◌, ◌/◌, ◌%◌, ◌<◌, ◌≤◌, Bool, true, false, ◌||◌, Some, None, List, length, get_or, set, replicate, nat_lt, ⊎_elim, refl, ap, sym, ◌∙◌, arith}
use Rattle.std.proofs.lemmas.Bool.{lt-ltb, ltb-true, ltb-false, cases_lt, cases_eq}
use Rattle.std.proofs.lemmas.List.{get_or_past, get_or-set_same, get_or-set_other, length-replicate, length-set}
use Rattle.addr_slice.specs.Claims.{IsNext, is_set, AreEven}
use Rattle.addr_slice.specs.WordSet.{has_bit, in_rows, flags_of, Puts, IsFilled}
use Rattle.addr_slice.proofs.Rows.{in_rows-of, has_bit-zero, next_in_rows-skipped}
use Rattle.addr_slice.proofs.Sets.{flag_in_rows, in_rows-empty, none_set}

module _ (count : ℕ) (rows : List ℕ) (filled : List Bool) (kept : IsFilled count rows filled) where
  -- a flag is set where the number is in the rows
  pub filled_flag-is : (flags : List Bool) → flags_of count rows ≡ flags → (k : ℕ) → is_set flags k ≡ in_rows rows k
  filled_flag-is = flag_in_rows count rows kept.none_behind

  -- a row that isn't named has no number
  unfilled_row : (k : ℕ) → is_set filled (k / 64) ≡ false → in_rows rows k ≡ false
  unfilled_row k none =
      let zero_row : get_or rows (k / 64) 0 ≡ 0 = omega (arith, ltb-false 0 (get_or rows (k / 64) 0) (sym (kept.exact (k / 64)) ∙ none)) in
      ap (λ row. has_bit row (k % 64)) zero_row ∙ has_bit-zero (k % 64)

  -- a row that is named is there
  pub filled_row-there : (row : ℕ) → is_set filled row ≡ true → row < length rows
  filled_row-there row named =
      let some : 0 < get_or rows row 0 = ltb-true 0 (get_or rows row 0) (sym (kept.exact row) ∙ named) in
      let not_past : length rows ≤ row → ⊥ = λ past. absurd (omega (arith, get_or_past rows row 0 past)) in
      omega arith

  -- no number in this row, and none in the rows behind it
  pub filled_next-none : (from : ℕ) → IsNext (has_bit (get_or rows (from / 64) 0)) (from % 64) None → IsNext (is_set filled) (from / 64 + 1) None → IsNext (in_rows rows) from None
  filled_next-none from here behind k h =
      ⊎_elim (next_in_rows-skipped rows from here k h)
      (λ later. unfilled_row k (behind (k / 64) (omega arith))) (cases_lt k ((from / 64 + 1) * 64))

  -- no number in this row, and the first of a later one
  pub filled_next-later : (from row bit : ℕ) → IsNext (has_bit (get_or rows (from / 64) 0)) (from % 64) None → IsNext (is_set filled) (from / 64 + 1) (Some row)
      → bit < 64 → IsNext (has_bit (get_or rows row 0)) 0 (Some bit) → IsNext (in_rows rows) from (Some (row * 64 + bit))
  filled_next-later from row bit here behind within least = (
    omega (arith, behind.0),
    in_rows-of rows row bit (row * 64 + bit) refl within ∙ least.1,
    λ k h below.
        ⊎_elim (next_in_rows-skipped rows from here k h)
        (λ later. ⊎_elim
        (λ (earlier : k < row * 64). unfilled_row k (behind.2 (k / 64) (omega arith) (omega arith)))
        (λ (same : row * 64 ≤ k). in_rows-of rows row (k - row * 64) k (omega arith) (omega arith) ∙ least.2 (k - row * 64) (omega arith) (omega arith))
        (cases_lt k (row * 64)))
        (cases_lt k ((from / 64 + 1) * 64)),
  )

  -- one more number
  pub filled_put : (after : List ℕ) (number : ℕ) → number < count → Puts rows after number → IsFilled count after (set filled (number / 64) true)
  filled_put after number below put =
      let there : number / 64 < length filled = omega (arith, kept.as_many, kept.a_row_each) in record {
        few = kept.few;
        few_rows = omega (arith, put.as_many, kept.few_rows);
        a_row_each = omega (arith, put.as_many, kept.a_row_each);
        as_many = length-set filled (number / 64) true ∙ kept.as_many ∙ sym put.as_many;
        none_behind = λ k behind. put.others k (λ e. absurd (omega (arith, e))) ∙ kept.none_behind k behind;
        exact = λ row. ⊎_elim
            (λ (e : row ≡ number / 64). ap (λ r. is_set (set filled (number / 64) true) r) e ∙ get_or-set_same filled (number / 64) true false there ∙ sym (ap (λ r. nat_lt 0 (get_or after r 0)) e ∙ lt-ltb 0 (get_or after (number / 64) 0) put.some))
            (λ (apart : row ≡ number / 64 → ⊥). get_or-set_other filled (number / 64) row true false apart ∙ kept.exact row ∙ ap (nat_lt 0) (sym (put.other_rows row apart)))
            (cases_eq row (number / 64));
      }

-- no number
pub filled_empty : (count : ℕ) (rows : List ℕ) → count ≤ 1048576 → length rows ≤ 16384 → count ≤ 64 * length rows → ((row : ℕ) → get_or rows row 0 ≡ 0) → (n : ℕ) → n ≡ length rows → IsFilled count rows (replicate n false)
filled_empty count rows few few_rows a_row_each empty n same = record {
  few = few;
  few_rows = few_rows;
  a_row_each = a_row_each;
  as_many = length-replicate n false ∙ same;
  none_behind = λ k behind. in_rows-empty rows empty k;
  exact = λ row. none_set n row ∙ sym (ap (nat_lt 0) (empty row));
}

-- three sets of no number
pub none_even : (n : ℕ) (reads writes either : List Bool) → reads ≡ replicate n false → writes ≡ replicate n false → either ≡ replicate n false → n ≤ 1048576 → AreEven reads writes either
none_even n reads writes either no_reads no_writes none few = record {
  same = ap length no_writes ∙ sym (ap length no_reads);
  as_many = ap length none ∙ sym (ap length no_reads);
  few = omega (arith, ap length no_reads, length-replicate n false, few);
  both = λ word. unset either none word ∙ sym (ap (λ b. b || is_set writes word) (unset reads no_reads word) ∙ unset writes no_writes word);
}
  where
    unset : (flags : List Bool) → flags ≡ replicate n false → (word : ℕ) → is_set flags word ≡ false
    unset flags e word = ap (λ f. is_set f word) e ∙ none_set n word
