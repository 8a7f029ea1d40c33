-- The first of the words that separators part, whatever separates.
use Rattle.std.proofs.Common.{◌≡◌, ℕ, zero, suc, ◌+◌, ◌-◌, ◌<◌, ◌≤◌, Bool, true, false, cond, not, Some, None, List, [], ◌∷◌, length, get_or, take, drop, refl, sym, ap, ◌∙◌, subst, arith}
use Rattle.std.specs.List.{All, filter, slice_split, onto_first, position, position_or_len}
use Rattle.std.proofs.lemmas.Bool.{cond-true, ltb-false, not-true, not-false, ne_eqb}
use Rattle.std.proofs.lemmas.List.{get_or_default, get_or-drop, take_rest}
use Rattle.std.proofs.lemmas.List.Quantifiers.{position-Some}
use Rattle.std.proofs.lemmas.List.Sums.{fails_before_first}
use Rattle.std.proofs.lemmas.List.Splits.{slice_split-cons_yes, slice_split-cons_no, slice_split_none}
use Rattle.nest_data.specs.Lines.{has_bytes, parted_by}

none_is_past : (b : Bool) (n : ℕ) → cond b (Some n) None ≡ None → b ≡ false
none_is_past true n e = cc
none_is_past false n e = refl

-- where no place is the first that passes, none passes
pub none_pass : {X : Type 0} (p : X → Bool) (xs : List X) (k : ℕ) (d : X) → position p xs ≡ None → k < length xs → p (get_or xs k d) ≡ false
none_pass p xs k d none within =
    let past : length xs ≤ position_or_len p xs = ltb-false _ _ (none_is_past _ _ none) in
    fails_before_first p xs k d (omega arith)

-- what stands behind a place, as the code cuts it
pub behind : (bytes : List ℕ) (n : ℕ) → drop (suc n) bytes ≡ take (length bytes - (n + 1)) (drop (n + 1) bytes)
behind bytes n =
    let e : n + 1 ≡ suc n = omega arith in
    sym (take_rest bytes (n + 1) ∙ ap (λ (m : ℕ). drop m bytes) e)

has_some : (word : List ℕ) → 0 < length word → has_bytes word ≡ true
has_some [] some = absurd (omega arith)
has_some (b ∷ word) some = ap not (ne_eqb (length (b ∷ word)) 0 (omega arith))

kept : (word : List ℕ) (parts : List (List ℕ)) → 0 < length word → filter has_bytes (word ∷ parts) ≡ word ∷ filter has_bytes parts
kept word parts some = cond-true (has_bytes word) _ _ (has_some word some)

module _ (is_separator : ℕ → Bool) where
  abbrev is_word_byte : ℕ → Bool
  is_word_byte b = not (is_separator b)

  -- separators in front are no part of a word
  passed_separators : (bytes : List ℕ) (n : ℕ) → n ≤ length bytes → ((k : ℕ) → k < n → is_word_byte (get_or bytes k 0) ≡ false) → parted_by is_separator bytes ≡ parted_by is_separator (drop n bytes)
  passed_separators bytes zero within before = refl
  passed_separators [] (suc n) within before = refl
  passed_separators (b ∷ bytes) (suc n) within before =
      ap (filter has_bytes) (slice_split-cons_yes is_separator b bytes (not-false (is_separator b) (before 0 (omega arith))))
      ∙ passed_separators bytes n (omega arith) (λ k below. before (suc k) (omega arith))

  -- where all bytes are separators there is no word
  no_words : (bytes : List ℕ) → ((k : ℕ) → k < length bytes → is_word_byte (get_or bytes k 0) ≡ false) → parted_by is_separator bytes ≡ []
  no_words [] none = refl
  no_words (b ∷ bytes) none =
      ap (filter has_bytes) (slice_split-cons_yes is_separator b bytes (not-false (is_separator b) (none 0 (omega arith))))
      ∙ no_words bytes (λ k below. none (suc k) (omega arith))

  -- a separator ends the first part
  first_part : (bytes : List ℕ) (n : ℕ) → n < length bytes → is_separator (get_or bytes n 0) ≡ true → ((k : ℕ) → k < n → is_separator (get_or bytes k 0) ≡ false)
      → slice_split is_separator bytes ≡ take n bytes ∷ slice_split is_separator (drop (suc n) bytes)
  first_part [] n within ends before = absurd (omega arith)
  first_part (b ∷ bytes) zero within ends before = slice_split-cons_yes is_separator b bytes ends
  first_part (b ∷ bytes) (suc n) within ends before =
      slice_split-cons_no is_separator b bytes (before 0 (omega arith))
      ∙ ap (onto_first b) (first_part bytes n (omega arith) ends (λ k below. before (suc k) (omega arith)))

  -- a separator ends the first word
  first_word : (bytes : List ℕ) (n : ℕ) → is_word_byte (get_or bytes 0 0) ≡ true → n < length bytes → is_separator (get_or bytes n 0) ≡ true
      → ((k : ℕ) → k < n → is_separator (get_or bytes k 0) ≡ false) → parted_by is_separator bytes ≡ take n bytes ∷ parted_by is_separator (drop (suc n) bytes)
  first_word [] n begins within ends before = absurd (omega arith)
  first_word (b ∷ bytes) zero begins within ends before = cc (not-true (is_separator b) begins)
  first_word (b ∷ bytes) (suc n) begins within ends before =
      ap (filter has_bytes) (first_part (b ∷ bytes) (suc n) within ends before) ∙ kept (take (suc n) (b ∷ bytes)) (slice_split is_separator (drop (suc (suc n)) (b ∷ bytes))) (omega arith)

  -- the last word ends with the bytes
  last_word : (bytes : List ℕ) → 0 < length bytes → ((k : ℕ) → k < length bytes → is_separator (get_or bytes k 0) ≡ false) → parted_by is_separator bytes ≡ bytes ∷ []
  last_word bytes some none =
      let each : All (λ b. is_separator b ≡ false) bytes = λ k d below. subst (λ (b : ℕ). is_separator b ≡ false) (get_or_default bytes k 0 d below) (none k below) in
      ap (filter has_bytes) (slice_split_none is_separator bytes each) ∙ kept bytes [] some

  -- the first byte of a word, as the code cuts it
  pub begins_there : (bytes : List ℕ) (start : ℕ) → position is_word_byte bytes ≡ Some start → is_word_byte (get_or (take (length bytes - start) (drop start bytes)) 0 0) ≡ true
  begins_there bytes start found =
      let at = position-Some is_word_byte bytes start 0 found in
      let there : start + 0 ≡ start = omega arith in
      ap is_word_byte
      (ap (λ (rest : List ℕ). get_or rest 0 0) (take_rest bytes start)
      ∙ get_or-drop start bytes 0 0
      ∙ ap (λ (k : ℕ). get_or bytes k 0) there)
      ∙ at.1

  -- the words from the first byte of one on
  pub from_start : (bytes : List ℕ) (start : ℕ) → position is_word_byte bytes ≡ Some start → parted_by is_separator bytes ≡ parted_by is_separator (take (length bytes - start) (drop start bytes))
  from_start bytes start found =
      let at = position-Some is_word_byte bytes start 0 found in
      let within : start ≤ length bytes = omega (arith, at.0) in
      passed_separators bytes start within at.2 ∙ ap (parted_by is_separator) (sym (take_rest bytes start))

  -- without such a byte there is none
  pub without_start : (bytes : List ℕ) → position is_word_byte bytes ≡ None → parted_by is_separator bytes ≡ []
  without_start bytes none = no_words bytes (λ k below. none_pass is_word_byte bytes k 0 none below)

  -- the first word ends at the first separator
  pub to_end : (bytes : List ℕ) (end : ℕ) → is_word_byte (get_or bytes 0 0) ≡ true → position is_separator bytes ≡ Some end
      → parted_by is_separator bytes ≡ take end bytes ∷ parted_by is_separator (take (length bytes - (end + 1)) (drop (end + 1) bytes))
  to_end bytes end begins found =
      let at = position-Some is_separator bytes end 0 found in
      first_word bytes end begins at.0 at.1 at.2 ∙ ap (λ (rest : List ℕ). take end bytes ∷ parted_by is_separator rest) (behind bytes end)

  -- and where there is none, with the bytes
  pub without_end : (bytes : List ℕ) → 0 < length bytes → position is_separator bytes ≡ None → parted_by is_separator bytes ≡ bytes ∷ []
  without_end bytes some none = last_word bytes some (λ k below. none_pass is_separator bytes k 0 none below)
