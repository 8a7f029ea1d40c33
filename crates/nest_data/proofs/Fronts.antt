-- The first line of a text.
use Rattle.std.proofs.Common.{◌≡◌, ℕ, zero, suc, ◌<◌, true, false, List, [], ◌∷◌, length, get_or, take, drop, ap, ◌∙◌, arith}
use Rattle.std.specs.List.{onto_first}
use Rattle.std.proofs.lemmas.Bool.{cond-true, cond-false}
use Rattle.nest_data.specs.Lines.{is_line_feed, lines_of}

-- a line feed ends the first line
pub first_line : (bytes : List ℕ) (n : ℕ) → n < length bytes → is_line_feed (get_or bytes n 0) ≡ true → ((k : ℕ) → k < n → is_line_feed (get_or bytes k 0) ≡ false)
    → lines_of bytes ≡ take n bytes ∷ lines_of (drop (suc n) bytes)
first_line [] n within ends before = absurd (omega arith)
first_line (b ∷ bytes) zero within ends before = cond-true (is_line_feed b) _ _ ends
first_line (b ∷ bytes) (suc n) within ends before =
    cond-false (is_line_feed b) _ _ (before 0 (omega arith))
    ∙ ap (onto_first b) (first_line bytes n (omega arith) ends (λ k below. before (suc k) (omega arith)))

-- the last line needs no line feed
pub last_line : (bytes : List ℕ) → 0 < length bytes → ((k : ℕ) → k < length bytes → is_line_feed (get_or bytes k 0) ≡ false) → lines_of bytes ≡ bytes ∷ []
last_line [] some none = absurd (omega arith)
last_line (b ∷ []) some none = cond-false (is_line_feed b) _ _ (none 0 (omega arith))
last_line (b ∷ c ∷ bytes) some none =
    cond-false (is_line_feed b) _ _ (none 0 (omega arith))
    ∙ ap (onto_first b) (last_line (c ∷ bytes) (omega arith) (λ k below. none (suc k) (omega arith)))
