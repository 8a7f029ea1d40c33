-- Which piece stands at a place, and where it ends: there is one answer.
use Rattle.std.proofs.Common.{◌≡◌, ℕ, Bool, true, false, List, length, get_or, slice_range, refl, sym, ap, subst, ◌∙◌, inl, inr, arith}
use Rattle.std.proofs.lemmas.Bool.{false≢true, cases_lt}
use Rattle.std.proofs.lemmas.List.{get_or_past}
use Rattle.nest_lex.specs.Bytes.{is_blank, is_digit, is_word_byte}
use Rattle.nest_lex.specs.Pieces.{IsGap, Stands}
use Rattle.nest_lex.specs.Spelling.{keyword_text, mark_text, Spells, IsNumber}
use Rattle.nest_lex.specs.declared.piece.Piece.{Piece}
use Rattle.nest_lex.specs.declared.piece.Piece.TheVariants as piece
use Rattle.nest_lex.specs.declared.token.Keyword.{Keyword}
use Rattle.nest_lex.proofs.Ranges.{all_at, first_byte, word_from_digit, word_from_letter, letter_no_digit, blank_no_word}
use Rattle.nest_lex.proofs.Tables.{keyword_begins, keyword_words, keyword_some, mark_begins, mark_no_blank}
use Rattle.nest_lex.proofs.Written.{one_keyword, one_mark}

-- bytes that a test tells apart by the first of them aren't the same
clash : (p : ℕ → Bool) (xs ys : List ℕ) → xs ≡ ys → p (get_or xs 0 0) ≡ true → p (get_or ys 0 0) ≡ false → ⊥
clash p xs ys same here there = absurd (false≢true (sym there ∙ sym (ap (λ (bs : List ℕ). p (get_or bs 0 0)) same) ∙ here))

number_digit : (bytes : List ℕ) (n : ℕ) → IsNumber bytes n → is_digit (get_or bytes 0 0) ≡ true
number_digit bytes n number = all_at is_digit bytes 0 (omega (arith, number.some)) number.digits

keyword_word : (k : Keyword) → is_word_byte (get_or (keyword_text k) 0 0) ≡ true
keyword_word k = all_at is_word_byte (keyword_text k) 0 (omega (arith, keyword_some k)) (keyword_words k)

-- whether a piece is a word, which its first byte tells
abbrev is_word : Piece → Bool
is_word (piece.Mark m) = false
is_word _ = true

begins_word : (p : Piece) (bytes : List ℕ) → Spells p bytes → is_word_byte (get_or bytes 0 0) ≡ is_word p
begins_word piece.Name bytes a = word_from_letter (get_or bytes 0 0) a.begins
begins_word (piece.Number n) bytes a = word_from_digit (get_or bytes 0 0) (number_digit bytes n a)
begins_word (piece.Keyword k) bytes a = ap (λ (bs : List ℕ). is_word_byte (get_or bs 0 0)) (sym a) ∙ keyword_word k
begins_word (piece.Mark m) bytes a = ap (λ (bs : List ℕ). is_word_byte (get_or bs 0 0)) (sym a) ∙ mark_begins m

not_alike : (p q : Piece) (bytes : List ℕ) → Spells p bytes → Spells q bytes → is_word p ≡ true → is_word q ≡ false → ⊥
not_alike p q bytes a b word mark = absurd (false≢true (sym mark ∙ sym (begins_word q bytes b) ∙ begins_word p bytes a ∙ word))

-- no bytes spell two pieces
one_piece : (p q : Piece) (bytes : List ℕ) → Spells p bytes → Spells q bytes → p ≡ q
one_piece piece.Name piece.Name bytes a b = refl
one_piece piece.Name (piece.Number n) bytes a b = absurd (false≢true (sym (letter_no_digit (get_or bytes 0 0) a.begins) ∙ number_digit bytes n b))
one_piece piece.Name (piece.Keyword k) bytes a b = absurd (a.no_keyword k b)
one_piece piece.Name (piece.Mark m) bytes a b = absurd (not_alike piece.Name (piece.Mark m) bytes a b refl refl)
one_piece (piece.Number n) piece.Name bytes a b = absurd (false≢true (sym (letter_no_digit (get_or bytes 0 0) b.begins) ∙ number_digit bytes n a))
one_piece (piece.Number n) (piece.Number o) bytes a b = ap piece.Number (sym a.says ∙ b.says)
one_piece (piece.Number n) (piece.Keyword k) bytes a b = absurd (clash is_digit bytes (keyword_text k) (sym b) (number_digit bytes n a) (keyword_begins k))
one_piece (piece.Number n) (piece.Mark m) bytes a b = absurd (not_alike (piece.Number n) (piece.Mark m) bytes a b refl refl)
one_piece (piece.Keyword k) piece.Name bytes a b = absurd (b.no_keyword k a)
one_piece (piece.Keyword k) (piece.Number n) bytes a b = absurd (clash is_digit bytes (keyword_text k) (sym a) (number_digit bytes n b) (keyword_begins k))
one_piece (piece.Keyword k) (piece.Keyword l) bytes a b = ap piece.Keyword (one_keyword k l (a ∙ sym b))
one_piece (piece.Keyword k) (piece.Mark m) bytes a b = absurd (not_alike (piece.Keyword k) (piece.Mark m) bytes a b refl refl)
one_piece (piece.Mark m) piece.Name bytes a b = absurd (not_alike piece.Name (piece.Mark m) bytes b a refl refl)
one_piece (piece.Mark m) (piece.Number n) bytes a b = absurd (not_alike (piece.Number n) (piece.Mark m) bytes b a refl refl)
one_piece (piece.Mark m) (piece.Keyword k) bytes a b = absurd (not_alike (piece.Keyword k) (piece.Mark m) bytes b a refl refl)
one_piece (piece.Mark m) (piece.Mark o) bytes a b = ap piece.Mark (one_mark m o (a ∙ sym b))

-- the longest piece at a place ends at one place
pub one_end : (text : List ℕ) (at next next' : ℕ) (p q : Piece) → Stands text p at next → Stands text q at next' → next ≡ next'
one_end text at next next' p q a b = elim (cases_lt next next') [
  | inl less ↦ absurd (a.longest q next' less b.within b.spelled)
  | inr least ↦ elim (cases_lt next' next) [
    | inl more ↦ absurd (b.longest p next more a.within a.spelled)
    | inr most ↦ omega arith
  ]
]

pub one_standing : (text : List ℕ) (at next next' : ℕ) (p q : Piece) → Stands text p at next → Stands text q at next' → p ≡ q
one_standing text at next next' p q a b =
    one_piece p q (slice_range text at next) a.spelled
    (subst (λ (n : ℕ). Spells q (slice_range text at n)) (sym (one_end text at next next' p q a b)) b.spelled)

pub blank_no_slash : (b : ℕ) → is_blank b ≡ true → b ≡ 47 → ⊥
blank_no_slash b blank slash = absurd (false≢true (sym (ap is_blank slash) ∙ blank))

-- no piece begins with a blank
pub spelled_no_blank : (p : Piece) (bytes : List ℕ) → Spells p bytes → is_blank (get_or bytes 0 0) ≡ true → ⊥
spelled_no_blank (piece.Mark m) bytes same blank = clash is_blank bytes (mark_text m) (sym same) blank (mark_no_blank m)
spelled_no_blank piece.Name bytes a blank = absurd (false≢true (sym (blank_no_word (get_or bytes 0 0) blank) ∙ begins_word piece.Name bytes a))
spelled_no_blank (piece.Number n) bytes a blank = absurd (false≢true (sym (blank_no_word (get_or bytes 0 0) blank) ∙ begins_word (piece.Number n) bytes a))
spelled_no_blank (piece.Keyword k) bytes a blank = absurd (false≢true (sym (blank_no_word (get_or bytes 0 0) blank) ∙ begins_word (piece.Keyword k) bytes a))

-- where a piece stands, no gap begins
pub clear_piece : (text : List ℕ) (p : Piece) (at next : ℕ) → Stands text p at next → (to : ℕ) → IsGap text at to → ⊥
clear_piece text p at next stands to (inl gap) = spelled_no_blank p (slice_range text at next) stands.spelled (ap is_blank (first_byte text at next stands.some) ∙ gap.0)
clear_piece text p at next stands to (inr (inl gap)) = stands.no_line gap.0
clear_piece text p at next stands to (inr (inr gap)) = stands.no_block gap.0

-- behind the end no byte stands
pub past : (text : List ℕ) (at : ℕ) → at ≡ length text → get_or text at 0 ≡ 0
past text at end = get_or_past text at 0 (omega arith)

-- and no gap begins there
pub no_gap_at_end : (text : List ℕ) (at : ℕ) → at ≡ length text → (to : ℕ) → IsGap text at to → ⊥
no_gap_at_end text at end to (inl gap) = absurd (false≢true (sym (ap is_blank (past text at end)) ∙ gap.0))
no_gap_at_end text at end to (inr (inl gap)) = omega (arith, past text at end, gap.0.0)
no_gap_at_end text at end to (inr (inr gap)) = omega (arith, past text at end, gap.0.0)
