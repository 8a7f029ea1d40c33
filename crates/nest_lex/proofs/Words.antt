-- What stands where a word stands.
use Rattle.std.proofs.Common.{◌≡◌, ℕ, ◌<◌, ◌≤◌, Bool, true, false, List, length, get_or, sym, ap, ◌∙◌, subst, inl, inr, arith, slice_range, slice_index}
use Rattle.std.specs.List.{list_all}
use Rattle.std.proofs.lemmas.Bool.{false≢true, cases_lt}
use Rattle.nest_lex.specs.Bytes.{is_digit, is_letter, is_word_byte}
use Rattle.nest_lex.specs.Spelling.{keyword_text, mark_text, IsNumber, Spells}
use Rattle.nest_lex.specs.Pieces.{Stands, OpensLine, OpensBlock}
use Rattle.nest_lex.specs.Text.{IsBadNumber}
use Rattle.nest_lex.specs.Scans.{IsWordEnd}
use Rattle.nest_lex.specs.declared.piece.Piece.{Piece}
use Rattle.nest_lex.specs.declared.piece.Piece.TheVariants as piece
use Rattle.nest_lex.specs.declared.token.Keyword.{Keyword}
use Rattle.nest_lex.proofs.Ranges.{all_at_place, first_byte, word_from_digit, letter_no_digit, letter_from_word, all_from_places}
use Rattle.nest_lex.proofs.Tables.{keyword_words, keyword_begins, mark_begins}

-- a word goes no further than its end
stops : (text : List ℕ) (at end longer : ℕ) → IsWordEnd text at end → end < longer → longer ≤ length text → list_all is_word_byte (slice_range text at longer) ≡ true → ⊥
stops text at end longer ended past within all =
    absurd (false≢true (sym ended.ends ∙ all_at_place is_word_byte text at longer end ended.ordered past within all))

pub number_stops : (text : List ℕ) (at end longer n : ℕ) → IsWordEnd text at end → end < longer → longer ≤ length text → IsNumber (slice_range text at longer) n → ⊥
number_stops text at end longer n ended past within number =
    absurd (false≢true (sym ended.ends ∙ word_from_digit (get_or text end 0) (all_at_place is_digit text at longer end ended.ordered past within number.digits)))

no_longer : (text : List ℕ) (at end : ℕ) (other : Piece) (longer : ℕ) → IsWordEnd text at end → is_word_byte (slice_index text at) ≡ true → end < longer → longer ≤ length text
    → Spells other (slice_range text at longer) → ⊥
no_longer text at end piece.Name longer ended word past within name = stops text at end longer ended past within name.goes_on
no_longer text at end (piece.Number n) longer ended word past within number = number_stops text at end longer n ended past within number
no_longer text at end (piece.Keyword k) longer ended word past within same =
    stops text at end longer ended past within (subst (λ (bs : List ℕ). list_all is_word_byte bs ≡ true) same (keyword_words k))
no_longer text at end (piece.Mark m) longer ended word past within same =
    absurd (false≢true (sym (mark_begins m) ∙ ap (λ (bs : List ℕ). is_word_byte (get_or bs 0 0)) same ∙ ap is_word_byte (first_byte text at longer (omega (arith, ended.ordered))) ∙ word))

begun : (text : List ℕ) (at end : ℕ) → IsWordEnd text at end → is_word_byte (slice_index text at) ≡ true → at < end
begun text at end ended word = elim (cases_lt at end) [
  | inl less ↦ less
  | inr more ↦
      let e : end ≡ at = omega (arith, ended.ordered) in absurd (false≢true (sym (subst (λ k. is_word_byte (get_or text k 0) ≡ false) e ended.ends) ∙ word))
]

no_line : (text : List ℕ) (at : ℕ) → is_word_byte (slice_index text at) ≡ true → OpensLine text at → ⊥
no_line text at word opens = absurd (false≢true (sym (ap is_word_byte opens.0) ∙ word))

no_block : (text : List ℕ) (at : ℕ) → is_word_byte (slice_index text at) ≡ true → OpensBlock text at → ⊥
no_block text at word opens = absurd (false≢true (sym (ap is_word_byte opens.0) ∙ word))

pub number_stands : (text : List ℕ) (at end n : ℕ) → IsWordEnd text at end → is_word_byte (slice_index text at) ≡ true → IsNumber (slice_range text at end) n → Stands text (piece.Number n) at end
number_stands text at end n ended word number = record {
  some = begun text at end ended word;
  within = ended.within;
  no_line = no_line text at word;
  no_block = no_block text at word;
  spelled = number;
  longest = λ other longer past within s. no_longer text at end other longer ended word past within s;
  followed = ended.ends;
}

pub keyword_stands : (text : List ℕ) (at end : ℕ) (k : Keyword) → IsWordEnd text at end → is_word_byte (slice_index text at) ≡ true → keyword_text k ≡ slice_range text at end → Stands text (piece.Keyword k) at end
keyword_stands text at end k ended word same = record {
  some = begun text at end ended word;
  within = ended.within;
  no_line = no_line text at word;
  no_block = no_block text at word;
  spelled = same;
  longest = λ other longer past within s. no_longer text at end other longer ended word past within s;
  followed = tt;
}

pub name_stands : (text : List ℕ) (at end : ℕ) → IsWordEnd text at end → is_word_byte (slice_index text at) ≡ true → is_digit (slice_index text at) ≡ false
    → ((k : Keyword) → keyword_text k ≡ slice_range text at end → ⊥) → Stands text piece.Name at end
name_stands text at end ended word letter none = record {
  some = begun text at end ended word;
  within = ended.within;
  no_line = no_line text at word;
  no_block = no_block text at word;
  spelled = record {
    begins = ap is_letter (first_byte text at end (begun text at end ended word)) ∙ letter_from_word (slice_index text at) word letter;
    goes_on = all_from_places is_word_byte text at end ended.within ended.word;
    no_keyword = none;
  };
  longest = λ other longer past within s. no_longer text at end other longer ended word past within s;
  followed = tt;
}

-- a byte can't pass a test and fail it
both : (p : ℕ → Bool) (b c : ℕ) → b ≡ c → p b ≡ true → p c ≡ false → ⊥
both p b c same yes_here no_here = absurd (false≢true (sym no_here ∙ sym (ap p same) ∙ yes_here))

-- a number that stands at a digit ends where the word ends
number_end : (text : List ℕ) (at end next n : ℕ) → IsWordEnd text at end → Stands text (piece.Number n) at next → next ≡ end
number_end text at end next n ended stands = elim (cases_lt next end) [
  | inl less ↦ absurd (false≢true (sym stands.followed ∙ ended.word next (omega (arith, stands.some)) less))
  | inr least ↦ elim (cases_lt end next) [
    | inl more ↦ absurd (number_stops text at end next n ended more stands.within stands.spelled)
    | inr most ↦ omega arith
  ]
]

no_piece : (text : List ℕ) (at end : ℕ) → IsWordEnd text at end → is_digit (slice_index text at) ≡ true → ((n : ℕ) → IsNumber (slice_range text at end) n → ⊥)
    → (p : Piece) (next : ℕ) → Stands text p at next → ⊥
no_piece text at end ended digit none piece.Name next stands =
    both is_digit (get_or text at 0) (get_or (slice_range text at next) 0 0) (sym (first_byte text at next stands.some)) digit (letter_no_digit (get_or (slice_range text at next) 0 0) stands.spelled.begins)
no_piece text at end ended digit none (piece.Number n) next stands =
    none n (subst (λ (to : ℕ). IsNumber (slice_range text at to) n) (number_end text at end next n ended stands) stands.spelled)
no_piece text at end ended digit none (piece.Keyword k) next stands =
    both is_digit (get_or text at 0) (get_or (keyword_text k) 0 0) (sym (first_byte text at next stands.some) ∙ sym (ap (λ (bs : List ℕ). get_or bs 0 0) stands.spelled)) digit (keyword_begins k)
no_piece text at end ended digit none (piece.Mark m) next stands =
    both is_word_byte (get_or text at 0) (get_or (mark_text m) 0 0) (sym (first_byte text at next stands.some) ∙ sym (ap (λ (bs : List ℕ). get_or bs 0 0) stands.spelled)) (word_from_digit (get_or text at 0) digit) (mark_begins m)

pub number_is_bad : (text : List ℕ) (at end : ℕ) → IsWordEnd text at end → is_digit (slice_index text at) ≡ true → ((n : ℕ) → IsNumber (slice_range text at end) n → ⊥) → IsBadNumber text at
number_is_bad text at end ended digit none = record { digit = digit; no_piece = no_piece text at end ended digit none }
