-- What stands where no word stands.
use Rattle.std.proofs.Common.{◌≡◌, ℕ, zero, suc, ◌+◌, ◌-◌, ◌<◌, ◌≤◌, true, false, List, [], ◌∷◌, ◌++◌, length, get_or, take, drop, sym, ap, ◌∙◌, subst, arith, slice_range, slice_index}
use Rattle.std.specs.List.{list_all}
use Rattle.std.proofs.lemmas.Bool.{false≢true}
use Rattle.std.proofs.lemmas.List.{take-take}
use Rattle.std.proofs.lemmas.List.Edits.{between_more}
use Rattle.std.proofs.lemmas.Bool.Decides.{nat_tests}
use Rattle.nest_lex.specs.Bytes.{is_digit, is_word_byte, is_blank}
use Rattle.nest_lex.specs.Spelling.{mark_text, Spells}
use Rattle.nest_lex.specs.Pieces.{Stands, OpensLine, OpensBlock}
use Rattle.nest_lex.specs.Text.{IsBadByte}
use Rattle.nest_lex.specs.Scans.{IsLongestMark, NoMark}
use Rattle.nest_lex.specs.declared.piece.Piece.{Piece}
use Rattle.nest_lex.specs.declared.piece.Piece.TheVariants as piece
use Rattle.nest_lex.specs.declared.token.Mark.{Mark}
use Rattle.nest_lex.proofs.Ranges.{all_at_place, first_byte, word_from_digit, length-range}
use Rattle.nest_lex.proofs.Tables.{keyword_words, mark_begins, mark_some, front_of, front_text}

one_range : (text : List ℕ) (at : ℕ) → at < length text → slice_range text at (at + 1) ≡ get_or text at 0 ∷ []
one_range text at within =
    let none : at - at ≡ 0 = omega arith in
    between_more text at at 0 (omega arith) within ∙ ap (λ n. take n (drop at text) ++ get_or text at 0 ∷ []) none

pub one_byte : (text : List ℕ) (at b : ℕ) (m : Mark) → at < length text → mark_text m ≡ b ∷ [] → b ≡ get_or text at 0 → mark_text m ≡ slice_range text at (at + 1)
one_byte text at b m within spelled same = spelled ∙ ap (λ c. c ∷ []) same ∙ sym (one_range text at within)

pub one_more : (text : List ℕ) (at next b : ℕ) (m longer : Mark) → at ≤ next → next < length text → mark_text m ≡ slice_range text at next → b ≡ get_or text next 0
    → mark_text longer ≡ mark_text m ++ b ∷ [] → mark_text longer ≡ slice_range text at (next + 1)
one_more text at next b m longer ordered within spelled same longer_spelled = let e = between_more text at next 0 ordered within in cc

-- where a mark stands, each front of it is a mark
front_of_mark : (d : ℕ) (text : List ℕ) (at to : ℕ) (m : Mark) → at < to → to + d ≤ length text → mark_text m ≡ slice_range text at (to + d)
    → (front : Mark) × (mark_text front ≡ slice_range text at to)
front_of_mark zero text at to m some within same = (m, same ∙ ap (λ n. slice_range text at n) (omega arith))
front_of_mark (suc d) text at to m some within same =
    let long : length (mark_text m) ≡ to + suc d - at = ap length same ∙ length-range text at (to + suc d) within in
    let e : mark_text (front_of m) ≡ take (length (mark_text m) - 1) (mark_text m) = front_text m (omega arith) in
    let f : take (length (mark_text m) - 1) (mark_text m) ≡ take (to + d - at) (slice_range text at (to + suc d)) =
    ap (λ n. take n (mark_text m)) (omega arith) ∙ ap (λ (bs : List ℕ). take (to + d - at) bs) same in
    let g = take-take (to + d - at) (to + suc d - at) (drop at text) (omega arith) in
    front_of_mark d text at to (front_of m) some (omega arith) (e ∙ f ∙ g)

-- the same, for a longer part
front_at : (text : List ℕ) (at to longer : ℕ) (m : Mark) → at < to → to ≤ longer → longer ≤ length text → mark_text m ≡ slice_range text at longer
    → (front : Mark) × (mark_text front ≡ slice_range text at to)
front_at text at to longer m some ordered within same =
    let e : to + (longer - to) ≡ longer = omega arith in
    front_of_mark (longer - to) text at to m some (omega arith) (same ∙ ap (λ n. slice_range text at n) (sym e))

pub longest_here : (text : List ℕ) (at next b : ℕ) (m : Mark) → at < next → next < length text → mark_text m ≡ slice_range text at next → b ≡ get_or text next 0
    → ((longer : Mark) → mark_text longer ≡ mark_text m ++ b ∷ [] → ⊥) → IsLongestMark text m at next
longest_here text at next b m some within spelled same none = record {
  within = omega arith;
  some = some;
  spelled = spelled;
  longest = λ other longer past inside s.
      let front = front_at text at (next + 1) longer other (omega arith) (omega arith) inside s in
      let e : slice_range text at (next + 1) ≡ slice_range text at next ++ get_or text next 0 ∷ [] = between_more text at next 0 (omega arith) within in
      let f : slice_range text at next ++ get_or text next 0 ∷ [] ≡ mark_text m ++ b ∷ [] = cc in
      none front.0 (front.1 ∙ e ∙ f);
}

pub longest_at_end : (text : List ℕ) (at : ℕ) (m : Mark) → at < length text → mark_text m ≡ slice_range text at (length text) → IsLongestMark text m at (length text)
longest_at_end text at m within spelled = record { within = omega arith; some = within; spelled = spelled; longest = λ other longer past inside s. absurd (omega arith) }

pub no_mark : (text : List ℕ) (at b : ℕ) → at < length text → b ≡ get_or text at 0 → ((m : Mark) → mark_text m ≡ b ∷ [] → ⊥) → NoMark text at
no_mark text at b within same none = λ other next inside s.
    let long : length (mark_text other) ≡ next - at = ap length s ∙ length-range text at next inside in
    let front = front_at text at (at + 1) next other (omega arith) (omega (arith, mark_some other)) inside s in
    none front.0 (front.1 ∙ one_range text at within ∙ ap (λ c. c ∷ []) (sym same))

-- no word stands where its first byte is none of a word
no_word_spelled : (text : List ℕ) (at next : ℕ) (p : Piece) → at < next → next ≤ length text → is_word_byte (slice_index text at) ≡ false → Spells p (slice_range text at next)
    → (m : Mark) × (mark_text m ≡ slice_range text at next)
no_word_spelled text at next piece.Name some within no_word name =
    absurd (false≢true (sym no_word ∙ all_at_place is_word_byte text at next at (omega arith) some within name.goes_on))
no_word_spelled text at next (piece.Number n) some within no_word number =
    absurd (false≢true (sym no_word ∙ word_from_digit (get_or text at 0) (all_at_place is_digit text at next at (omega arith) some within number.digits)))
no_word_spelled text at next (piece.Keyword k) some within no_word same =
    absurd (false≢true (sym no_word ∙ all_at_place is_word_byte text at next at (omega arith) some within (subst (λ (bs : List ℕ). list_all is_word_byte bs ≡ true) same (keyword_words k))))
no_word_spelled text at next (piece.Mark m) some within no_word same = (m, same)

mark_no_word : (text : List ℕ) (at next : ℕ) (m : Mark) → at < next → mark_text m ≡ slice_range text at next → is_word_byte (slice_index text at) ≡ false
mark_no_word text at next m some same =
    ap is_word_byte (sym (first_byte text at next some)) ∙ sym (ap (λ (bs : List ℕ). is_word_byte (get_or bs 0 0)) same) ∙ mark_begins m

pub mark_stands : (text : List ℕ) (at next : ℕ) (m : Mark) → (OpensLine text at → ⊥) → (OpensBlock text at → ⊥) → IsLongestMark text m at next → Stands text (piece.Mark m) at next
mark_stands text at next m no_line no_block longest = record {
  some = longest.some;
  within = longest.within;
  no_line = no_line;
  no_block = no_block;
  spelled = longest.spelled;
  longest = λ other longer past within s.
      let no_word = mark_no_word text at next m longest.some longest.spelled in
      let mark = no_word_spelled text at longer other (omega (arith, longest.some)) within no_word s in
      longest.longest mark.0 longer past within mark.1;
  followed = tt;
}

no_digit_here : (b : ℕ) → is_word_byte b ≡ false → is_digit b ≡ false
no_digit_here b no_word = grind (arith, nat_tests)

pub byte_is_bad : (text : List ℕ) (at : ℕ) → at < length text → is_blank (slice_index text at) ≡ false → is_word_byte (slice_index text at) ≡ false → (OpensLine text at → ⊥) → (OpensBlock text at → ⊥) → NoMark text at
    → IsBadByte text at
byte_is_bad text at within no_blank no_word no_line no_block none = record {
  within = within;
  no_blank = no_blank;
  no_line = no_line;
  no_block = no_block;
  no_digit = no_digit_here (slice_index text at) no_word;
  no_piece = λ p next stands. let mark = no_word_spelled text at next p stands.some stands.within no_word stands.spelled in none mark.0 next stands.within mark.1;
}
