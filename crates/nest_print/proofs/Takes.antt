-- A token of each sort, taken from the front of what is left of a text.
use Rattle.std.proofs.Common.{◌≡◌, ℕ, suc, ◌+◌, ◌≤◌, ◌⊎◌, Bool, true, false, not, cond, ◌&&◌, ◌||◌, ◌==◌, List, [], ◌∷◌, ◌++◌, length, get_or, refl, sym, ap, subst, ◌∙◌, inl, inr, arith}
use Rattle.std.specs.List.{list_all, list_any, position_or_len}
use Rattle.std.specs.Fmt.{decimal}
use Rattle.std.specs.Str.{bytes_eq}
use Rattle.std.proofs.lemmas.Bool.{false≢true}
use Rattle.std.proofs.lemmas.Slice.Eq.{bytes_eq-Decides}
use Rattle.nest_lex.specs.Bytes.{is_digit, is_word_byte}
use Rattle.nest_lex.specs.Scans.{IsLongestMark}
use Rattle.nest_lex.specs.Spelling.{keyword_text, mark_text, IsName, IsNumber}
use Rattle.nest_lex.specs.declared.piece.Piece.TheVariants as piece
use Rattle.nest_lex.specs.declared.token.Keyword.{Keyword}
use Rattle.nest_lex.specs.declared.token.Mark.{Mark}
use Rattle.nest_lex.specs.declared.token.Kind.TheVariants as kind
use Rattle.nest_lex.specs.declared.token.Token.{Token}
use Rattle.nest_lex.proofs.Ranges.{length-range, first_byte, letter_no_digit, word_from_digit}
use Rattle.nest_lex.proofs.Tables.{keyword_words, keyword_some, mark_some}
use Rattle.nest_lex.proofs.Words.{name_stands, number_stands, keyword_stands}
use Rattle.nest_lex.proofs.Marks.{longest_here, mark_stands}
use Rattle.nest_print.proofs.Digits.{is_number}
use Rattle.nest_print.proofs.Joined.{joins, lone, no_longer_mark, no_lone}
use Rattle.nest_print.proofs.Left.{Left, Took, byte, byte_here, inside, behind, range, word_end, first_word, front_byte, taken}

behind_first : (x : List ℕ) (xs : List (List ℕ)) (n : ℕ) → get_or (x ∷ xs) (1 + n) [] ≡ get_or xs n []
behind_first x xs n = let e : 1 + n ≡ suc n = omega arith in ap (λ k. get_or (x ∷ xs) k []) e

-- the bytes of a known name stand at its place
pub place_is : (bytes : List ℕ) (names : List (List ℕ)) → list_any (bytes_eq bytes) names ≡ true → get_or names (position_or_len (bytes_eq bytes) names) [] ≡ bytes
place_is bytes [] some = absurd (false≢true some)
place_is bytes (x ∷ xs) some = by (bytes_eq bytes x) refl (place_is bytes xs)
  where
    by : (b : Bool) → bytes_eq bytes x ≡ b → (list_any (bytes_eq bytes) xs ≡ true → get_or xs (position_or_len (bytes_eq bytes) xs) [] ≡ bytes)
        → get_or (x ∷ xs) (position_or_len (bytes_eq bytes) (x ∷ xs)) [] ≡ bytes
    by true e rest = ap (λ b. get_or (x ∷ xs) (cond (not b) (1 + position_or_len (bytes_eq bytes) xs) 0) []) e ∙ sym ((bytes_eq-Decides bytes x).0 e)
    by false e rest = ap (λ b. get_or (x ∷ xs) (cond (not b) (1 + position_or_len (bytes_eq bytes) xs) 0) []) e ∙ behind_first x xs (position_or_len (bytes_eq bytes) xs) ∙ rest (sym (ap (λ b. b || list_any (bytes_eq bytes) xs) e) ∙ some)

-- two bytes that open a comment
abbrev pub opens : List ℕ → Bool
opens (x ∷ y ∷ more) = x == 47 && (y == 47 || y == 42)
opens _ = false

opens_comment : (bytes : List ℕ) → opens bytes ≡ false → get_or bytes 0 0 ≡ 47 → (get_or bytes 1 0 ≡ 47) ⊎ (get_or bytes 1 0 ≡ 42) → ⊥
opens_comment [] plain a b = omega arith
opens_comment (x ∷ []) plain a (inl b) = omega arith
opens_comment (x ∷ []) plain a (inr b) = omega arith
opens_comment (x ∷ y ∷ more) plain a (inl b) = absurd (false≢true (sym plain ∙ ap (λ u. u == 47 && (y == 47 || y == 42)) a ∙ ap (λ v. v == 47 || v == 42) b))
opens_comment (x ∷ y ∷ more) plain a (inr b) = absurd (false≢true (sym plain ∙ ap (λ u. u == 47 && (y == 47 || y == 42)) a ∙ ap (λ v. v == 47 || v == 42) b))

pub name_some : (bytes : List ℕ) → IsName bytes → 1 ≤ length bytes
name_some [] name = absurd (false≢true name.begins)
name_some (b ∷ bytes) name = omega arith

digits_words : (bytes : List ℕ) → list_all is_digit bytes ≡ true → list_all is_word_byte bytes ≡ true
digits_words [] all = refl
digits_words (b ∷ bytes) all = by (is_digit b) refl (digits_words bytes)
  where
    by : (d : Bool) → is_digit b ≡ d → (list_all is_digit bytes ≡ true → list_all is_word_byte bytes ≡ true) → list_all is_word_byte (b ∷ bytes) ≡ true
    by true e rest = ap (λ c. c && list_all is_word_byte bytes) (word_from_digit b e) ∙ rest (sym (ap (λ c. c && list_all is_digit bytes) e) ∙ all)
    by false e rest = absurd (false≢true (sym (ap (λ c. c && list_all is_digit bytes) e) ∙ all))

-- the number of a name
abbrev pub place : List (List ℕ) → List ℕ → ℕ
place names bytes = position_or_len (bytes_eq bytes) names

-- a name is taken, whose number is that of its bytes
pub record Took_name (text : List ℕ) (names : List (List ℕ)) (bytes : List ℕ) (tokens : List Token) (rest : List ℕ) : Type 0 where
  pub is : get_or names (place names bytes) [] ≡ bytes
  pub took : Took text names (kind.Name (place names bytes)) tokens rest

module _ {text : List ℕ} {names : List (List ℕ)} where
  pub take_name : (bytes : List ℕ) {tokens : List Token} {rest : List ℕ} → IsName bytes → is_word_byte (get_or rest 0 0) ≡ false → Left text names tokens (bytes ++ rest) → Took_name text names bytes tokens rest
  take_name bytes {tokens} {rest} name ends left =
      let some = name_some bytes name in
      let end = word_end text left.at bytes rest left.here some name.goes_on ends in
      let letter = ap is_digit (front_byte text left.at bytes rest left.here some) ∙ letter_no_digit (get_or bytes 0 0) name.begins in
      let stands = name_stands text left.at (left.at + length bytes) end (first_word text left.at bytes rest left.here some name.goes_on) letter
      (λ k same. name.no_keyword k (same ∙ range text left.at bytes rest left.here)) in
      let t = taken piece.Name bytes left some stands in
      record { is = place_is bytes names t.1; took = t.0 }

  pub take_number : (n : ℕ) {tokens : List Token} {rest : List ℕ} → n ≤ 9223372036854775807 → is_word_byte (get_or rest 0 0) ≡ false → Left text names tokens (decimal n ++ rest) → Took text names (kind.Number n) tokens rest
  take_number n {tokens} {rest} small ends left =
      let number = is_number n small in
      let words = digits_words (decimal n) number.digits in
      let end = word_end text left.at (decimal n) rest left.here number.some words ends in
      let stands = number_stands text left.at (left.at + length (decimal n)) n end (first_word text left.at (decimal n) rest left.here number.some words)
      (subst (λ bs. IsNumber bs n) (sym (range text left.at (decimal n) rest left.here)) number) in
      (taken (piece.Number n) (decimal n) left number.some stands).0

  pub take_keyword : (k : Keyword) {tokens : List Token} {rest : List ℕ} → is_word_byte (get_or rest 0 0) ≡ false → Left text names tokens (keyword_text k ++ rest) → Took text names (kind.Keyword k) tokens rest
  take_keyword k {tokens} {rest} ends left =
      let end = word_end text left.at (keyword_text k) rest left.here (keyword_some k) (keyword_words k) ends in
      let stands = keyword_stands text left.at (left.at + length (keyword_text k)) k end (first_word text left.at (keyword_text k) rest left.here (keyword_some k) (keyword_words k))
      (sym (range text left.at (keyword_text k) rest left.here)) in
      (taken (piece.Keyword k) (keyword_text k) left (keyword_some k) stands).0

  -- a mark, and behind it a byte with which no mark goes on
  pub take_mark : (m : Mark) (b : ℕ) {tokens : List Token} {rest : List ℕ} → joins b ≡ false → opens (mark_text m ++ b ∷ rest) ≡ false → Left text names tokens (mark_text m ++ b ∷ rest) → Took text names (kind.Mark m) tokens (b ∷ rest)
  take_mark m b {tokens} {rest} apart plain left =
      let some = mark_some m in
      let is = range text left.at (mark_text m) (b ∷ rest) left.here in
      let in_text = inside text left.at (mark_text m) (b ∷ rest) left.here some in
      let next = sym (byte_here text (left.at + length (mark_text m)) (b ∷ rest) (behind text left.at (mark_text m) (b ∷ rest) left.here)) in
      let longest = longest_here text left.at (left.at + length (mark_text m)) b m (omega arith) (omega (arith, in_text.1)) (sym is) next (no_longer_mark m b apart some) in
      let zero = byte_here text left.at (mark_text m ++ b ∷ rest) left.here in
      let one = byte text left.at (mark_text m ++ b ∷ rest) left.here 1 in
      let stands = mark_stands text left.at (left.at + length (mark_text m)) m
      (λ opened. opens_comment (mark_text m ++ b ∷ rest) plain (sym zero ∙ opened.0) (inl (sym one ∙ opened.1)))
      (λ opened. opens_comment (mark_text m ++ b ∷ rest) plain (sym zero ∙ opened.0) (inr (sym one ∙ opened.1))) longest in
      (taken (piece.Mark m) (mark_text m) left some stands).0

  -- a mark with which no longer one begins
  pub take_lone : (m : Mark) {tokens : List Token} {rest : List ℕ} → lone (get_or (mark_text m) 0 0) ≡ true → Left text names tokens (mark_text m ++ rest) → Took text names (kind.Mark m) tokens rest
  take_lone m {tokens} {rest} alone left =
      let some = mark_some m in
      let is = range text left.at (mark_text m) rest left.here in
      let in_text = inside text left.at (mark_text m) rest left.here some in
      let front = front_byte text left.at (mark_text m) rest left.here some in
      let longest : IsLongestMark text m left.at (left.at + length (mark_text m)) = record {
        within = omega (arith, in_text.1);
        some = omega arith;
        spelled = sym is;
        longest = λ other longer past within same.
            let long = ap length same ∙ length-range text left.at longer within in
            let begins = ap (λ (bs : List ℕ). get_or bs 0 0) same ∙ first_byte text left.at longer (omega arith) ∙ front in
            no_lone other (omega arith) (ap lone begins ∙ alone);
      } in
      let no_slash = λ (slash : get_or text left.at 0 ≡ 47). false≢true (sym (ap lone (sym front ∙ slash)) ∙ alone) in
      let stands = mark_stands text left.at (left.at + length (mark_text m)) m (λ opened. absurd (no_slash opened.0)) (λ opened. absurd (no_slash opened.0)) longest in
      (taken (piece.Mark m) (mark_text m) left some stands).0
