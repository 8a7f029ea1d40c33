-- The shapes of words.
use Rattle.std.proofs.Common.{◌≡◌, ◌+◌, ◌||◌, ◌==◌, ℕ, suc, Bool, true, false, not, cond, [], ◌∷◌, ◌++◌, Some, None, take, drop, refl, sym, ap, ◌∙◌, arith}
use Rattle.std.specs.List.{before_first, after_first, position_or_len}
use Rattle.std.specs.Prelude.{if◌then◌else◌}
use Rattle.std.proofs.lemmas.Bool.{eqb-true, true≢false}
use Rattle.clap.specs.Lexer.{has_byte, name_and_value}
use Rattle.clap.specs.Walk.{Text}
use Rattle.word_texts.specs.Spelling.{is_plain}
use Rattle.word_texts.specs.Command.{is_usual}

-- a word begins with no hyphen, or with two and something behind them
pub data Usual (word : Text) : Type 0 where
  plain : is_plain word ≡ true → Usual word
  dashes : (b : ℕ) (rest : Text) → word ≡ 45 ∷ 45 ∷ b ∷ rest → Usual word

both_dashes : (a b c : ℕ) (rest : Text) (first second : Bool) → (a == 45) ≡ first → (b == 45) ≡ second → (not first || second) ≡ true → Usual (a ∷ b ∷ c ∷ rest)
both_dashes a b c rest false second e f u = plain (ap not e)
both_dashes a b c rest true true e f u = dashes c rest (ap (λ (x : ℕ). x ∷ b ∷ c ∷ rest) (eqb-true a 45 e) ∙ ap (λ (x : ℕ). 45 ∷ x ∷ c ∷ rest) (eqb-true b 45 f))
both_dashes a b c rest true false e f u = absurd (true≢false (sym u))

pub usual : (word : Text) → is_usual word ≡ true → Usual word
usual [] u = plain refl
usual (a ∷ []) u = plain u
usual (a ∷ b ∷ []) u = plain u
usual (a ∷ b ∷ c ∷ rest) u = both_dashes a b c rest (a == 45) (b == 45) refl refl u

abbrev is_equals : ℕ → Bool
is_equals x = x == 61

first_at : (b : Bool) (x : ℕ) (text : Text) → is_equals x ≡ b → position_or_len is_equals (x ∷ text) ≡ cond (not b) (1 + position_or_len is_equals text) 0
first_at b x text e = ap (λ (t : Bool). cond (not t) (1 + position_or_len is_equals text) 0) e

-- what stands before and behind the first `=` make the text
rejoined : (text : Text) → has_byte 61 text ≡ true → text ≡ before_first is_equals text ++ 61 ∷ after_first is_equals text
rejoined [] has = absurd (true≢false (sym has))
rejoined (x ∷ text) has = chosen (rejoined text) (is_equals x) refl
  where
    chosen : (has_byte 61 text ≡ true → text ≡ before_first is_equals text ++ 61 ∷ after_first is_equals text) → (b : Bool) → is_equals x ≡ b → x ∷ text ≡ before_first is_equals (x ∷ text) ++ 61 ∷ after_first is_equals (x ∷ text)
    chosen rest true e =
        let here = first_at true x text e in
        ap (λ (y : ℕ). y ∷ text) (eqb-true x 61 e) ∙ sym (ap (λ (n : ℕ). take n (x ∷ text) ++ 61 ∷ drop (n + 1) (x ∷ text)) here)
    chosen rest false e =
        let more = first_at false x text e in
        let next : position_or_len is_equals (x ∷ text) ≡ suc (position_or_len is_equals text) = omega (arith, more) in
        let skip : suc (position_or_len is_equals text) + 1 ≡ suc (position_or_len is_equals text + 1) = omega arith in
        ap (λ (ys : Text). x ∷ ys) (rest (sym (ap (λ (b : Bool). b || has_byte 61 text) e) ∙ has))
        ∙ sym (ap (λ (n : ℕ). take n (x ∷ text) ++ 61 ∷ drop (n + 1) (x ∷ text)) next ∙ ap (λ (n : ℕ). (x ∷ take (position_or_len is_equals text) text) ++ 61 ∷ drop n (x ∷ text)) skip)

-- without `=` all of it stands before
unjoined : (text : Text) → has_byte 61 text ≡ false → before_first is_equals text ≡ text
unjoined [] none = refl
unjoined (x ∷ text) none = chosen (unjoined text) (is_equals x) refl
  where
    chosen : (has_byte 61 text ≡ false → before_first is_equals text ≡ text) → (b : Bool) → is_equals x ≡ b → before_first is_equals (x ∷ text) ≡ x ∷ text
    chosen rest true e = let bad : true ≡ false = sym (ap (λ (b : Bool). b || has_byte 61 text) e) ∙ none in absurd (true≢false bad)
    chosen rest false e =
        let more = first_at false x text e in
        let next : position_or_len is_equals (x ∷ text) ≡ suc (position_or_len is_equals text) = omega (arith, more) in
        ap (λ (n : ℕ). take n (x ∷ text)) next ∙ ap (λ (ys : Text). x ∷ ys) (rest (sym (ap (λ (b : Bool). b || has_byte 61 text) e) ∙ none))

-- an option's word is a name, or a name and a text behind `=`
pub data Cut (text : Text) : Type 0 where
  joined : (name value : Text) → text ≡ name ++ 61 ∷ value → name_and_value text ≡ (name, Some value) → Cut text
  apart : name_and_value text ≡ (text, None) → Cut text

pub cut : (text : Text) → Cut text
cut text = chosen (has_byte 61 text) refl
  where
    chosen : (b : Bool) → has_byte 61 text ≡ b → Cut text
    chosen true e = joined (before_first is_equals text) (after_first is_equals text) (rejoined text e) (ap (λ (b : Bool). (before_first is_equals text, if b then Some (after_first is_equals text) else None)) e)
    chosen false e = apart (ap (λ (b : Bool). (before_first is_equals text, if b then Some (after_first is_equals text) else None)) e ∙ ap (λ (t : Text). (t, None)) (unjoined text e))
