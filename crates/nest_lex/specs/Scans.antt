-- What the scanners find. No caller of `lex` needs this.
use Rattle.std.specs.Prelude.{◌≡◌, ℕ, ◌<◌, ◌≤◌, Bool, true, false, List, length, slice_index, slice_range}
use Rattle.nest_lex.specs.Bytes.{is_word_byte}
use Rattle.nest_lex.specs.Spelling.{mark_text}
use Rattle.nest_lex.specs.declared.token.Keyword.{Keyword}
use Rattle.nest_lex.specs.declared.token.Keyword.TheVariants as keyword
use Rattle.nest_lex.specs.declared.token.Mark.{Mark}

-- word bytes stand from `from` up to `to`, and none at `to`
pub record IsWordEnd (text : List ℕ) (from to : ℕ) : Type 0 where
  pub ordered : from ≤ to
  pub within : to ≤ length text
  pub word : (k : ℕ) → from ≤ k → k < to → is_word_byte (slice_index text k) ≡ true
  pub ends : is_word_byte (slice_index text to) ≡ false

-- the bytes from `start` up to `next` are the mark, and no longer front of the rest is one
pub record IsLongestMark (text : List ℕ) (m : Mark) (start next : ℕ) : Type 0 where
  pub within : next ≤ length text
  pub some : start < next
  pub spelled : mark_text m ≡ slice_range text start next
  pub longest : (other : Mark) (longer : ℕ) → next < longer → longer ≤ length text → mark_text other ≡ slice_range text start longer → ⊥

-- no front of the rest is a mark
abbrev pub NoMark : List ℕ → ℕ → Type 0
NoMark text start = (other : Mark) (next : ℕ) → next ≤ length text → mark_text other ≡ slice_range text start next → ⊥

-- one of the five keywords that came in 1999
abbrev pub is_newer : Keyword → Bool
is_newer keyword.Inline = true
is_newer keyword.Restrict = true
is_newer keyword.Bool = true
is_newer keyword.Complex = true
is_newer keyword.Imaginary = true
is_newer _ = false
