-- What stands at a place of a text: a gap, or a piece.
use Rattle.std.specs.Prelude.{◌≡◌, ℕ, ◌+◌, ◌<◌, ◌≤◌, ◌⊎◌, true, false, List, [], ◌∷◌, length, slice_index, slice_range}
use Rattle.nest_lex.specs.Bytes.{is_word_byte, is_blank}
use Rattle.nest_lex.specs.Spelling.{Spells}
use Rattle.nest_lex.specs.declared.piece.Piece.{Piece}
use Rattle.nest_lex.specs.declared.piece.Piece.TheVariants as piece

-- the text has `//` at this place
abbrev pub OpensLine : List ℕ → ℕ → Type 0
OpensLine text at = (slice_index text at ≡ 47) × (slice_index text (at + 1) ≡ 47)

-- the text has `/*` at this place
abbrev pub OpensBlock : List ℕ → ℕ → Type 0
OpensBlock text at = (slice_index text at ≡ 47) × (slice_index text (at + 1) ≡ 42)

-- the text has `*/` at this place
abbrev pub ClosesBlock : List ℕ → ℕ → Type 0
ClosesBlock text at = (slice_index text at ≡ 42) × (slice_index text (at + 1) ≡ 47)

-- from `from` on, `to` is the first line feed or the end
pub record IsLineEnd (text : List ℕ) (from to : ℕ) : Type 0 where
  pub ordered : from ≤ to
  pub within : to ≤ length text
  pub none_before : (k : ℕ) → from ≤ k → k < to → slice_index text k ≡ 10 → ⊥
  pub ends : to < length text → slice_index text to ≡ 10

-- from `from` on, the first `*/` ends at `to`
pub record IsBlockEnd (text : List ℕ) (from to : ℕ) : Type 0 where
  pub ordered : from + 2 ≤ to
  pub within : to ≤ length text
  pub closes : (k : ℕ) → k + 2 ≡ to → ClosesBlock text k
  pub none_before : (k : ℕ) → from ≤ k → k + 2 < to → ClosesBlock text k → ⊥

-- one gap: a blank, a comment to before the end of its line, or one to its `*/`
abbrev pub IsGap : List ℕ → ℕ → ℕ → Type 0
IsGap text at to = ((is_blank (slice_index text at) ≡ true) × (to ≡ at + 1))
    ⊎ ((OpensLine text at × IsLineEnd text (at + 2) to) ⊎ (OpensBlock text at × IsBlockEnd text (at + 2) to))

-- gaps one after another, with their ends, lead from `at` to `stop`
abbrev pub Gaps : List ℕ → ℕ → List ℕ → ℕ → Type 0
Gaps text at [] stop = stop ≡ at
Gaps text at (to ∷ ends) stop = IsGap text at to × Gaps text to ends stop

-- behind this piece no word byte may stand; behind another one it may
abbrev pub MayBeFollowed : Piece → ℕ → Type 0
MayBeFollowed (piece.Number n) byte = is_word_byte byte ≡ false
MayBeFollowed _ byte = Unit {0}

-- The bytes from `start` up to `next` spell the piece, and no longer front of the rest spells any. A comment comes
-- before the mark `/`.
pub record Stands (text : List ℕ) (p : Piece) (start next : ℕ) : Type 0 where
  pub some : start < next
  pub within : next ≤ length text
  pub no_line : OpensLine text start → ⊥
  pub no_block : OpensBlock text start → ⊥
  pub spelled : Spells p (slice_range text start next)
  pub longest : (other : Piece) (longer : ℕ) → next < longer → longer ≤ length text → Spells other (slice_range text start longer) → ⊥
  pub followed : MayBeFollowed p (slice_index text next)
