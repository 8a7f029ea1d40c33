-- Spots of a text: lines and columns.
use Rattle.std.specs.Prelude.{ℕ, ◌+◌, List, Bool, ◌==◌, not, count_by, take}
use Rattle.std.specs.List.{suffix_len}
use Rattle.nest_lex.specs.declared.token.Spot.{Spot}

-- a line feed
abbrev pub is_line_feed : ℕ → Bool
is_line_feed b = b == 10

-- The line is one more than the line feeds in front, the column one more than the bytes behind the last of them.
abbrev pub spot_of : List ℕ → ℕ → Spot
spot_of text at = record { line = count_by is_line_feed (take at text) + 1; column = suffix_len (λ b. not (is_line_feed b)) (take at text) + 1 }
