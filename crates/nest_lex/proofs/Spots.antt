-- Bounds on lines and columns.
use Rattle.std.proofs.Common.{ℕ, ◌+◌, ◌≤◌, not, List, length, take, arith}
use Rattle.std.proofs.lemmas.List.Sums.{suffix_len-le-length, count_by-le-length}
use Rattle.std.proofs.lemmas.Grind.{common_steps}
use Rattle.nest_lex.specs.Spots.{spot_of, is_line_feed}

front_short : (text : List ℕ) (at : ℕ) → length (take at text) ≤ length text
front_short text at = grind (arith, common_steps)

pub line_small : (text : List ℕ) (at : ℕ) → (spot_of text at).line ≤ length text + 1
line_small text at = omega (arith, front_short text at, count_by-le-length is_line_feed (take at text))

pub column_small : (text : List ℕ) (at : ℕ) → (spot_of text at).column ≤ length text + 1
column_small text at = omega (arith, front_short text at, suffix_len-le-length (λ b. not (is_line_feed b)) (take at text))
