-- The value of a word.
use Rattle.std.specs.Prelude.{ℕ, ℤ, pos, neg_ℤ, ◌==◌, if◌then◌else◌, Option, None, List, [], ◌∷◌}
use Rattle.std.specs.Option.{option_map}
use Rattle.nest_lex.specs.Spelling.{number_within}

-- The value of a word: an optional `-` and decimal digits, at least one, in the range of 64 bits with their sign.
-- There may be zeros in front.
abbrev pub value_of : List ℕ → Option ℤ
value_of [] = None
value_of (b ∷ bytes) = if b == 45 then option_map (λ n. neg_ℤ (pos n)) (number_within 9223372036854775808 bytes) else option_map (λ n. pos n) (number_within 9223372036854775807 (b ∷ bytes))
