-- The turns of a loop that was entered: its low bound, its step, the count of its turns, and how many were passed.
use Rattle.std.specs.Prelude.{ℕ, ◌+◌, ◌<◌, ℤ, Bool, FitsSigned, nat_lt}
use Rattle.std.specs.Int.{w64}
use Rattle.nest_syntax.specs.Words.{variable}

pub record Turning : Type 0 where
  pub low : ℤ
  pub step : ℕ
  pub trips : ℕ
  pub turn : ℕ

-- the variable is a word in each turn
abbrev pub Reaches : ℤ → ℕ → ℕ → Type 0
Reaches low step trips = (k : ℕ) → k < trips → FitsSigned w64 (variable low step k)

-- before the first turn
abbrev pub begun : ℤ → ℕ → ℕ → Turning
begun low step trips = record { low = low; step = step; trips = trips; turn = 0 }

abbrev pub has_turn : Turning → Bool
has_turn t = nat_lt t.turn t.trips

-- the variable in the next turn
abbrev pub variable_of : Turning → ℤ
variable_of t = variable t.low t.step t.turn

abbrev pub one_passed : Turning → Turning
one_passed t = record t { turn = t.turn + 1 }

abbrev pub all_passed : Turning → Turning
all_passed t = record t { turn = t.trips }
