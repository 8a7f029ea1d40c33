-- The draws, as a list.
use Rattle.std.specs.Prelude.{ℕ, zero, suc, ◌+◌, ◌*◌, ◌/◌, ◌%◌, List, [], ◌∷◌}

-- the state behind one more draw
abbrev pub next_state : ℕ → ℕ
next_state state = (state * 1103515245 + 12345) % 2147483648

-- the draw that left this state
abbrev pub drawn : ℕ → ℕ
drawn state = state / 65536

-- so many draws from a state on
abbrev pub draws_from : ℕ → ℕ → List ℕ
draws_from state zero = []
draws_from state (suc count) = drawn (next_state state) ∷ draws_from (next_state state) count

-- the state behind so many draws; no contract of a public call needs it
abbrev pub state_behind : ℕ → ℕ → ℕ
state_behind state zero = state
state_behind state (suc count) = state_behind (next_state state) count
