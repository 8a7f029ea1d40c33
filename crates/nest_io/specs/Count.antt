-- Counts of 64 bits: how many calls were made, and how many of them failed.
use Rattle.std.specs.Prelude.{◌≡◌, ℕ, ◌+◌, ◌-◌, ◌^◌, ◌<◌, ◌⊎◌, List, min, All}

-- a count after one more: it stays at 2^64 - 1 once it is there
abbrev pub one_more : ℕ → ℕ
one_more count = min (count + 1) (2 ^ 64 - 1)

-- the count rose: it is greater than it was, or it stands at 2^64 - 1
abbrev pub HasRisen : ℕ → ℕ → Type 0
HasRisen old new = (old < new) ⊎ (new ≡ 2 ^ 64 - 1)

-- after so many calls, counted from 0, no coming call is among those that fail
abbrev pub NoneFails : List ℕ → ℕ → Type 0
NoneFails fails calls = All (λ number. number < calls) fails
