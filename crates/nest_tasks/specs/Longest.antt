-- A measure for a machine of which only the length of its histories is bounded: the length of the longest history from here.
use Rattle.std.specs.Prelude.{◌≡◌, ℕ, zero, suc, ◌+◌, ◌≤◌, Option, Some, None, List, length, max}
use Rattle.std.specs.Option.{option_map_or}
use Rattle.settle_law.specs.Runs.{run}

-- the greatest of f over the numbers below n, 0 where there is none
abbrev pub greatest_below : ℕ → (ℕ → ℕ) → ℕ
greatest_below zero f = 0
greatest_below (suc n) f = max (greatest_below n f) (f n)

-- the length of the longest history from a state, of the actors below `actors`, up to a length of `most`
abbrev pub longest : {S : Type 0} → (S → ℕ → Option S) → (actors most : ℕ) → S → ℕ
longest step actors zero s = 0
longest step actors (suc most) s = greatest_below actors (λ actor. option_map_or (λ t. suc (longest step actors most t)) (step s actor) 0)

-- Where no history from an opening is longer than `most`, and other actors have no step, this falls at each step of a legal
-- history. And it is no more than `most`.
pub record LongestFalls (S : Type 0) (step : S → ℕ → Option S) (actors most : ℕ) (opening : S) : Type 0 where
  pub falls : (history : List ℕ) (s t : S) (actor : ℕ) → run step opening history ≡ Some s → step s actor ≡ Some t → longest step actors most t + 1 ≤ longest step actors most s
  pub within : (s : S) → longest step actors most s ≤ most

abbrev pub BoundedHistoriesFall : Type 0 → Type 0
BoundedHistoriesFall S = (step : S → ℕ → Option S) (actors most : ℕ) (opening : S)
    → ((history : List ℕ) (s : S) → run step opening history ≡ Some s → length history ≤ most)
    → ((history : List ℕ) (s : S) (actor : ℕ) → run step opening history ≡ Some s → actors ≤ actor → step s actor ≡ None)
    → LongestFalls S step actors most opening
