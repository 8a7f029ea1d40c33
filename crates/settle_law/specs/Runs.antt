-- Runs: a history is a list of actors, each of whom makes one step. All of it is said of any states `S` and of any `step`,
-- which gives the state behind an actor's step, or none where the actor has none.
use Rattle.std.specs.Prelude.{◌≡◌, ℕ, Bool, true, Option, Some, List, [], ◌∷◌}
use Rattle.std.specs.Option.{option_and_then}

-- The state behind all steps of a history, in order; none where one of them isn't enabled. A history is legal from a
-- state where this is some state.
abbrev pub run : {S : Type 0} → (S → ℕ → Option S) → S → List ℕ → Option S
run step s [] = Some s
run step s (actor ∷ history) = option_and_then (λ t. run step t history) (step s actor)

-- a history is complete from a state where it is legal and ends in a finished state
pub record IsComplete {S : Type 0} (step : S → ℕ → Option S) (is_finished : S → Bool) (s : S) (history : List ℕ) : Type 0 where
  pub last : S
  pub ran : run step s history ≡ Some last
  pub finished : is_finished last ≡ true
