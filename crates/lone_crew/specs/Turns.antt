-- How a driver goes from one state and history to another.
use Rattle.std.specs.Prelude.{◌≡◌, ℕ, ◌≤◌, Bool, true, false, Option, Some, None, List, [], ◌∷◌, ◌++◌}
use Rattle.settle_law.specs.Runs.{run}
use Rattle.progress_board.specs.Rotation.{rounds, GoesOn}

module _ {S : Type 0} (step : S → ℕ → Option S) where
  -- by a look at an actor, which makes its step or has none
  abbrev pub Looked : (s : S) (history : List ℕ) (actor : ℕ) (t : S) (longer : List ℕ) → Bool → Type 0
  Looked s history actor t longer true = (step s actor ≡ Some t) × (longer ≡ history ++ actor ∷ [])
  Looked s history actor t longer false = (step s actor ≡ None) × (t ≡ s) × (longer ≡ history)

  -- by the steps of a list, each of which is enabled in its turn
  pub record Makes (s : S) (history steps : List ℕ) (t : S) (longer : List ℕ) : Type 0 where
    pub appended : longer ≡ history ++ steps
    pub ran : run step s steps ≡ Some t

  -- by so many rounds of the actors below n, no more than the measure allows, to where no actor has a step
  pub record Rotates (measure : S → ℕ) (n : ℕ) (s : S) (history : List ℕ) (t : S) (longer : List ℕ) : Type 0 where
    pub count : ℕ
    pub goes : GoesOn step s history (rounds n count) t longer
    pub few : count ≤ measure s
    pub stopped : (actor : ℕ) → step t actor ≡ None
