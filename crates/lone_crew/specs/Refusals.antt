-- What the refusals of a strict run say.
use Rattle.std.specs.Prelude.{◌≡◌, ℕ, ◌≤◌, ◌<◌, Option, None, List, length, take, slice_index_or}
use Rattle.progress_board.specs.Rotation.{StopsIn}
use Rattle.lone_crew.specs.Turns.{Makes}
use Rattle.lone_crew.specs.declared.refused.StepRefused.{StepRefused}
use Rattle.lone_crew.specs.declared.refused.StepRefused.TheVariants.{Step, NoMemory}

-- Step n is the first of a list that isn't enabled in its turn: those before it are made, and its actor has no step.
pub record RefusesAt {S : Type 0} (step : S → ℕ → Option S) (s : S) (history steps : List ℕ) (n : ℕ) (t : S) (longer : List ℕ) : Type 0 where
  pub within : n < length steps
  pub made : Makes step s history (take n steps) t longer
  pub cannot : step t (slice_index_or steps n 0) ≡ None

-- A step is refused; or memory runs out within these looks.
abbrev pub IsRefused : {S : Type 0} (step : S → ℕ → Option S) (s : S) (history steps looks : List ℕ) (t : S) (longer : List ℕ) → StepRefused → Type 0
IsRefused step s history steps looks t longer (Step n) = RefusesAt step s history steps n t longer
IsRefused step s history steps looks t longer NoMemory = StopsIn step s history looks t longer

-- memory runs out only where a history is full
abbrev pub IsFull : ℕ → ℕ → StepRefused → Type 0
IsFull capacity count (Step n) = Unit {0}
IsFull capacity count NoMemory = capacity ≤ count
