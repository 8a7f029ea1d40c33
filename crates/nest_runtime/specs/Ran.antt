-- What a run of a machine comes to. All of it is said of any states `S`, with the functions that a machine's trait names.
use Rattle.std.specs.Prelude.{◌≡◌, ℕ, Bool, ◌<◌, Option, Some, None, List, length, take, slice_index_or}
use Rattle.settle_law.specs.Runs.{run, IsComplete}
use Rattle.word_store.specs.Memory.{Memory}
use Rattle.nest_mean.specs.declared.outcomes.Outcome.{Outcome}
use Rattle.nest_mean.specs.declared.outcomes.Outcome.TheVariants as outcome
use Rattle.progress_board.specs.declared.facts.Ending.{Ending}
use Rattle.progress_board.specs.declared.facts.Ending.TheVariants.{Unfinished, Done, Trapped}
use Rattle.progress_board.specs.declared.facts.Facts.{Facts}
use Rattle.lone_crew.specs.declared.refused.StepRefused.{StepRefused}
use Rattle.lone_crew.specs.declared.refused.StepRefused.TheVariants.{Step, NoMemory}

-- the outcome that a machine tells which has ended so, with these words
abbrev pub outcome_told : Ending → Memory → Outcome
outcome_told Done words = outcome.Done words
outcome_told (Trapped place) words = outcome.Trapped place
outcome_told Unfinished words = outcome.Done words

-- A run from a state: its history is complete from there, and the outcome and the facts are those that the last state tells.
pub record IsRun {S : Type 0} (step : S → ℕ → Option S) (is_finished : S → Bool) (ending_of : S → Ending) (words_of : S → Memory) (facts_of : S → Facts) (start : S) (outcome : Outcome) (facts : Facts) (history : List ℕ) : Type 0 where
  pub complete : IsComplete step is_finished start history
  pub outcome_is : outcome ≡ outcome_told (ending_of complete.last) (words_of complete.last)
  pub facts_are : facts ≡ facts_of complete.last

-- Step n is the first of a list that isn't enabled in its turn: those before it lead to a state in which its actor has none.
pub record IsNoStep {S : Type 0} (step : S → ℕ → Option S) (start : S) (steps : List ℕ) (n : ℕ) : Type 0 where
  pub within : n < length steps
  pub stood : S
  pub ran : run step start (take n steps) ≡ Some stood
  pub cannot : step stood (slice_index_or steps n 0) ≡ None

-- what a refusal says of given steps; want of memory says nothing of them
abbrev pub IsRefusedRun : {S : Type 0} → (S → ℕ → Option S) → S → List ℕ → StepRefused → Type 0
IsRefusedRun step start steps (Step n) = IsNoStep step start steps n
IsRefusedRun step start steps NoMemory = Unit {0}
