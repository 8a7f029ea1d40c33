-- Legal states, and what a driver's history says. All of it is said of any states `S` and of any `step`, which gives the
-- state behind an actor's step, or none where no row of that actor is enabled.
use Rattle.std.specs.Prelude.{◌≡◌, ℕ, Option, Some, List, ◌++◌}
use Rattle.settle_law.specs.Runs.{run}
use Rattle.nest_mean.specs.Nest.{Nest, CanRun}
use Rattle.progress_board.specs.declared.options.Options.{Options}
use Rattle.progress_board.specs.Options.{IsInRange}

-- some legal history leads from one state to another
pub record IsReached {S : Type 0} (step : S → ℕ → Option S) (from to : S) : Type 0 where
  pub history : List ℕ
  pub ran : run step from history ≡ Some to

-- A state is legal where its job can be run, its options are in their ranges, and it is reached from a state in which a
-- machine opens on its own job and options.
pub record IsLegal {S : Type 0} (job_of : S → Nest) (options_of : S → Options) (opens : Nest → Options → S → Type 0) (step : S → ℕ → Option S) (s : S) : Type 0 where
  pub runs : CanRun (job_of s)
  pub allowed : IsInRange (options_of s)
  pub first : S
  pub opened : opens (job_of s) (options_of s) first
  pub reached : IsReached step first s

-- What a driver appends to a history is exactly the list of the steps that it made, in order: a legal history from the
-- state before to the state afterwards.
pub record Agrees {S : Type 0} (step : S → ℕ → Option S) (s : S) (history : List ℕ) (t : S) (longer : List ℕ) : Type 0 where
  pub made : List ℕ
  pub appended : longer ≡ history ++ made
  pub ran : run step s made ≡ Some t
