-- A run of a job by an engine.
use Rattle.std.specs.Prelude.{◌≡◌, ℕ, ℤ, List}
use Rattle.nest_syntax.specs.Outcome.{Done, ending}
use Rattle.nest_mean.specs.Nest.{Nest, CanRun}
use Rattle.nest_mean.specs.Outcomes.{outcome}
use Rattle.progress_board.specs.declared.options.Options.{Options}
use Rattle.progress_board.specs.declared.options.Engine.TheVariants.{Domore}
use Rattle.progress_board.specs.declared.facts.Facts.{Facts}
use Rattle.progress_board.specs.Options.{IsInRange}
use Rattle.lone_crew.specs.declared.refused.StepRefused.{StepRefused}
use Rattle.lone_crew.specs.declared.refused.StepRefused.TheVariants.{Step, NoMemory}
use Rattle.domore_core.specs.Theorems.{facts_due}
use Rattle.nest_runtime.specs.declared.opened.Opened.{Opened}
use Rattle.nest_runtime.specs.Opened.{IsOpenedOn, IsRunFrom, IsRotationOf, AreEnabled, AreRefusedBy}

-- A machine of the options' engine is opened on a job that can be run, the steps are a complete history of it, which comes
-- to the outcome of textual order, and the facts are those of that history.
pub record RunsJob (job : Nest) (options : Options) (history : List ℕ) (facts : Facts) : Type 0 where
  pub can : CanRun job
  pub allowed : IsInRange options
  pub machine : Opened
  pub opened : IsOpenedOn job options machine
  pub run : IsRunFrom machine (outcome job) facts history

-- a run by the rotation, behind those entries of a schedule that are enabled
pub record RunsAlone (job : Nest) (options : Options) (schedule history : List ℕ) (facts : Facts) : Type 0 where
  pub runs : RunsJob job options history facts
  pub rotated : IsRotationOf runs.machine schedule history

-- a run by given steps, all of them, and then by the rotation
pub record RunsStrict (job : Nest) (options : Options) (steps history : List ℕ) (facts : Facts) : Type 0 where
  pub alone : RunsAlone job options steps history facts
  pub enabled : AreEnabled alone.runs.machine steps

-- a machine of the options' engine, opened on such a job, refuses step n, from 0, of given steps, and no step before
pub record RefusesStep (job : Nest) (options : Options) (steps : List ℕ) (n : ℕ) : Type 0 where
  pub can : CanRun job
  pub allowed : IsInRange options
  pub machine : Opened
  pub opened : IsOpenedOn job options machine
  pub refuses : AreRefusedBy machine steps (Step n)

-- what a refusal says of given steps; want of memory says nothing of them
abbrev pub RefusesSteps : Nest → Options → List ℕ → StepRefused → Type 0
RefusesSteps job options steps (Step n) = RefusesStep job options steps n
RefusesSteps job options steps NoMemory = Unit {0}

-- The facts that are due of a job that doesn't trap: they speak of no history.
abbrev pub due : Nest → Options → Facts
due job options = facts_due job options

-- The facts of a run by `domore` of a job that doesn't trap are those that are due, whatever its history.
abbrev pub FactsAreDue : Type 0
FactsAreDue = (job : Nest) (options : Options) (history : List ℕ) (facts : Facts) → RunsJob job options history facts → options.engine ≡ Domore
    → (words : List ℤ) → ending job.program job.opening.words ≡ Done words → facts ≡ due job options
