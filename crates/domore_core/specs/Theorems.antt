-- What is claimed of every history of an opened engine, whatever the order of the actors in it, for any job and any options
-- in their ranges.
use Rattle.std.specs.Prelude.{◌≡◌, ℕ, Some, List}
use Rattle.nest_syntax.specs.Outcome.{Ending, Done, TrappedAt, ending}
use Rattle.nest_mean.specs.Nest.{Nest, CanRun}
use Rattle.settle_law.specs.Runs.{run, IsComplete}
use Rattle.addr_slice.specs.Claims.{clashes}
use Rattle.progress_board.specs.declared.options.Options.{Options}
use Rattle.progress_board.specs.declared.facts.Facts.{Facts}
use Rattle.progress_board.specs.declared.facts.Ending.TheVariants as told
use Rattle.progress_board.specs.Options.{IsInRange}
use Rattle.domore_machine.specs.Waits.{Wait, waits_of}
use Rattle.domore_machine.specs.Facts.{facts_of}
use Rattle.domore_machine.specs.Runs.{trace_from}
use Rattle.domore_machine.specs.Theorems.{KeepsOrder}
use Rattle.nest_setup.specs.Setups.{claims_numbered}
use Rattle.domore_core.specs.Claims.{claims_of}
use Rattle.domore_core.specs.Engine.{Engine, Opens, setup_in, nest_in, step, is_finished, ending_of, words_of}
use Rattle.domore_core.specs.Engine as engine
use Rattle.domore_core.specs.Reports.{report_of}

-- the waits of the iterations of a job, by their claims
abbrev pub waits_due : Nest → Options → ℕ → List Wait
waits_due job options = waits_of (clashes (claims_numbered job.program job.opening.words (claims_of job.program job.opening.words))) options.workers

-- The facts that are due of a job that doesn't trap: those of the events of its nest in textual order, with the waits
-- that the claims of its iterations give. They speak of no history.
abbrev pub facts_due : Nest → Options → Facts
facts_due job options = report_of options (facts_of (waits_due job options) (nest_in job))

-- A state tells an outcome: the final words with these facts, or the trap.
abbrev pub Tells : Facts → Engine → Ending → Type 0
Tells facts e (Done words) = (ending_of e ≡ told.Done) × (words_of e ≡ record { sizes = e.job.opening.sizes; words = words }) × (engine.facts_of e ≡ facts)
Tells facts e (TrappedAt place) = ending_of e ≡ told.Trapped place

-- Each complete history ends in a state of the job, that tells its outcome in textual order with the facts that are due.
pub record EndsAs (job : Nest) (options : Options) (e : Engine) : Type 0 where
  pub same : e.job ≡ job
  pub tells : Tells (facts_due job options) e (ending job.program job.opening.words)

abbrev pub HistoriesEndAsJob : Type 0
HistoriesEndAsJob = (job : Nest) (options : Options) → CanRun job → IsInRange options → (first : Engine) → Opens job options first → (history : List ℕ) (complete : IsComplete step is_finished first history) → EndsAs job options complete.last

-- Each legal history leaves a trace that keeps order, to the words of the state.
abbrev pub HistoriesKeepOrder : Type 0
HistoriesKeepOrder = (job : Nest) (options : Options) → CanRun job → IsInRange options → (first : Engine) → Opens job options first → (history : List ℕ) (e : Engine) → run step first history ≡ Some e
    → KeepsOrder job.opening.words (trace_from (setup_in first) first.state history) (words_of e).words
