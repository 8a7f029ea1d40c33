-- What holds of each run by an engine that passes barriers speculatively.
use Rattle.std.specs.Prelude.{◌≡◌, ℕ, Some, List, take}
use Rattle.settle_law.specs.Runs.{run, IsComplete}
use Rattle.nest_mean.specs.Nest.{Nest, CanRun}
use Rattle.nest_mean.specs.Outcomes.{outcome}
use Rattle.nest_mean.specs.declared.outcomes.Outcome.{Outcome}
use Rattle.progress_board.specs.declared.options.Options.{Options}
use Rattle.progress_board.specs.declared.facts.Facts.{Facts}
use Rattle.progress_board.specs.Options.{IsInRange}
use Rattle.spec_setup.specs.Signs.{Signs, exact_signs, range_signs}
use Rattle.spec_core.specs.Engine.{Engine, Opens, step, is_finished}
use Rattle.spec_core.specs.Theorems.{EndsAs, CommitsTruly, GivesUpForCause, GivesUpOnce, GivesUpForTrap, CountsItsSteps}
use Rattle.nest_runtime.specs.declared.opened.Opened.{Opened}
use Rattle.nest_runtime.specs.declared.opened.Opened.TheVariants.{Domore, Exact, Range}
use Rattle.nest_runtime.specs.Opened.{IsRunFrom}
use Rattle.nest_runtime.specs.Jobs.{RunsJob}

-- In a complete history each commit is true: after n steps, one that comes next. Segments are given up only for a cause in
-- the nest, and once at most; the counts are those of the steps, and the end is that of textual order.
pub record Speculates {S : Type 0} (signs : Signs S) (job : Nest) (options : Options) (first : Engine S) (history : List ℕ) (last : Engine S) : Type 0 where
  pub commits : (n : ℕ) (e : Engine S) → run (step signs) first (take n history) ≡ Some e → CommitsTruly signs job first (take n history) e
  pub for_cause : GivesUpForCause signs job first history last
  pub once : GivesUpOnce signs first history
  pub for_trap : GivesUpForTrap signs job options first history
  pub counts : CountsItsSteps signs first history last
  pub ends : EndsAs job options last

-- so it is in each complete history of an opened machine
abbrev pub HistoriesSpeculate : {S : Type 0} → Signs S → Type 0
HistoriesSpeculate {S} signs = (job : Nest) (options : Options) → CanRun job → IsInRange options → (first : Engine S) → Opens signs job options first
    → (history : List ℕ) (complete : IsComplete (step signs) is_finished first history) → Speculates signs job options first history complete.last

-- and in a run, where its engine is a speculative one
abbrev pub CommitsTrulyFrom : Nest → Options → (o : Outcome) (facts : Facts) (history : List ℕ) (machine : Opened) → IsRunFrom machine o facts history → Type 0
CommitsTrulyFrom job options o facts history (Domore machine) run = Unit {0}
CommitsTrulyFrom job options o facts history (Exact machine) run = Speculates exact_signs job options machine history run.complete.last
CommitsTrulyFrom job options o facts history (Range machine) run = Speculates range_signs job options machine history run.complete.last

abbrev pub RunsCommitTruly : Type 0
RunsCommitTruly = (job : Nest) (options : Options) (history : List ℕ) (facts : Facts) (runs : RunsJob job options history facts) → CommitsTrulyFrom job options (outcome job) facts history runs.machine runs.run
