-- A run by an engine that passes barriers speculatively is a history of it, so all that is said of these holds.
use Rattle.std.proofs.Common.{◌≡◌, ℕ, Some, List, take}
use Rattle.settle_law.specs.Runs.{run, IsComplete}
use Rattle.nest_mean.specs.Nest.{Nest, CanRun}
use Rattle.nest_mean.specs.Outcomes.{outcome}
use Rattle.nest_mean.specs.declared.outcomes.Outcome.{Outcome}
use Rattle.progress_board.specs.declared.options.Options.{Options}
use Rattle.progress_board.specs.declared.facts.Facts.{Facts}
use Rattle.progress_board.specs.Options.{IsInRange}
use Rattle.spec_setup.specs.Signs.{Signs, HoldNotes, exact_signs, range_signs}
use Rattle.spec_core.specs.Engine.{Engine, Opens, step}
use Rattle.spec_core.specs.Theorems.{IsHistory, HistoriesCommitTruly, HistoriesEndAsJob, HistoriesGiveUpForCause, HistoriesGiveUpOnce, HistoriesGiveUpForTrap, HistoriesCountSteps}
use Rattle.nest_runtime.specs.declared.opened.Opened.{Opened}
use Rattle.nest_runtime.specs.declared.opened.Opened.TheVariants.{Domore, Exact, Range}
use Rattle.nest_runtime.specs.Opened.{IsOpenedOn, IsRunFrom}
use Rattle.nest_runtime.specs.Speculation.{HistoriesSpeculate, CommitsTrulyFrom, RunsCommitTruly}

module _ {S : Type 0} (signs : Signs S) (hold : HoldNotes signs) where
  legal : (job : Nest) (options : Options) → CanRun job → IsInRange options → (first : Engine S) → Opens signs job options first → (history : List ℕ) (e : Engine S) → run (step signs) first history ≡ Some e → IsHistory signs job options first history e
  legal job options can allowed first opened history e ran = record { runs = can; allowed = allowed; opens = opened; ran = ran }

  pub histories_speculate : HistoriesCommitTruly S → HistoriesGiveUpForCause S → HistoriesGiveUpOnce S → HistoriesGiveUpForTrap S → HistoriesCountSteps S → HistoriesEndAsJob S → HistoriesSpeculate signs
  histories_speculate commit cause rise trap count end job options can allowed first opened history complete =
      let whole = legal job options can allowed first opened history complete.last complete.ran in
      record {
        commits = λ n e ran. commit signs hold job options first (take n history) e (legal job options can allowed first opened (take n history) e ran);
        for_cause = cause signs hold job options first history complete.last whole;
        once = rise signs hold job options first history complete.last whole;
        for_trap = trap signs hold job options first history complete.last whole;
        counts = count signs hold job options first history complete.last whole;
        ends = end signs hold job options first history complete.last whole complete.finished;
      }

module _ (exact : HistoriesSpeculate exact_signs) (range : HistoriesSpeculate range_signs) where
  from : (job : Nest) (options : Options) → CanRun job → IsInRange options → (o : Outcome) (facts : Facts) (history : List ℕ) (machine : Opened) → IsOpenedOn job options machine → (run : IsRunFrom machine o facts history) → CommitsTrulyFrom job options o facts history machine run
  from job options can allowed o facts history (Domore machine) opened run = tt
  from job options can allowed o facts history (Exact machine) (kind, sign, opened) run = exact job options can allowed machine opened history run.complete
  from job options can allowed o facts history (Range machine) (kind, sign, opened) run = range job options can allowed machine opened history run.complete

  pub runs_commit_truly : RunsCommitTruly
  runs_commit_truly job options history facts runs = from job options runs.can runs.allowed (outcome job) facts history runs.machine runs.opened runs.run
