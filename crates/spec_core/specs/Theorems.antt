-- What is claimed of every history of an opened engine, whatever the order of the actors in it, for any job, any options in
-- their ranges, and any kind of signature that holds what it noted.
use Rattle.std.specs.Prelude.{◌≡◌, ℕ, ◌+◌, ◌<◌, true, Some, List, [], sum}
use Rattle.nest_syntax.specs.Arrays.{arrays_of, sizes_of}
use Rattle.nest_syntax.specs.Outcome.{Ending, Done, TrappedAt, ending}
use Rattle.nest_mean.specs.Nest.{Nest, CanRun}
use Rattle.settle_law.specs.Claims.{Claims}
use Rattle.settle_law.specs.Traces.{Access}
use Rattle.settle_law.specs.Runs.{run}
use Rattle.addr_slice.specs.Claims.{by_word}
use Rattle.addr_slice.specs.Slice.{claims_of}
use Rattle.sched_cursor.specs.Cursor.{Cursor}
use Rattle.sched_cursor.specs.Laws.{restarted}
use Rattle.progress_board.specs.declared.options.Options.{Options}
use Rattle.progress_board.specs.declared.facts.Ending.TheVariants as told
use Rattle.progress_board.specs.Options.{IsInRange}
use Rattle.nest_setup.specs.Setups.{claims_numbered}
use Rattle.spec_machine.specs.Facts.{Pair, Abort, Rollback}
use Rattle.spec_machine.specs.Machine.{DoCommit}
use Rattle.spec_machine.specs.Rows.{Row}
use Rattle.spec_machine.specs.Runs.{trace_from, rows_from, rollbacks_from}
use Rattle.spec_machine.specs.Segments.{IsBlamed}
use Rattle.spec_machine.specs.Table.{In}
use Rattle.spec_machine.specs.Theorems.{IsTrueCommit, CausedBy, IsTrapOf, Rises, AreCounted}
use Rattle.spec_machine.specs.Theorems as machine
use Rattle.spec_setup.specs.Signs.{Signs, HoldNotes}
use Rattle.spec_core.specs.Engine.{Engine, Opens, setup_in, nest_in, far_of, move_of, step, is_finished, ending_of, words_of}

-- the claims of iteration k of a job, and how many words its arrays have
abbrev pub claims_due : Nest → ℕ → Claims
claims_due job k = by_word (claims_numbered job.program job.opening.words (claims_of job.program job.opening.words) k)

abbrev pub words_due : Nest → ℕ
words_due job = sum (sizes_of (arrays_of job.program.decls))

-- where the cursor of an opened engine starts
abbrev pub start_of : {S : Type 0} → Engine S → Cursor
start_of first = restarted first.job.program first.state.cursor

-- A state tells an outcome: the final words, or the trap. The facts are those of its history.
abbrev pub Tells : {S : Type 0} → Engine S → Ending → Type 0
Tells e (Done words) = (ending_of e ≡ told.Done) × (words_of e ≡ record { sizes = e.job.opening.sizes; words = words })
Tells e (TrappedAt place) = ending_of e ≡ told.Trapped place

-- A state of the job and the options tells the outcome of the job in textual order.
pub record EndsAs {S : Type 0} (job : Nest) (options : Options) (e : Engine S) : Type 0 where
  pub same_job : e.job ≡ job
  pub same_options : e.options ≡ options
  pub tells : Tells e (ending job.program job.opening.words)

module _ {S : Type 0} (signs : Signs S) where
  -- A legal history, of an engine opened for a job that can be run with options in their ranges, leads to a state.
  pub record IsHistory (job : Nest) (options : Options) (first : Engine S) (history : List ℕ) (e : Engine S) : Type 0 where
    pub runs : CanRun job
    pub allowed : IsInRange options
    pub opens : Opens signs job options first
    pub ran : run (step signs) first history ≡ Some e

  -- What its machine does in a history: the accesses to written arrays since the last commit or restore, the rows, and
  -- the rollbacks.
  abbrev pub trace_of : Engine S → List ℕ → List Access
  trace_of first history = trace_from (setup_in signs first) first.state [] history

  abbrev pub rows_of : Engine S → List ℕ → List Row
  rows_of first history = rows_from (setup_in signs first) first.state history

  abbrev pub rollbacks_of : Engine S → List ℕ → List Rollback
  rollbacks_of first history = rollbacks_from (setup_in signs first) first.state history

  -- A commit that comes next is true: the words are those of textual order when as many iterations are finished, each
  -- iteration of the open epochs made the accesses that it makes there, and no unordered pair has overlapping signatures.
  pub record CommitsTruly (job : Nest) (first : Engine S) (history : List ℕ) (e : Engine S) : Type 0 where
    pub commits : (actor : ℕ) → move_of signs e actor ≡ Some DoCommit → IsTrueCommit (setup_in signs first) (nest_in job) e.state (trace_of first history)

  -- A segment is given up only for a cause in the nest. A cause that is kept says what it is: signatures of an unordered
  -- pair that overlap, first in that array, or a trap at a distance above 0. The pair of an overlap is to blame by the
  -- claims of its iterations. A trap comes only where the outcome traps in that segment, or two of its tasks clash within
  -- the set distance.
  pub record GivesUpForCause (job : Nest) (first : Engine S) (history : List ℕ) (e : Engine S) : Type 0 where
    pub kept : (cause : Abort) → e.state.abort ≡ Some cause → machine.Tells (setup_in signs first) e.state cause
    pub caused : (rollback : Rollback) → In rollback (rollbacks_of first history) → CausedBy (setup_in signs first) (nest_in job) (start_of first) (claims_due job) (words_due job) rollback.segment rollback.cause

  -- A segment is given up once at most: the segments of the rollbacks rise.
  pub record GivesUpOnce (first : Engine S) (history : List ℕ) : Type 0 where
    pub rises : Rises 0 (rollbacks_of first history)

  -- Where each two tasks whose hulls overlap are further apart than the set distance, no segment is given up for an
  -- overlap, and for a trap the one alone in which the outcome traps.
  pub record GivesUpForTrap (job : Nest) (options : Options) (first : Engine S) (history : List ℕ) : Type 0 where
    pub traps : ((distance segment : ℕ) (p : Pair) → IsBlamed (setup_in signs first) (nest_in job) (start_of first) (claims_due job) (words_due job) distance segment p → p.early.epoch + far_of options < p.late.epoch)
        → (rollback : Rollback) → In rollback (rollbacks_of first history) → IsTrapOf (setup_in signs first) (nest_in job) (start_of first) rollback.segment rollback.cause

  -- The counts are those of the history: its commits, the checker's steps, its rollbacks and the first 64 of these.
  pub record CountsItsSteps (first : Engine S) (history : List ℕ) (e : Engine S) : Type 0 where
    pub counted : AreCounted e.state.facts (rows_of first history) (rollbacks_of first history)

-- So it is for each history.
abbrev pub EachHistory : (S : Type 0) → (Signs S → Nest → Options → Engine S → List ℕ → Engine S → Type 0) → Type 0
EachHistory S Law = (signs : Signs S) → HoldNotes signs → (job : Nest) (options : Options) (first : Engine S) (history : List ℕ) (e : Engine S) → IsHistory signs job options first history e → Law signs job options first history e

abbrev pub HistoriesCommitTruly : Type 0 → Type 0
HistoriesCommitTruly S = EachHistory S (λ signs job options first history e. CommitsTruly signs job first history e)

-- each complete history ends as the job does
abbrev pub HistoriesEndAsJob : Type 0 → Type 0
HistoriesEndAsJob S = EachHistory S (λ signs job options first history e. is_finished e ≡ true → EndsAs job options e)

abbrev pub HistoriesGiveUpForCause : Type 0 → Type 0
HistoriesGiveUpForCause S = EachHistory S (λ signs job options first history e. GivesUpForCause signs job first history e)

abbrev pub HistoriesGiveUpOnce : Type 0 → Type 0
HistoriesGiveUpOnce S = EachHistory S (λ signs job options first history e. GivesUpOnce signs first history)

abbrev pub HistoriesGiveUpForTrap : Type 0 → Type 0
HistoriesGiveUpForTrap S = EachHistory S (λ signs job options first history e. GivesUpForTrap signs job options first history)

abbrev pub HistoriesCountSteps : Type 0 → Type 0
HistoriesCountSteps S = EachHistory S (λ signs job options first history e. CountsItsSteps signs first history e)
