-- The histories of the engine are those of the abstract machine, so they keep what its setup keeps of the job's nest.
use Rattle.std.proofs.Common.{◌≡◌, ℕ, true, Option, None, Some, List, [], refl, sym, subst, ap, ◌∙◌}
use Rattle.std.specs.Option.{option_map_or}
use Rattle.std.proofs.lemmas.Bool.{cond-true, lt-ltb}
use Rattle.nest_syntax.specs.declared.place.Place.{Place}
use Rattle.nest_syntax.specs.Outcome.{Done, TrappedAt}
use Rattle.nest_mean.specs.Nest.{Nest, CanRun}
use Rattle.settle_law.specs.Runs.{run}
use Rattle.progress_board.specs.declared.options.Options.{Options}
use Rattle.progress_board.specs.declared.facts.Ending.TheVariants as told
use Rattle.progress_board.specs.Options.{IsInRange}
use Rattle.spec_machine.specs.Machine as machine
use Rattle.spec_machine.specs.Runs.{trace_from, rows_from, rollbacks_from}
use Rattle.spec_machine.specs.Table.{In}
use Rattle.spec_machine.specs.Theorems.{Leads, IsTrueCommit, CausedBy, IsTrapOf, Rises, AreCounted}
use Rattle.spec_machine.proofs.Runs.{counts}
use Rattle.spec_setup.specs.Signs.{Signs, HoldNotes}
use Rattle.spec_core.specs.Engine.{Engine, Stand, IsOpened, setup_in, nest_in, is_finished, ending_at}
use Rattle.spec_core.specs.Laws.{led, keeps, KeepsJob}
use Rattle.spec_core.specs.Theorems.{IsHistory, Tells, start_of, claims_due, words_due, EndsAs, CommitsTruly, GivesUpForCause, GivesUpOnce, GivesUpForTrap, CountsItsSteps, HistoriesCommitTruly, HistoriesEndAsJob, HistoriesGiveUpForCause, HistoriesGiveUpOnce, HistoriesGiveUpForTrap, HistoriesCountSteps}
use Rattle.spec_core.proofs.Claimed.{are_held}

module _ {S : Type 0} (signs : Signs S) (holds : HoldNotes signs) where
  -- It is enough to show a law of the engine's own job and options, in the state that the abstract machine leaves.
  each : (Law : Nest → Options → Engine S → List ℕ → Engine S → Type 0)
      → ((first : Engine S) → IsOpened signs first → CanRun first.job → IsInRange first.options → (history : List ℕ) (s : Stand S) → run (machine.step (setup_in signs first)) first.state history ≡ Some s → Law first.job first.options first history (record first { state = s }))
      → (job : Nest) (options : Options) (first : Engine S) (history : List ℕ) (e : Engine S) → IsHistory signs job options first history e → Law job options first history e
  each Law own job options first history e is =
      let way = led signs history first e is.ran in
      let can : CanRun first.job = subst CanRun (sym is.opens.same_job) is.runs in
      let allowed : IsInRange first.options = subst IsInRange (sym is.opens.same_options) is.allowed in
      subst (λ (j : Nest). Law j options first history e) is.opens.same_job
      (subst (λ (o : Options). Law first.job o first history e) is.opens.same_options
      (subst (Law first.job first.options first history) (sym way.new) (own first is.opens.opened can allowed history way.state way.leads)))

  module _ (first : Engine S) (opened : IsOpened signs first) (can : CanRun first.job) (allowed : IsInRange first.options) (history : List ℕ) (s : Stand S) (ran : run (machine.step (setup_in signs first)) first.state history ≡ Some s) where
    abbrev now : Engine S
    now = record first { state = s }

    leads : Leads (setup_in signs first) (nest_in first.job) (start_of first) history s
    leads = ap (λ (t : Stand S). run (machine.step (setup_in signs first)) t history) (sym opened.at_opening) ∙ ran

    kept : KeepsJob signs first
    kept = keeps signs holds first opened can allowed

    commits : CommitsTruly signs first.job first history now
    commits = record { commits = λ actor is. subst (λ (t : Stand S). IsTrueCommit (setup_in signs first) (nest_in first.job) s (trace_from (setup_in signs first) t [] history)) (sym opened.at_opening) (kept.commits history s actor leads is) }

    told_is : is_finished now ≡ true → (trap early : Option Place) → s.trap ≡ trap → s.early ≡ early → Tells now (option_map_or TrappedAt trap (option_map_or TrappedAt early (Done s.words)))
    told_is over (Some place) early trapped stopped = cond-true (is_finished now) (ending_at s.trap s.early) told.Unfinished over ∙ ap (λ t. ending_at t s.early) trapped
    told_is over None (Some place) trapped stopped = cond-true (is_finished now) (ending_at s.trap s.early) told.Unfinished over ∙ ap (λ t. ending_at t s.early) trapped ∙ ap (ending_at None) stopped
    told_is over None None trapped stopped = (cond-true (is_finished now) (ending_at s.trap s.early) told.Unfinished over ∙ ap (λ t. ending_at t s.early) trapped ∙ ap (ending_at None) stopped, refl)

    ends : is_finished now ≡ true → EndsAs first.job first.options now
    ends over = record { same_job = refl; same_options = refl; tells = subst (Tells now) (kept.ends history (record { last = s; ran = leads; finished = over })) (told_is over s.trap s.early refl refl) }

    rises : GivesUpOnce signs first history
    rises = record { rises = subst (λ (t : Stand S). Rises 0 (rollbacks_from (setup_in signs first) t history)) (sym opened.at_opening) (kept.once history s leads) }

    gives_up : GivesUpForCause signs first.job first history now
    gives_up = record {
      kept = λ cause is. kept.aborts history s cause leads is;
      caused = λ rollback. subst (λ (t : Stand S). In rollback (rollbacks_from (setup_in signs first) t history) → CausedBy (setup_in signs first) (nest_in first.job) (start_of first) (claims_due first.job) (words_due first.job) rollback.segment rollback.cause) (sym opened.at_opening)
          (kept.causes (claims_due first.job) (words_due first.job) (are_held signs first can) history s rollback leads);
    }

    below : GivesUpForTrap signs first.job first.options first history
    below = record {
      traps = λ far rollback. subst (λ (t : Stand S). In rollback (rollbacks_from (setup_in signs first) t history) → IsTrapOf (setup_in signs first) (nest_in first.job) (start_of first) rollback.segment rollback.cause) (sym opened.at_opening)
          (kept.below_least (claims_due first.job) (words_due first.job) (are_held signs first can) (λ k w is. lt-ltb w (words_due first.job) ((are_held signs first can).inside k w is)) far history s rollback leads);
    }

    counted : CountsItsSteps signs first history now
    counted = record { counted = subst (λ (t : Stand S). AreCounted s.facts (rows_from (setup_in signs first) t history) (rollbacks_from (setup_in signs first) t history)) (sym opened.at_opening) (counts _ _ _ _ (setup_in signs first) (nest_in first.job) (start_of first) history s leads) }

pub commit_truly : (S : Type 0) → HistoriesCommitTruly S
commit_truly S signs holds = each signs holds (λ job options first history e. CommitsTruly signs job first history e) (commits signs holds)

pub end_as_job : (S : Type 0) → HistoriesEndAsJob S
end_as_job S signs holds = each signs holds (λ job options first history e. is_finished e ≡ true → EndsAs job options e) (ends signs holds)

pub give_up_for_cause : (S : Type 0) → HistoriesGiveUpForCause S
give_up_for_cause S signs holds = each signs holds (λ job options first history e. GivesUpForCause signs job first history e) (gives_up signs holds)

pub give_up_once : (S : Type 0) → HistoriesGiveUpOnce S
give_up_once S signs holds = each signs holds (λ job options first history e. GivesUpOnce signs first history) (rises signs holds)

pub give_up_for_trap : (S : Type 0) → HistoriesGiveUpForTrap S
give_up_for_trap S signs holds = each signs holds (λ job options first history e. GivesUpForTrap signs job options first history) (below signs holds)

pub count_steps : (S : Type 0) → HistoriesCountSteps S
count_steps S signs holds = each signs holds (λ job options first history e. CountsItsSteps signs first history e) (counted signs holds)
