-- The histories of the engine are those of the abstract machine, so they end as the job and keep order.
use Rattle.std.proofs.Common.{◌≡◌, ℕ, true, ℤ, List, Option, None, Some, refl, sym, subst, ap, ◌∙◌}
use Rattle.std.specs.Option.{option_map_or}
use Rattle.std.proofs.lemmas.Bool.{cond-true}
use Rattle.nest_syntax.specs.declared.place.Place.{Place}
use Rattle.nest_syntax.specs.Outcome.{Done, TrappedAt, ending}
use Rattle.nest_mean.specs.Nest.{Nest, CanRun}
use Rattle.settle_law.specs.Courses.{outcome}
use Rattle.settle_law.specs.Runs.{run}
use Rattle.progress_board.specs.declared.options.Options.{Options}
use Rattle.progress_board.specs.declared.facts.Ending.TheVariants as told
use Rattle.progress_board.specs.Options.{IsInRange}
use Rattle.domore_machine.specs.Facts as facts
use Rattle.domore_machine.specs.Machine as machine
use Rattle.domore_machine.specs.Runs as runs
use Rattle.domore_machine.specs.Runs.{trace_from}
use Rattle.domore_machine.specs.Theorems.{KeepsOrder, Leads}
use Rattle.sched_cursor.specs.Laws.{restarted}
use Rattle.domore_core.specs.Engine.{Engine, Stand, Opens, IsOpened, setup_in, nest_in, step, is_finished, ending_at, words_of}
use Rattle.domore_core.specs.Reports.{report_of}
use Rattle.domore_core.specs.Laws.{led, keeps}
use Rattle.domore_core.specs.Theorems.{EndsAs, Tells, facts_due, waits_due, HistoriesEndAsJob, HistoriesKeepOrder}

module _ (first : Engine) (opened : IsOpened first) (can : CanRun first.job) (allowed : IsInRange first.options) (history : List ℕ) (s : Stand) (leads : run (machine.step (setup_in first)) first.state history ≡ Some s) where
  abbrev now : Engine
  now = record first { state = s }

  from_opening : Leads (setup_in first) (nest_in first.job) (restarted first.job.program first.state.cursor) history s
  from_opening = ap (λ (t : Stand). run (machine.step (setup_in first)) t history) (sym opened.at_opening) ∙ leads

  order_kept : KeepsOrder first.job.opening.words (trace_from (setup_in first) first.state history) s.words
  order_kept = subst (λ (t : Stand). KeepsOrder first.job.opening.words (trace_from (setup_in first) t history) s.words) (sym opened.at_opening) ((keeps first opened can allowed).order history s from_opening)

  module _ (finished : runs.is_finished (setup_in first) s ≡ true) where
    ends : runs.ending_of s ≡ outcome (nest_in first.job)
    ends = (keeps first opened can allowed).ends history (record { last = s; ran = from_opening; finished = finished })

    counts : (words : List ℤ) → outcome (nest_in first.job) ≡ Done words → s.facts ≡ facts.facts_of (machine.waits (setup_in first)) (nest_in first.job)
    counts words done = (keeps first opened can allowed).facts history (record { last = s; ran = from_opening; finished = finished }) words done

    told_is : (trap : Option Place) → s.trap ≡ trap → Tells (facts_due first.job first.options) now (option_map_or TrappedAt trap (Done s.words))
    told_is (Some place) is = cond-true (is_finished now) (ending_at s.trap) told.Unfinished finished ∙ ap ending_at is
    told_is None is = (
      cond-true (is_finished now) (ending_at s.trap) told.Unfinished finished ∙ ap ending_at is,
      refl,
      ap (report_of first.options) (counts s.words (sym ends ∙ ap (λ t. option_map_or TrappedAt t (Done s.words)) is)),
    )

    told_ending : Tells (facts_due first.job first.options) now (ending first.job.program first.job.opening.words)
    told_ending = subst (Tells (facts_due first.job first.options) now) ends (told_is s.trap refl)

pub ends_as_job : HistoriesEndAsJob
ends_as_job job options can allowed first opens history complete =
    let way = led history first complete.last complete.ran in
    let can_too : CanRun first.job = subst CanRun (sym opens.same_job) can in
    let allowed_too : IsInRange first.options = subst IsInRange (sym opens.same_options) allowed in
    let ended : EndsAs first.job first.options complete.last = subst (EndsAs first.job first.options) (sym way.new) (record { same = refl; tells = told_ending first opens.opened can_too allowed_too history way.state way.leads (subst (λ (e : Engine). is_finished e ≡ true) way.new complete.finished) }) in
    subst (λ (j : Nest). EndsAs j options complete.last) opens.same_job (subst (λ (o : Options). EndsAs first.job o complete.last) opens.same_options ended)

pub keeps_job_order : HistoriesKeepOrder
keeps_job_order job options can allowed first opens history e ran =
    let way = led history first e ran in
    let can_too : CanRun first.job = subst CanRun (sym opens.same_job) can in
    let allowed_too : IsInRange first.options = subst IsInRange (sym opens.same_options) allowed in
    subst (λ (j : Nest). KeepsOrder j.opening.words (trace_from (setup_in first) first.state history) (words_of e).words) opens.same_job
    (subst (λ (f : Engine). KeepsOrder first.job.opening.words (trace_from (setup_in first) first.state history) f.state.words) (sym way.new) (order_kept first opens.opened can_too allowed_too history way.state way.leads))
