-- A run of a job ends with the outcome of textual order, and by `domore` with the facts that are due.
use Rattle.std.proofs.Common.{◌≡◌, ℕ, ℤ, Result, Ok, Err, IfOk, IfErr, List, ⊎_elim, refl, sym, subst, ap, ◌∙◌}
use Rattle.nest_syntax.specs.Outcome.{Ending, Done, TrappedAt, ending}
use Rattle.nest_mean.specs.Nest.{Nest, CanRun}
use Rattle.nest_mean.specs.Outcomes.{outcome, as_outcome}
use Rattle.nest_mean.specs.declared.outcomes.Outcome.{Outcome}
use Rattle.word_store.specs.Memory.{Memory}
use Rattle.progress_board.specs.declared.options.Options.{Options}
use Rattle.progress_board.specs.declared.options.Engine.{Engine as Choice}
use Rattle.progress_board.specs.declared.options.Engine.TheVariants as engine
use Rattle.progress_board.specs.declared.facts.Facts.{Facts}
use Rattle.progress_board.specs.declared.facts.Ending.{Ending as Ended}
use Rattle.progress_board.specs.Options.{IsInRange}
use Rattle.domore_core.specs.Engine.{Engine as Lone}
use Rattle.domore_core.specs.Engine as domore
use Rattle.domore_core.specs.Theorems as domore_law
use Rattle.spec_setup.specs.Signs.{Signs, exact_signs, range_signs}
use Rattle.spec_core.specs.Engine as spec
use Rattle.spec_core.specs.Theorems as spec_law
use Rattle.lone_crew.specs.declared.refused.StepRefused.{StepRefused}
use Rattle.lone_crew.specs.declared.refused.StepRefused.TheVariants.{Step, NoMemory}
use Rattle.nest_runtime.specs.declared.ran.Ran.{Ran}
use Rattle.nest_runtime.specs.declared.opened.Opened.{Opened}
use Rattle.nest_runtime.specs.declared.opened.Opened.TheVariants.{Domore, Exact, Range}
use Rattle.nest_runtime.specs.Ran.{outcome_told, IsRun}
use Rattle.nest_runtime.specs.Opened.{IsSpeculative, IsOpenedOn, IsRunFrom, IsRotationOf, AreEnabled, AreRefusedBy, RunsEndAsJob}
use Rattle.nest_runtime.specs.Jobs.{RunsJob, RunsAlone, RunsStrict, RefusesSteps, FactsAreDue}
use Rattle.nest_runtime.specs.Speculation.{HistoriesSpeculate}

-- what a finished engine tells: final words
told_words : (over : Ended) (memory : Memory) (sizes : List ℕ) (words : List ℤ) → over ≡ Ended.Done → memory ≡ record { sizes = sizes; words = words } → outcome_told over memory ≡ as_outcome sizes (Done words)
told_words over memory sizes words over_is final = ap (λ (x : Ended). outcome_told x memory) over_is ∙ ap (λ (m : Memory). outcome_told Ended.Done m) final

told_outcome : (job : Nest) (facts : Facts) (e : Lone) → e.job ≡ job → (end : Ending) → domore_law.Tells facts e end → outcome_told (domore.ending_of e) (domore.words_of e) ≡ as_outcome job.opening.sizes end
told_outcome job facts e same (Done words) (over, final, counts) = told_words (domore.ending_of e) (domore.words_of e) e.job.opening.sizes words over final ∙ ap (λ (j : Nest). as_outcome j.opening.sizes (Done words)) same
told_outcome job facts e same (TrappedAt place) trap = ap (λ (x : Ended). outcome_told x (domore.words_of e)) trap

told_speculatively : {S : Type 0} (job : Nest) (e : spec.Engine S) → e.job ≡ job → (end : Ending) → spec_law.Tells e end → outcome_told (spec.ending_of e) (spec.words_of e) ≡ as_outcome job.opening.sizes end
told_speculatively job e same (Done words) (over, final) = told_words (spec.ending_of e) (spec.words_of e) e.job.opening.sizes words over final ∙ ap (λ (j : Nest). as_outcome j.opening.sizes (Done words)) same
told_speculatively job e same (TrappedAt place) trap = ap (λ (x : Ended). outcome_told x (spec.words_of e)) trap

spec_ends : {S : Type 0} (signs : Signs S) → HistoriesSpeculate signs → (job : Nest) (options : Options) → CanRun job → IsInRange options → (first : spec.Engine S) → spec.Opens signs job options first → (o : Outcome) (facts : Facts) (history : List ℕ)
    → IsRun (spec.step signs) spec.is_finished spec.ending_of spec.words_of spec.facts_of first o facts history → o ≡ outcome job
spec_ends signs histories job options can allowed first opened o facts history run =
    let due = (histories job options can allowed first opened history run.complete).ends in
    run.outcome_is ∙ told_speculatively job run.complete.last due.same_job (ending job.program job.opening.words) due.tells

-- no engine is of both kinds
not_speculative : (kind : Choice) → kind ≡ engine.Domore → IsSpeculative kind → ⊥
not_speculative kind is = ⊎_elim (λ other. let same : engine.Speccross ≡ engine.Domore = sym other ∙ is in cc) (λ other. let same : engine.Barrier ≡ engine.Domore = sym other ∙ is in cc)

module _ (ends : domore_law.HistoriesEndAsJob) where
  ends_as : (job : Nest) (options : Options) → CanRun job → IsInRange options → (first : Lone) → domore.Opens job options first → (o : Outcome) (facts : Facts) (history : List ℕ)
      (run : IsRun domore.step domore.is_finished domore.ending_of domore.words_of domore.facts_of first o facts history) → domore_law.EndsAs job options run.complete.last
  ends_as job options can allowed first opened o facts history run = ends job options can allowed first opened history run.complete

  pub runs_end_as_job : HistoriesSpeculate exact_signs → HistoriesSpeculate range_signs → RunsEndAsJob
  runs_end_as_job exact range job options can allowed (Domore machine) (kind, opened) o facts history run =
      let due = ends_as job options can allowed machine opened o facts history run in
      run.outcome_is ∙ told_outcome job (domore_law.facts_due job options) run.complete.last due.same (ending job.program job.opening.words) due.tells
  runs_end_as_job exact range job options can allowed (Exact machine) (kind, sign, opened) o facts history run = spec_ends exact_signs exact job options can allowed machine opened o facts history run
  runs_end_as_job exact range job options can allowed (Range machine) (kind, sign, opened) o facts history run = spec_ends range_signs range job options can allowed machine opened o facts history run

  due_of : (job : Nest) (options : Options) → CanRun job → IsInRange options → options.engine ≡ engine.Domore → (words : List ℤ) → ending job.program job.opening.words ≡ Done words
      → (machine : Opened) → IsOpenedOn job options machine → (o : Outcome) (facts : Facts) (history : List ℕ) → IsRunFrom machine o facts history → facts ≡ domore_law.facts_due job options
  due_of job options can allowed is words done (Domore machine) (kind, opened) o facts history run =
      run.facts_are ∙ (subst (domore_law.Tells (domore_law.facts_due job options) run.complete.last) done (ends_as job options can allowed machine opened o facts history run).tells).2
  due_of job options can allowed is words done (Exact machine) (kind, sign, opened) o facts history run = absurd (not_speculative options.engine is kind)
  due_of job options can allowed is words done (Range machine) (kind, sign, opened) o facts history run = absurd (not_speculative options.engine is kind)

  pub facts_are_due : FactsAreDue
  facts_are_due job options history facts runs is words done = due_of job options runs.can runs.allowed is words done runs.machine runs.opened (outcome job) facts history runs.run

-- what is known of a run from a machine that was opened on a job, where memory lasted
module _ (ends : RunsEndAsJob) (job : Nest) (options : Options) (can : CanRun job) (allowed : IsInRange options) (machine : Opened) (opened : IsOpenedOn job options machine) where
  pub outcomes_are : {E : Type 0} (r : Result Ran E) → IfOk r (λ ran. IsRunFrom machine ran.outcome ran.facts ran.history.items) → IfOk r (λ ran. ran.outcome ≡ outcome job)
  outcomes_are (Err e) run = tt
  outcomes_are (Ok ran) run = ends job options can allowed machine opened ran.outcome ran.facts ran.history.items run

  abbrev pub runs_job : (ran : Ran) → IsRunFrom machine ran.outcome ran.facts ran.history.items → RunsJob job options ran.history.items ran.facts
  runs_job ran run = record {
    can = can;
    allowed = allowed;
    machine = machine;
    opened = opened;
    run = subst (λ (o : Outcome). IsRunFrom machine o ran.facts ran.history.items) (ends job options can allowed machine opened ran.outcome ran.facts ran.history.items run) run;
  }

  pub all_run_job : {E : Type 0} (r : Result Ran E) → IfOk r (λ ran. IsRunFrom machine ran.outcome ran.facts ran.history.items) → IfOk r (λ ran. RunsJob job options ran.history.items ran.facts)
  all_run_job (Err e) run = tt
  all_run_job (Ok ran) run = runs_job ran run

  pub all_run_alone : {E : Type 0} (r : Result Ran E) (schedule : List ℕ) → IfOk r (λ ran. IsRunFrom machine ran.outcome ran.facts ran.history.items) → IfOk r (λ ran. IsRotationOf machine schedule ran.history.items)
      → IfOk r (λ ran. RunsAlone job options schedule ran.history.items ran.facts)
  all_run_alone (Err e) schedule run rotated = tt
  all_run_alone (Ok ran) schedule run rotated = record { runs = runs_job ran run; rotated = rotated }

  pub all_run_strictly : {E : Type 0} (r : Result Ran E) (steps : List ℕ) → IfOk r (λ ran. IsRunFrom machine ran.outcome ran.facts ran.history.items) → IfOk r (λ ran. AreEnabled machine steps) → IfOk r (λ ran. IsRotationOf machine steps ran.history.items)
      → IfOk r (λ ran. RunsStrict job options steps ran.history.items ran.facts)
  all_run_strictly (Err e) steps run enabled rotated = tt
  all_run_strictly (Ok ran) steps run enabled rotated = record { alone = record { runs = runs_job ran run; rotated = rotated }; enabled = enabled }

  pub refused_strictly : {A : Type 0} (r : Result A StepRefused) (steps : List ℕ) → IfErr r (AreRefusedBy machine steps) → IfErr r (RefusesSteps job options steps)
  refused_strictly (Ok ran) steps refused = tt
  refused_strictly (Err (Step n)) steps refused = record { can = can; allowed = allowed; machine = machine; opened = opened; refuses = refused }
  refused_strictly (Err NoMemory) steps refused = tt
