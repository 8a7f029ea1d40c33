-- What a run tells is what is due.
use Rattle.std.proofs.Common.{◌≡◌, ℕ, Bool, true, false, if◌then◌else◌, ◌++◌, Result, Ok, Err, IfOk, List, [], refl, sym, subst, ap, ◌∙◌}
use Rattle.nest_syntax.specs.declared.names.NoMemory.{NoMemory}
use Rattle.nest_syntax.specs.Outcome.{Ending, Done, TrappedAt, ending}
use Rattle.nest_mean.specs.Nest.{Nest, CanRun}
use Rattle.nest_mean.specs.Outcomes.{outcome, as_outcome}
use Rattle.nest_runtime.specs.Jobs.{RunsJob, RunsAlone, RunsStrict, RefusesStep}
use Rattle.nest_report.specs.Steps.{steps_text}
use Rattle.progress_board.specs.declared.facts.Facts.{Facts}
use Rattle.progress_board.specs.declared.options.Options.{Options}
use Rattle.cross_words.specs.declared.call.Call.{Call}
use Rattle.cross_top.specs.declared.status.Status.{Status}
use Rattle.cross_top.specs.Answers.{Answer, is_summary, ended, told, told_steps, AnswersRun, AnswersAlone, AnswersThreads, job_of, step_refused, AnswersSteps, ran, not_enabled}

-- a job that can be run has the sizes of its program
own_sizes : (job : Nest) → CanRun job → job ≡ job_of job.program job.opening.words
own_sizes job can = λ i. record { program = job.program; opening = record { sizes = can.sizes i; words = job.opening.words } }

own_job : (job : Nest) (options : Options) (history : List ℕ) (facts : Facts) → RunsJob job options history facts → job ≡ job_of job.program job.opening.words
own_job job options history facts runs = own_sizes job runs.can

-- what a call answers with a run, from what the calls of that leave
module _ (call : Call) (Runs : Nest → List ℕ → Facts → Type 0) (is_job : (job : Nest) (history : List ℕ) (facts : Facts) → Runs job history facts → RunsJob job call.options history facts) where
  run_due : (r : Result Answer NoMemory) (job : Nest) (facts : Facts) (history : List ℕ) → Runs job history facts → (copy : Nest) → copy ≡ job → IfOk r (λ reply. reply ≡ told call copy.program facts history (outcome copy))
      → IfOk r (λ reply. AnswersRun (Runs (job_of job.program job.opening.words)) call (job_of job.program job.opening.words) reply)
  run_due (Err x) job facts history runs copy same h = tt
  run_due (Ok reply) job facts history runs copy same h =
      subst (λ (j : Nest). AnswersRun (Runs j) call j reply) (own_job job call.options history facts (is_job job history facts runs))
      (record { history = history; facts = facts; runs = runs; is = subst (λ (j : Nest). reply ≡ told call j.program facts history (outcome j)) same h })

pub alone_due : (r : Result Answer NoMemory) (job : Nest) (call : Call) (facts : Facts) (history : List ℕ) → RunsAlone job call.options [] history facts
    → (copy : Nest) → copy ≡ job → IfOk r (λ reply. reply ≡ told call copy.program facts history (outcome copy)) → IfOk r (λ reply. AnswersAlone call job.program job.opening.words reply)
alone_due r job call facts history runs copy same h = run_due call (λ j h f. RunsAlone j call.options [] h f) (λ j h f alone. alone.runs) r job facts history runs copy same h

pub threads_due : (r : Result Answer NoMemory) (job : Nest) (call : Call) (facts : Facts) (history : List ℕ) → RunsJob job call.options history facts
    → (copy : Nest) → copy ≡ job → IfOk r (λ reply. reply ≡ told call copy.program facts history (outcome copy)) → IfOk r (λ reply. AnswersThreads call job.program job.opening.words reply)
threads_due r job call facts history runs copy same h = run_due call (λ j h f. RunsJob j call.options h f) (λ j h f job. job) r job facts history runs copy same h

-- with the same steps told, the same is told of them
module _ (call : Call) (status : Status) (text history other : List ℕ) where
  abbrev ended_by : Bool → List ℕ → Answer
  ended_by summary steps = record { status = status; bytes = text ++ (if summary then [] else (if call.with_steps then steps_text steps else [])); history = if summary then [] else steps }

  by_kind : (summary : Bool) → (if summary then [] else history) ≡ (if summary then [] else other) → ended_by summary history ≡ ended_by summary other
  by_kind true same = refl
  by_kind false same = ap (ended_by false) same

  pub ended_same : told_steps call history ≡ told_steps call other → ended call status text history ≡ ended call status text other
  ended_same same = by_kind (is_summary call.action) same

-- what is answered of a run by given steps
pub steps_due : (r : Result Answer NoMemory) (job : Nest) (call : Call) (steps : List ℕ) (facts : Facts) (history : List ℕ) → RunsStrict job call.options steps history facts
    → (copy : Nest) → copy ≡ job → IfOk r (λ reply. reply ≡ told call copy.program facts history (outcome copy)) → IfOk r (λ reply. AnswersSteps call (job_of job.program job.opening.words) steps reply)
steps_due (Err x) job call steps facts history runs copy same h = tt
steps_due (Ok reply) job call steps facts history runs copy same h = ran (run_due call (λ j h f. RunsStrict j call.options steps h f) (λ j h f strict. strict.alone.runs) (Ok reply) job facts history runs copy same h)

own_refusal : (job : Nest) (options : Options) (steps : List ℕ) (n : ℕ) → RefusesStep job options steps n → job ≡ job_of job.program job.opening.words
own_refusal job options steps n refuses = own_sizes job refuses.can

-- and of a step that is refused
pub step_due : (r : Result Answer NoMemory) (job : Nest) (call : Call) (steps : List ℕ) (n : ℕ) → RefusesStep job call.options steps n → IfOk r (λ reply. reply ≡ step_refused n)
    → IfOk r (λ reply. AnswersSteps call (job_of job.program job.opening.words) steps reply)
step_due (Err x) job call steps n refuses h = tt
step_due (Ok reply) job call steps n refuses h = not_enabled n (subst (λ (j : Nest). RefusesStep j call.options steps n) (own_refusal job call.options steps n refuses) refuses) h
