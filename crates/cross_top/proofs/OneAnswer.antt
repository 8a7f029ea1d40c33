-- An input has one answer, as it says one thing.
use Rattle.std.proofs.Common.{◌≡◌, ℕ, ℤ, Bool, true, false, Result, Ok, Err, List, inl, inr, refl, sym, ap, subst, ◌∙◌, arith}
use Rattle.nest_syntax.specs.Outcome.{Ending, Done, TrappedAt, ending}
use Rattle.nest_mean.specs.Nest.{Nest}
use Rattle.nest_mean.specs.Outcomes.{outcome, as_outcome}
use Rattle.nest_mean.specs.declared.outcomes.Outcome.{Outcome}
use Rattle.nest_mean.specs.declared.outcomes.Outcome.TheVariants as outcomes
use Rattle.progress_board.specs.declared.facts.Facts.{Facts}
use Rattle.progress_board.specs.declared.options.Engine.{Engine}
use Rattle.progress_board.specs.declared.options.Engine.TheVariants.{Domore, Speccross, Barrier}
use Rattle.nest_profile.specs.Least.{OneLeast}
use Rattle.nest_report.specs.Text.{trap_line}
use Rattle.nest_runtime.specs.Jobs.{RunsJob, FactsAreDue}
use Rattle.cross_top.specs.declared.status.Status.TheVariants as status
use Rattle.nest_syntax.specs.declared.tree.Program.{Program}
use Rattle.word_store.specs.Memory.{Memory}
use Rattle.nest_input.specs.declared.refused.Refusal.{Refusal}
use Rattle.nest_input.specs.Input.{SaysNest, SaysWords, SaysSteps}
use Rattle.cross_words.specs.declared.call.Action.{Action}
use Rattle.cross_words.specs.declared.call.Action.TheVariants.{Plain, Check, Deps, Alone, Replay, Profile, Gen, Big, Run}
use Rattle.cross_words.specs.declared.call.Call.{Call}
use Rattle.cross_top.proofs.Textual.{ended_same}
use Rattle.cross_top.specs.Answers.{Answer, ended, told, told_steps, done_text, job_of, AnswersRun, AnswersPlain, AnswersAlone, AnswersThreads, AnswersWords, AnswersData, AnswersProgram, AnswersNest, AnswersInput, too_long, a_text, AnswersCall, is_gen, runs_engine, AreOne, OneAnswer, AnswersSteps, ran, not_enabled, AnswersActors, AnswersReplay, AnswersProfile, profile_answer, RefuseSameStep, AgreeApart}

-- a run of a call tells its steps
steps_told : (call : Call) (program : Program) (facts : Facts) (history : List ℕ) (o : Outcome) → (told call program facts history o).history ≡ told_steps call history
steps_told call program facts history (outcomes.Done memory) = refl
steps_told call program facts history (outcomes.Trapped place) = refl

-- with the same steps told, it tells the same
told_same : (call : Call) (program : Program) (facts : Facts) (history other : List ℕ) → told_steps call history ≡ told_steps call other → (o : Outcome) → told call program facts history o ≡ told call program facts other o
told_same call program facts history other steps (outcomes.Done memory) = ended_same call status.Done (done_text call program memory facts) history other steps
told_same call program facts history other steps (outcomes.Trapped place) = ended_same call status.Trapped (trap_line place) history other steps

-- with the same steps, a run by an action has one answer
module _ (due : FactsAreDue) (action : Action) (runs_one : runs_engine action ≡ true) (Runs : List ℕ → Facts → Type 0) (call : Call) (job : Nest) (runs_job : (history : List ℕ) (facts : Facts) → Runs history facts → RunsJob job call.options history facts) where
  module _ (answer other : Answer) (facts others : Facts) (history : List ℕ) where
    by_engine : (memory : Memory) → answer ≡ told call job.program facts history (outcomes.Done memory) → other ≡ told call job.program others history (outcomes.Done memory)
        → (call.options.engine ≡ Domore → facts ≡ others) → (engine : Engine) → call.options.engine ≡ engine → AreOne action call answer other
    by_engine memory is is' same Domore engine = inl (is ∙ ap (λ (f : Facts). told call job.program f history (outcomes.Done memory)) (same engine) ∙ sym is')
    by_engine memory is is' same Speccross engine = inr (runs_one, inl engine, record { program = job.program; memory = memory; history = history; facts = facts; others = others; is = is; other_is = is' })
    by_engine memory is is' same Barrier engine = inr (runs_one, inr engine, record { program = job.program; memory = memory; history = history; facts = facts; others = others; is = is; other_is = is' })

    by_ending : (e : Ending) → answer ≡ told call job.program facts history (as_outcome job.opening.sizes e) → other ≡ told call job.program others history (as_outcome job.opening.sizes e)
        → ((words : List ℤ) → e ≡ Done words → call.options.engine ≡ Domore → facts ≡ others) → AreOne action call answer other
    by_ending (Done words) is is' same = by_engine (record { sizes = job.opening.sizes; words = words }) is is' (same words refl) call.options.engine refl
    by_ending (TrappedAt place) is is' same = inl (is ∙ sym is')

  one_run : (answer other : Answer) → answer.history ≡ other.history → AnswersRun Runs call job answer → AnswersRun Runs call job other → AreOne action call answer other
  one_run answer other steps first second =
      let before = steps_told call job.program first.facts first.history (outcome job) in
      let behind = steps_told call job.program second.facts second.history (outcome job) in
      let same : told_steps call second.history ≡ told_steps call first.history = sym behind ∙ sym (ap (λ (a : Answer). a.history) second.is) ∙ sym steps ∙ ap (λ (a : Answer). a.history) first.is ∙ before in
      by_ending answer other first.facts second.facts first.history (ending job.program job.opening.words) first.is (second.is ∙ told_same call job.program second.facts second.history first.history same (outcome job))
      (λ words done domore. due job call.options first.history first.facts (runs_job first.history first.facts first.runs) domore words done ∙ sym (due job call.options second.history second.facts (runs_job second.history second.facts second.runs) domore words done))

-- to each list of words there is one answer, with the same steps
abbrev IsOne : Action → Call → (List ℤ → Answer → Type 0) → Type 0
IsOne action call Acts = (words : List ℤ) (answer other : Answer) → answer.history ≡ other.history → Acts words answer → Acts words other → AreOne action call answer other

one_plain : (call : Call) (program : Program) → IsOne Plain call (AnswersPlain program)
one_plain call program words answer other steps is is' = inl (is ∙ sym is')

one_alone : FactsAreDue → (action : Action) → runs_engine action ≡ true → (call : Call) (program : Program) → IsOne action call (AnswersAlone call program)
one_alone due action runs_one call program words answer other steps is is' = one_run due action runs_one _ call (job_of program words) (λ history facts runs. runs.runs) answer other steps is is'

one_threads : FactsAreDue → (call : Call) (program : Program) → IsOne Run call (AnswersThreads call program)
one_threads due call program words answer other steps is is' = one_run due Run refl _ call (job_of program words) (λ history facts runs. runs) answer other steps is is'

-- what is one of two answers to the words of a program
module _ (action : Action) (call : Call) (Acts : List ℤ → Answer → Type 0) (answer other : Answer) (one : (words : List ℤ) → Acts words answer → Acts words other → AreOne action call answer other) where
  of_words : (said : Result Memory Refusal) → AnswersWords Acts said answer → AnswersWords Acts said other → AreOne action call answer other
  of_words (Ok memory) is is' = one memory.words is is'
  of_words (Err why) is is' = inl (is ∙ sym is')

-- of two answers with the same steps that refuse the same step, if any
module _ (due : FactsAreDue) (call : Call) (answer other : Answer) (steps : answer.history ≡ other.history) (same : RefuseSameStep answer other) where
  one_strict : (job : Nest) (given : List ℕ) → AnswersSteps call job given answer → AnswersSteps call job given other → AreOne Replay call answer other
  one_strict job given (not_enabled n refuses is) is' = inl (is ∙ sym ((same n).0 is))
  one_strict job given (ran run) (not_enabled n refuses is) = inl ((same n).1 is ∙ sym is)
  one_strict job given (ran run) (ran run') = one_run due Replay refl _ call job (λ history facts runs. runs.alone.runs) answer other steps run run'

  one_actors : (job : Nest) (said : Result (List ℕ) ℕ) → AnswersActors call job said answer → AnswersActors call job said other → AreOne Replay call answer other
  one_actors job (Ok given) is is' = one_strict job given is is'
  one_actors job (Err n) is is' = inl (is ∙ sym is')

module _ (due : FactsAreDue) (one_least : OneLeast) (one_nest : (input : List ℕ) (said other : Result Program Refusal) → SaysNest input said → SaysNest input other → said ≡ other)
    (one_words : (input : List ℕ) (program : Program) (said other : Result Memory Refusal) → SaysWords input program said → SaysWords input program other → said ≡ other)
    (one_steps : (input : List ℕ) (workers : ℕ) (said other : Result (List ℕ) ℕ) → SaysSteps input workers said → SaysSteps input workers other → said ≡ other) where
  of_said : (action : Action) (call : Call) (Acts : List ℤ → Answer → Type 0) (answer other : Answer) → ((words : List ℤ) → Acts words answer → Acts words other → AreOne action call answer other) → (input : List ℕ) (program : Program)
      → AnswersData Acts input program answer → AnswersData Acts input program other → AreOne action call answer other
  of_said action call Acts answer other one input program is is' =
      of_words action call Acts answer other one is'.said (subst (λ said. AnswersWords Acts said answer) (one_words input program is.said is'.said is.says is'.says) is.answers) is'.answers

  of_data : (action : Action) (call : Call) (Acts : List ℤ → Answer → Type 0) → IsOne action call Acts → (input : List ℕ) (program : Program) (answer other : Answer) → answer.history ≡ other.history
      → AnswersData Acts input program answer → AnswersData Acts input program other → AreOne action call answer other
  of_data action call Acts one input program answer other steps is is' = of_said action call Acts answer other (λ words. one words answer other steps) input program is is'

  one_replay : (call : Call) (input : List ℕ) (program : Program) (answer other : Answer) → answer.history ≡ other.history → RefuseSameStep answer other → (words : List ℤ) → AnswersReplay call input program words answer → AnswersReplay call input program words other → AreOne Replay call answer other
  one_replay call input program answer other steps same words is is' =
      one_actors due call answer other steps same (job_of program words) is'.said
      (subst (λ said. AnswersActors call (job_of program words) said answer) (one_steps input call.options.workers is.said is'.said is.says is'.says) is.answers) is'.answers

  of_program : (action : Action) (call : Call) (input : List ℕ) (program : Program) (answer other : Answer) → answer.history ≡ other.history → AgreeApart action answer other → AnswersProgram action call input program answer → AnswersProgram action call input program other → AreOne action call answer other
  of_program Plain call input program answer other steps same is is' = of_data Plain call (AnswersPlain program) (one_plain call program) input program answer other steps is is'
  of_program Check call input program answer other steps same is is' = inl (is ∙ sym is')
  of_program Deps call input program answer other steps same is is' = inl (is ∙ sym is')
  of_program Alone call input program answer other steps same is is' = of_data Alone call (AnswersAlone call program) (one_alone due Alone refl call program) input program answer other steps is is'
  of_program Big call input program answer other steps same is is' = of_data Big call (AnswersAlone call program) (one_alone due Big refl call program) input program answer other steps is is'
  of_program Gen call input program answer other steps same is is' = absurd is
  of_program Replay call input program answer other steps same is is' = of_said Replay call (AnswersReplay call input program) answer other (one_replay call input program answer other steps same) input program is is'
  of_program Profile call input program answer other steps same is is' = of_said Profile call (AnswersProfile call program) answer other (λ words first second. inl (first.is ∙ ap profile_answer (one_least (job_of program words) call.options first.least second.least first.is_least second.is_least) ∙ sym second.is)) input program is is'
  of_program Run call input program answer other steps same is is' = of_data Run call (AnswersThreads call program) (one_threads due call program) input program answer other steps is is'

  of_nest : (call : Call) (input : List ℕ) (said : Result Program Refusal) (answer other : Answer) → answer.history ≡ other.history → AgreeApart call.action answer other → AnswersNest call input said answer → AnswersNest call input said other → AreOne call.action call answer other
  of_nest call input (Ok program) answer other steps same is is' = of_program call.action call input program answer other steps same is is'
  of_nest call input (Err why) answer other steps same is is' = inl (is ∙ sym is')

  of_input : (call : Call) (input : List ℕ) (answer other : Answer) → answer.history ≡ other.history → AgreeApart call.action answer other → AnswersInput call input answer → AnswersInput call input other → AreOne call.action call answer other
  of_input call input answer other steps same (too_long long is) (too_long long' is') = inl (is ∙ sym is')
  of_input call input answer other steps same (too_long long is) (a_text few said says is') = absurd (omega (arith, long, few))
  of_input call input answer other steps same (a_text few said says is) (too_long long is') = absurd (omega (arith, long, few))
  of_input call input answer other steps same (a_text few said says is) (a_text few' said' says' is') =
      of_nest call input said' answer other steps same (subst (λ s. AnswersNest call input s answer) (one_nest input said said' says says') is) is'

  of_call : (generates : Bool) (call : Call) (input : List ℕ) (answer other : Answer) → answer.history ≡ other.history → AgreeApart call.action answer other → AnswersCall generates call input answer → AnswersCall generates call input other → AreOne call.action call answer other
  of_call true call input answer other steps same is is' = inl (is ∙ sym is')
  of_call false call input answer other steps same is is' = of_input call input answer other steps same is is'

  pub one_answer : OneAnswer
  one_answer call input answer other steps same is is' = of_call (is_gen call.action) call input answer other steps same is is'
