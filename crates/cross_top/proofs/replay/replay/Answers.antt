use Rattle.std.proofs.Common.{◌≡◌, ℕ, IfOk, List, subst}
use Rattle.step_words.specs.declared.refused.StepsRefused.{StepsRefused}
use Rattle.nest_input.specs.Input.{RefusesSteps}
use Rattle.cross_top.specs.Answers.{AnswersSteps, word_refused, job_of}
use Rattle.cross_top.proofs.Replies.{actors_answered, stranger_answered}
use Rattle.cross_top.proofs.replay.replay.Goals as goal

pub returns-in-Ok : goal.returns-in-Ok
returns-in-Ok c =
    let call = c.args.call.now in let job = c.args.job in
    let answers = subst (λ (steps : List ℕ). IfOk c.replay_steps.result (λ reply. AnswersSteps call (job_of job.program job.opening.words) steps reply)) c.as_slice.ensures.value c.replay_steps.ensures in
    actors_answered c.replay_steps.result call c.args.input.now job c.in-Ok.steps.items c.in-Ok.ensures answers

pub returns-in-Err-Word : goal.returns-in-Err-Word
returns-in-Err-Word c =
    let call = c.args.call.now in
    let says = subst (λ (e : StepsRefused). RefusesSteps c.args.input.now call.options.workers e) c.in-Err-Word.field-0-is c.in-Err-Word.ensures in
    let told = subst (λ (n : ℕ). IfOk c.refused_at.result (λ reply. reply ≡ word_refused n)) c.in-Err-Word.number-is c.refused_at.ensures in
    stranger_answered c.refused_at.result call c.args.input.now c.args.job c.in-Err-Word.number says told
