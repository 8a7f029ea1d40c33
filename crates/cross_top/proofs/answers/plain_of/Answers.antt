use Rattle.std.proofs.Common.{Err, subst}
use Rattle.nest_input.specs.declared.refused.InputRefused.{InputRefused}
use Rattle.nest_input.specs.Input.{SaysWords, Tells}
use Rattle.cross_top.specs.Answers.{AnswersPlain}
use Rattle.cross_top.proofs.Replies.{words_answered, fault_answered}
use Rattle.cross_top.proofs.answers.plain_of.Goals as goal

pub returns-in-Ok : goal.returns-in-Ok
returns-in-Ok c = words_answered AnswersPlain c.args.input.now c.args.checked c.in-Ok.words _ c.new.ensures c.in-Ok.ensures.said c.plain-in-Ok.result c.plain-in-Ok.ensures

pub returns-in-Err-Refused : goal.returns-in-Err-Refused
returns-in-Err-Refused c =
    let says = subst (λ (e : InputRefused). Tells (SaysWords c.args.input.now c.args.checked) (Err e)) c.in-Err-Refused.field-0-is c.in-Err-Refused.ensures.said in
    fault_answered AnswersPlain c.args.input.now c.args.checked c.in-Err-Refused.why says c.refused.result c.refused.ensures
