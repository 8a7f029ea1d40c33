use Rattle.std.proofs.Common.{◌≡◌, Err, IfOk, subst}
use Rattle.nest_input.specs.declared.refused.Refusal.{Refusal}
use Rattle.nest_input.specs.declared.refused.InputRefused.{InputRefused}
use Rattle.nest_input.specs.Input.{SaysWords, Tells}
use Rattle.cross_top.specs.Answers.{AnswersProfile, refused_answer}
use Rattle.cross_top.proofs.Replies.{least_answered, fault_answered}
use Rattle.cross_top.proofs.answers.profile_of.Goals as goal

pub returns-in-Ok : goal.returns-in-Ok
returns-in-Ok c = least_answered c.args.call.now c.args.input.now c.args.checked c.in-Ok.words _ c.new.ensures c.in-Ok.ensures.sizes c.in-Ok.ensures.said c.profile-in-Ok.result c.profile-in-Ok.ensures

pub returns-in-Err-Refused : goal.returns-in-Err-Refused
returns-in-Err-Refused c =
    let says = subst (λ (e : InputRefused). Tells (SaysWords c.args.input.now c.args.checked) (Err e)) c.in-Err-Refused.field-0-is c.in-Err-Refused.ensures.said in
    let told = subst (λ (why : Refusal). IfOk c.refused.result (λ reply. reply ≡ refused_answer why)) c.in-Err-Refused.why-is c.refused.ensures in
    fault_answered (AnswersProfile c.args.call.now) c.args.input.now c.args.checked c.in-Err-Refused.why says c.refused.result told
