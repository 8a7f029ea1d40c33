use Rattle.std.proofs.Common.{◌≡◌, Err, IfOk, subst}
use Rattle.nest_input.specs.declared.refused.Refusal.{Refusal}
use Rattle.nest_input.specs.declared.refused.InputRefused.{InputRefused}
use Rattle.nest_input.specs.Input.{SaysNest, Tells}
use Rattle.cross_top.specs.Answers.{refused_answer}
use Rattle.cross_top.proofs.Replies.{program_answered, refusal_answered, threads_answered}
use Rattle.cross_top.proofs.threads.run_input.Goals as goal

pub returns-in-Ok : goal.returns-in-Ok
returns-in-Ok g c =
    let call = c.args.call.now in
    program_answered c.run_program.result call c.args.input.now c.in-Ok.checked c.requires.few c.in-Ok.ensures (threads_answered c.run_program.result call c.args.input.now c.in-Ok.checked c.requires.threaded.action c.run_program.ensures)

pub returns-in-Err-Refused : goal.returns-in-Err-Refused
returns-in-Err-Refused g c =
    let says = subst (λ (e : InputRefused). Tells (SaysNest c.args.input.now) (Err e)) c.in-Err-Refused.field-0-is c.in-Err-Refused.ensures in
    let told = subst (λ (why : Refusal). IfOk c.refused.result (λ reply. reply ≡ refused_answer why)) c.in-Err-Refused.why-is c.refused.ensures in
    refusal_answered c.refused.result c.args.call.now c.args.input.now c.in-Err-Refused.why c.requires.few says told
