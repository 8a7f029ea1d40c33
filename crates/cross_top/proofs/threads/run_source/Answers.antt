use Rattle.std.proofs.Common.{ap, subst, Err, IfOk, List, ℕ}
use Rattle.nest_io.specs.declared.fault.TakeFault.{TakeFault}
use Rattle.cross_top.specs.Answers.{AnswersInput}
use Rattle.cross_top.proofs.Replies.{taken_is_due, long_is_due}
use Rattle.cross_top.proofs.threads.run_source.Goals as goal

pub returns-in-Ok-clause-due : goal.returns-in-Ok-clause-due
returns-in-Ok-clause-due g c =
    let answers = subst (λ (input : List ℕ). IfOk c.run_input.result (λ reply. AnswersInput c.args.call.now input reply)) c.as_slice.ensures.value c.run_input.ensures in
    taken_is_due c.or_no_memory.result c.run_input.result c.args.call.now _ _ c.or_no_memory.ensures c.in-Ok.input.items answers (record { taken = c.in-Ok.ensures.all; whole = λ few. (c.in-Ok.ensures.ended, c.in-Ok.ensures.end) })

pub returns-in-Err-TooLong-clause-due : goal.returns-in-Err-TooLong-clause-due
returns-in-Err-TooLong-clause-due g c =
    let long = c.in-Err-TooLong.ensures.long (ap (λ (f : TakeFault). Err f) c.in-Err-TooLong.field-0-is) in
    long_is_due c.or_no_memory-in-Err-TooLong.result c.refusal.result c.args.call.now _ _ c.or_no_memory-in-Err-TooLong.ensures c.refusal.ensures long.0 long.1 long.2
