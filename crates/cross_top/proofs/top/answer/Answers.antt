use Rattle.std.proofs.Common.{Option, Some, map, string_bytes, subst}
use Rattle.cross_words.specs.declared.call.Call.{Call}
use Rattle.cross_top.specs.Words.{Ask}
use Rattle.cross_top.proofs.Written.{kept}
use Rattle.cross_top.proofs.Replies.{asked_is_due, unasked_is_due, asks_unread}
use Rattle.cross_top.proofs.top.answer.Goals as goal

pub returns-in-Ok-Some-clause-due : goal.returns-in-Ok-Some-clause-due
returns-in-Ok-Some-clause-due g c =
    let words = map string_bytes c.args.words.now in
    let asked = subst (λ (a : Option Call). Ask words a) c.in-Ok-Some.field-0-is c.in-Ok-Some.ensures.asked in
    asked_is_due c.answer_call.result words (Some c.in-Ok-Some.call) _ asked c.answer_call.ensures.due

pub returns-in-Ok-Some-clause-untouched : goal.returns-in-Ok-Some-clause-untouched
returns-in-Ok-Some-clause-untouched g c none =
    let words = map string_bytes c.args.words.now in
    let asked = subst (λ (a : Option Call). Ask words a) c.in-Ok-Some.field-0-is c.in-Ok-Some.ensures.asked in
    c.answer_call.ensures.untouched (asks_unread words c.in-Ok-Some.call asked none)

pub returns-in-Ok-Some-clause-reads : goal.returns-in-Ok-Some-clause-reads
returns-in-Ok-Some-clause-reads g c failed =
    let words = map string_bytes c.args.words.now in
    let asked = subst (λ (a : Option Call). Ask words a) c.in-Ok-Some.field-0-is c.in-Ok-Some.ensures.asked in
    (c.in-Ok-Some.call, asked, c.answer_call.ensures.reads failed)

pub returns-in-Ok-None-clause-due : goal.returns-in-Ok-None-clause-due
returns-in-Ok-None-clause-due g c =
    let words = map string_bytes c.args.words.now in
    let asked = subst (λ (a : Option Call). Ask words a) c.in-Ok-None.field-0-is c.in-Ok-None.ensures.asked in
    unasked_is_due c.or_no_memory.result c.refusal.result words _ _ c.or_no_memory.ensures asked (kept _) c.refusal.ensures
