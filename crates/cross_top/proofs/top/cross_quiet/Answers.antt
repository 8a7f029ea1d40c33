use Rattle.std.proofs.Common.{Err, map, string_bytes, ap}
use Rattle.cross_top.specs.declared.top.Unanswered.{Unanswered}
use Rattle.cross_top.specs.Answers.{Answer}
use Rattle.cross_top.proofs.Written.{due_is_whole, ends_written, ends_unread, never_read}
use Rattle.cross_top.proofs.top.cross_quiet.Goals as goal

pub returns-in-Ok-clause-ends : goal.returns-in-Ok-clause-ends
returns-in-Ok-clause-ends g c = rw (ap (λ (a : Answer). a.history) c.reply.view_is)
    (ends_written (map string_bytes c.args.words.now) _ _ _ _ _ c.write-status.result c.in-Ok.ensures.due c.write-status.ensures.written c.write-status.ensures.cut)

pub returns-in-Ok-clause-write_fault : goal.returns-in-Ok-clause-write_fault
returns-in-Ok-clause-write_fault g c cut = c.write-status.ensures.write_fault cut (due_is_whole (map string_bytes c.args.words.now) _ c.in-Ok.reply c.in-Ok.ensures.due)

pub returns-in-Err-Read-clause-ends : goal.returns-in-Err-Read-clause-ends
returns-in-Err-Read-clause-ends g c =
    ends_unread (map string_bytes c.args.words.now) _ _ _ c.ended_early.result.status c.ended_early.result.history.items c.ended_early.ensures.status c.ended_early.ensures.history (c.in-Err-Read.ensures.reads (ap (λ (e : Unanswered). Err e) c.in-Err-Read.field-0-is))

pub returns-in-Ok-clause-read_fault : goal.returns-in-Ok-clause-read_fault
returns-in-Ok-clause-read_fault g c read = absurd (never_read (map string_bytes c.args.words.now) _ _ _ _ c.write-status.result c.in-Ok.ensures.due c.write-status.ensures.written read)

pub returns-in-Ok-clause-sure : goal.returns-in-Ok-clause-sure
returns-in-Ok-clause-sure g c sure read = never_read (map string_bytes c.args.words.now) _ _ _ _ c.write-status.result c.in-Ok.ensures.due c.write-status.ensures.written read
