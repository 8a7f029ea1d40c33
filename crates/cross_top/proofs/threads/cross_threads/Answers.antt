use Rattle.std.proofs.Common.{Err, map, string_bytes, ap}
use Rattle.cross_top.specs.declared.top.Unanswered.{Unanswered}
use Rattle.cross_top.specs.Answers.{Answer}
use Rattle.cross_top.proofs.Written.{run_is_whole, run_ends, run_ends_early, run_ends_full, run_never_read}
use Rattle.cross_top.proofs.threads.cross_threads.Goals as goal

pub returns-in-Ok-clause-ends : goal.returns-in-Ok-clause-ends
returns-in-Ok-clause-ends g c = rw (ap (λ (a : Answer). a.history) c.reply.view_is)
    (run_ends c.args.call.now _ _ _ _ _ c.write-status.result c.in-Ok.ensures.due c.write-status.ensures.written c.write-status.ensures.cut)

pub returns-in-Ok-clause-write_fault : goal.returns-in-Ok-clause-write_fault
returns-in-Ok-clause-write_fault g c cut = c.write-status.ensures.write_fault cut (run_is_whole c.args.call.now _ c.in-Ok.reply c.in-Ok.ensures.due)

pub returns-in-Err-Read-clause-ends : goal.returns-in-Err-Read-clause-ends
returns-in-Err-Read-clause-ends g c = run_ends_early c.args.call.now _ _ _ c.ended_early.result.status c.ended_early.result.history.items c.ended_early.ensures.status c.ended_early.ensures.history

pub returns-in-Ok-clause-read_fault : goal.returns-in-Ok-clause-read_fault
returns-in-Ok-clause-read_fault g c read = absurd (run_never_read c.args.call.now _ _ _ _ c.write-status.result c.in-Ok.ensures.due c.write-status.ensures.written read)

pub returns-in-Ok-clause-sure : goal.returns-in-Ok-clause-sure
returns-in-Ok-clause-sure g c sure read = run_never_read c.args.call.now _ _ _ _ c.write-status.result c.in-Ok.ensures.due c.write-status.ensures.written read
