use Rattle.std.proofs.Common.{sym}
use Rattle.cross_top.proofs.Written.{kept}
use Rattle.cross_top.proofs.Replies.{read_is_due, reads_no_gen, unread_is_due}
use Rattle.cross_top.proofs.top.answer_call.Goals as goal

pub answer_source-requires-clause-no_gen : goal.answer_source-requires-clause-no_gen
answer_source-requires-clause-no_gen g c = reads_no_gen c.args.call.now.action (sym c.if-reads_input.ensures)

pub returns-then-reads_input-clause-due : goal.returns-then-reads_input-clause-due
returns-then-reads_input-clause-due g c = read_is_due c.answer_source.result c.args.call.now _ (sym c.if-reads_input.ensures) c.answer_source.ensures.due

pub returns-else-reads_input-clause-due : goal.returns-else-reads_input-clause-due
returns-else-reads_input-clause-due g c = unread_is_due c.or_no_memory.result c.answer_generated.result c.args.call.now _ _ c.or_no_memory.ensures (sym c.if-reads_input.ensures) (kept _) c.answer_generated.ensures
