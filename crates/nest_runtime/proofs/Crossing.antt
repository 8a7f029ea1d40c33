-- That an engine may cross threads. What is recursive, or holds what is, gets no such fact by itself, and a search for the whole
-- runs out of steps: so it is said type by type.
use denote.RattleType.{RattleType}
use denote.Param.Send.{IsSend, sendable, view_send}
use denote.Hole.{as_row}
use denote.Struct.Field.{u32-field}
use denote.Param.SendFields.{declared_send, variants_send}
use Rattle.std.proofs.Crossing.{crosses, Vec-send}
use Rattle.sqlite_items.proofs.items.Items.TheSendSync as items
use Rattle.sqlite_items.proofs.boxed.Boxed.TheSendSync as boxed
use Rattle.nest_syntax.proofs.names.Line.TheSendSync as line
use Rattle.nest_syntax.proofs.operators.Bin.TheSendSync as binary
use Rattle.nest_syntax.proofs.operators.Op.TheSendSync as operation
use Rattle.nest_syntax.proofs.operators.Un.TheSendSync as unary
use Rattle.nest_syntax.proofs.tree.Decl.TheSendSync as decl
use Rattle.nest_syntax.proofs.tree.Expr.TheLaws.TheKnot as expr
use Rattle.nest_syntax.proofs.tree.Stmt.TheLaws.TheKnot as stmt
use Rattle.word_store.proofs.memory.Words.TheSendSync as words
use Rattle.nest_syntax.specs.contracts.tree.Expr as expression
use Rattle.nest_syntax.specs.contracts.tree.Program as program
use Rattle.nest_mean.specs.contracts.jobs.Job as job
use Rattle.nest_mean.proofs.values.Scalars.TheSendSync as scalars
use Rattle.sched_cursor.specs.contracts.node.Node as node
use Rattle.sched_cursor.specs.contracts.node.Header as header
use Rattle.sched_cursor.proofs.node.Next.TheSendSync as next
use Rattle.sched_cursor.proofs.node.At.TheSendSync as at
use Rattle.sched_cursor.proofs.node.Region.TheSendSync as region
use Rattle.sched_cursor.specs.contracts.cursor.Cursor as cursor
use Rattle.sched_cursor.specs.contracts.cursor.Cursor.TheInside as cursor_inside
use Rattle.nest_mean.specs.contracts.jobs.Job.TheInside as job_inside
use Rattle.nest_syntax.specs.contracts.tree.Loop as loop
use Rattle.nest_check.specs.contracts.checked.Checked as checked
use Rattle.nest_check.specs.contracts.checked.Checked.TheInside as checked_inside
use Rattle.data_local.specs.contracts.locals.DataLocals.{the_row as locals_row}
use Rattle.data_local.proofs.locals.DataLocals.TheSendSync as locals
use Rattle.nest_partition.proofs.split.Split.TheSendSync as split
use Rattle.task_code.proofs.code.TaskCode.TheSendSync as code
use Rattle.addr_slice.proofs.claim_set.Claims.TheSendSync as claims
use Rattle.shadow_memory.proofs.shadow.Shadow.TheSendSync as shadow
use Rattle.nest_syntax.proofs.place.Place.TheSendSync as place
use Rattle.progress_board.proofs.options.Options.TheSendSync as options
use Rattle.progress_board.proofs.facts.RollCause.TheSendSync as cause
use Rattle.epoch_plan.proofs.tasks.Seen.TheSendSync as seen
use Rattle.epoch_plan.specs.contracts.tasks.Seen.{the_row as seen_row}
use Rattle.spec_checker.proofs.walk.Checker.TheSendSync as checker
use Rattle.checkpoint.proofs.marked.Checkpoint.TheSendSync as checkpoint
use Rattle.range_sign.specs.declared.signature.Signature.{Ghosts}
use Rattle.spec_core.specs.contracts.seat.Seat as bench
use Rattle.spec_core.proofs.seat.Seat.TheSendSync as bench_send
use Rattle.spec_core.proofs.epochs.Epochs.TheSendSync as epochs
use Rattle.spec_core.proofs.tally.Tally.TheSendSync as spec_tally
use Rattle.spec_core.specs.contracts.desk.Desk as spec_desk
use Rattle.spec_core.specs.contracts.plan.Plan as spec_plan
use Rattle.spec_core.specs.contracts.table.Table as spec_table
use Rattle.spec_core.specs.contracts.spec.Spec as spec
use Rattle.spec_core.specs.contracts.spec.Spec.TheInside as spec_inside
use Rattle.domore_core.specs.contracts.seat.Seat.{the_row as seat_row}
use Rattle.domore_core.proofs.seat.Seat.TheSendSync as seat
use Rattle.domore_core.proofs.tally.Tally.TheSendSync as tally
use Rattle.domore_core.specs.contracts.desk.Desk as desk
use Rattle.domore_core.specs.contracts.plan.Plan as plan
use Rattle.domore_core.specs.contracts.table.Table as table
use Rattle.domore_core.specs.contracts.domore.Domore as domore
use Rattle.domore_core.specs.contracts.domore.Domore.TheInside as inside

-- the tree, and a job
expr_send : IsSend expression.the_row
expr_send = search (sendable, crosses, boxed.the_send, expr.send-Expr) depth 30

loop_send : IsSend loop.the_row
loop_send =
    let e = expr_send in let a = items.the_send in let b = boxed.the_send in let c = line.the_send in let d = binary.the_send in let f = operation.the_send in let g = unary.the_send in
    search (sendable, crosses, stmt.crosses, expr.crosses, a, b) depth 30 fits 100000

program_send : IsSend program.the_row
program_send =
    let regions = loop_send in
    declared_send program.the_type (search (sendable, crosses, items.the_send) depth 30, (search (sendable, crosses, items.the_send, decl.the_send) depth 30, (search (sendable, crosses, items.the_send) depth 30, tt)))

checked_send : IsSend checked.the_row
checked_send =
    let program = program_send in
    let locals = Vec-send locals_row locals.the_send in
    view_send checked_inside.the_row _ _ _ _ (declared_send checked_inside.the_type (program, (search (sendable, crosses) depth 30, (search (sendable, crosses) depth 30, (search (sendable, crosses) depth 30, (search sendable depth 30, tt))))))

job_send : IsSend job.the_row
job_send = view_send job_inside.the_row _ _ _ _ (declared_send job_inside.the_type (checked_send, (words.the_send, tt)))

-- the cursor
header_send : IsSend header.the_row
header_send = let e = expr_send in declared_send header.the_type (line.the_send, (search sendable depth 20, (e, (e, (search sendable depth 20, (search sendable depth 20, tt))))))

number_send : IsSend (as_row u32-field)
number_send = search sendable depth 20

node_send : IsSend node.the_row
node_send =
    let e = expr_send in let h = header_send in let n = next.the_send in let l = line.the_send in let w = number_send in
    variants_send node.enum ((h, (n, (n, tt))), ((l, (w, (operation.the_send, (e, (n, tt))))), ((l, (e, (n, (n, tt)))), ((h, (w, (n, tt))), ((l, (w, (n, tt))), tt)))))

cursor_send : IsSend cursor.the_row
cursor_send =
    let nodes = Vec-send node.the_row node_send in
    view_send cursor_inside.the_row _ _ _ _ (declared_send cursor_inside.the_type (search sendable depth 20, (search (sendable, crosses) depth 30, (next.the_send, (at.the_send, (region.the_send, (scalars.the_send, (search (sendable, crosses) depth 30, (search sendable depth 20, tt)))))))))

-- the engine without barriers
desk_send : IsSend desk.the_row
desk_send = declared_send desk.the_type (cursor_send, (tally.the_send, (shadow.the_send, (claims.the_send, (scalars.the_send, tt)))))

plan_send : IsSend plan.the_row
plan_send = declared_send plan.the_type (job_send, (options.the_send, (code.the_send, (split.the_send, tt))))

table_send : IsSend table.the_row
table_send =
    let seats = Vec-send seat_row seat.the_send in
    declared_send table.the_type (words.the_send, (search sendable depth 20, (search (sendable, crosses, place.the_send) depth 20, (search sendable depth 20, (desk_send, tt)))))

pub domore_send : IsSend domore.the_row
domore_send = view_send inside.the_row _ _ _ _ (declared_send inside.the_type (plan_send, (table_send, tt)))

-- the engine that passes barriers speculatively
spec_desk_send : IsSend spec_desk.the_row
spec_desk_send = declared_send spec_desk.the_type (cursor_send, (search (sendable, crosses, place.the_send) depth 20, (epochs.the_send, (search sendable depth 20, (spec_tally.the_send, tt)))))

spec_plan_send : IsSend spec_plan.the_row
spec_plan_send = declared_send spec_plan.the_type (job_send, (options.the_send, (code.the_send, (search (sendable, crosses) depth 20, (search (sendable, crosses) depth 20, tt)))))

module _ (G : RattleType) (ghosts : Ghosts G.Denot) (sends : IsSend G) where
  spec_table_send : IsSend (spec_table.the_row G ghosts)
  spec_table_send =
      let seats = Vec-send (bench.the_row G ghosts) (bench_send.the_send G ghosts sends) in
      let seen = Vec-send seen_row seen.the_send in
      declared_send (spec_table.the_type G ghosts)
      (words.the_send, (checkpoint.the_send, (spec_desk_send, (search sendable depth 20, (seats, (seen, (checker.the_send, (search (sendable, crosses, cause.the_send) depth 20, (search (sendable, crosses, place.the_send) depth 20, (search sendable depth 20, tt))))))))))

  pub spec_send : IsSend (spec.the_row G ghosts)
  spec_send = view_send (spec_inside.the_row G ghosts) _ _ _ _ (declared_send (spec_inside.the_type G ghosts) (spec_plan_send, (spec_table_send, tt)))
