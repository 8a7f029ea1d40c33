use Rattle.std.proofs.Common.{if◌then◌else◌, Some, None, sym, ap, ◌∙◌}
use Rattle.nest_syntax.specs.Arrays.{arrays_of}
use Rattle.sched_cursor.specs.declared.event.Event.TheVariants as event
use Rattle.domore_machine.proofs.Free.{where_free}
use Rattle.domore_core.specs.declared.moves.Move.TheVariants.{Turn}
use Rattle.domore_core.specs.declared.moves.Turn.TheVariants as turn
use Rattle.domore_core.specs.Tables.{state_of, setup_by}
use Rattle.domore_core.proofs.Choosing.{event_told}
use Rattle.domore_core.proofs.table.Table.event_move.Goals as goal

pub returns-in-Scalar : goal.returns-in-Scalar
returns-in-Scalar c = sym (event_told (setup_by c.args.plan.now) (state_of c.args.self.now) (arrays_of c.args.plan.now.job.program.decls) c.args.plan.now.job.opening.words c.args.self.now.desk.cursor event.Scalar (c.in-Scalar.ensures.kind c.args.plan.now.job.program c.requires.sound.desk.cursor_is))

pub returns-in-Close : goal.returns-in-Close
returns-in-Close c = sym (event_told (setup_by c.args.plan.now) (state_of c.args.self.now) (arrays_of c.args.plan.now.job.program.decls) c.args.plan.now.job.opening.words c.args.self.now.desk.cursor event.Close (c.in-Close.ensures.kind c.args.plan.now.job.program c.requires.sound.desk.cursor_is))

pub returns-in-End : goal.returns-in-End
returns-in-End c = sym (event_told (setup_by c.args.plan.now) (state_of c.args.self.now) (arrays_of c.args.plan.now.job.program.decls) c.args.plan.now.job.opening.words c.args.self.now.desk.cursor event.End (c.in-End.ensures.kind c.args.plan.now.job.program c.requires.sound.desk.cursor_is))

pub returns-in-Drain : goal.returns-in-Drain
returns-in-Drain c =
    let m = setup_by c.args.plan.now in
    let s = state_of c.args.self.now in
    c.drain_move.ensures
    ∙ ap (λ b. if b then Some (Turn turn.Drain) else None) (sym (where_free _ _ _ m s c.requires.plan.some_worker c.requires.tickets c.requires.untrapped))
    ∙ sym (event_told m s (arrays_of c.args.plan.now.job.program.decls) c.args.plan.now.job.opening.words c.args.self.now.desk.cursor event.Drain (c.in-Drain.ensures.kind c.args.plan.now.job.program c.requires.sound.desk.cursor_is))
