use Rattle.std.proofs.Common.{◌<◌, Some, length, ap, ◌∙◌, arith}
use Rattle.nest_syntax.specs.Arrays.{arrays_of}
use Rattle.domore_core.specs.declared.moves.Move.TheVariants.{Turn}
use Rattle.domore_core.specs.declared.moves.Turn.TheVariants as turn
use Rattle.domore_core.specs.Tables.{state_of, setup_by}
use Rattle.domore_core.proofs.Applying.{first_of_queue, told_move, steps, needs, scalar_case, drain_case, dispatch_case, halt_case, take_case, pass_case, drop_held_case, drop_queued_case, end_case}
use Rattle.domore_core.proofs.Scheduling.{iterating}
use Rattle.domore_core.proofs.table.Table.apply.Goals as goal

pub returns-in-Scalar-clause-state : goal.returns-in-Scalar-clause-state
returns-in-Scalar-clause-state c =
    let m = setup_by c.args.plan.now in
    let s = state_of c.args.self.now in
    let u = c.args.actor in
    let new = state_of c.scalar.new.self in
    let there = told_move m s u (Turn turn.Scalar) (c.requires.enabled ∙ ap (λ t. Some (Turn t)) c.in-Scalar.is) in
    steps m s u (Turn turn.Scalar) there new (scalar_case m s u new there.move there.told_so there.guard c.scalar.ensures.computes c.scalar.ensures.closes)

pub returns-in-Drain-clause-state : goal.returns-in-Drain-clause-state
returns-in-Drain-clause-state c =
    let m = setup_by c.args.plan.now in
    let s = state_of c.args.self.now in
    let u = c.args.actor in
    let new = state_of c.drain.new.self in
    let there = told_move m s u (Turn turn.Drain) (c.requires.enabled ∙ ap (λ t. Some (Turn t)) c.in-Drain.is) in
    steps m s u (Turn turn.Drain) there new (drain_case m s u new there.move there.told_so there.guard c.drain.ensures.state)

pub returns-in-Dispatch-clause-state : goal.returns-in-Dispatch-clause-state
returns-in-Dispatch-clause-state c =
    let m = setup_by c.args.plan.now in
    let s = state_of c.args.self.now in
    let u = c.args.actor in
    let new = state_of c.dispatch.new.self in
    let there = told_move m s u (Turn turn.Dispatch) (c.requires.enabled ∙ ap (λ t. Some (Turn t)) c.in-Dispatch.is) in
    steps m s u (Turn turn.Dispatch) there new (dispatch_case m s u new there.move there.told_so there.guard c.dispatch.ensures.state)

pub returns-in-Halt-clause-state : goal.returns-in-Halt-clause-state
returns-in-Halt-clause-state c =
    let m = setup_by c.args.plan.now in
    let s = state_of c.args.self.now in
    let u = c.args.actor in
    let new = state_of c.halt.new.self in
    let there = told_move m s u (Turn turn.Halt) (c.requires.enabled ∙ ap (λ t. Some (Turn t)) c.in-Halt.is) in
    steps m s u (Turn turn.Halt) there new (halt_case m s u new there.move there.told_so c.halt.ensures.state)

pub returns-in-Take-clause-state : goal.returns-in-Take-clause-state
returns-in-Take-clause-state c =
    let m = setup_by c.args.plan.now in
    let s = state_of c.args.self.now in
    let u = c.args.actor in
    let new = state_of c.take.new.self in
    let there = told_move m s u (Turn turn.Take) (c.requires.enabled ∙ ap (λ t. Some (Turn t)) c.in-Take.is) in
    steps m s u (Turn turn.Take) there new (take_case m s u new there.move there.told_so there.guard c.take.ensures.state)

pub returns-in-Pass-clause-state : goal.returns-in-Pass-clause-state
returns-in-Pass-clause-state c =
    let m = setup_by c.args.plan.now in
    let s = state_of c.args.self.now in
    let u = c.args.actor in
    let new = state_of c.pass.new.self in
    let there = told_move m s u (Turn turn.Pass) (c.requires.enabled ∙ ap (λ t. Some (Turn t)) c.in-Pass.is) in
    steps m s u (Turn turn.Pass) there new (pass_case m s u new there.move there.told_so there.guard c.pass.ensures.state)

pub returns-in-DropHeld-clause-state : goal.returns-in-DropHeld-clause-state
returns-in-DropHeld-clause-state c =
    let m = setup_by c.args.plan.now in
    let s = state_of c.args.self.now in
    let u = c.args.actor in
    let new = state_of c.drop_held.new.self in
    let there = told_move m s u (Turn turn.DropHeld) (c.requires.enabled ∙ ap (λ t. Some (Turn t)) c.in-DropHeld.is) in
    steps m s u (Turn turn.DropHeld) there new (drop_held_case m s u new there.move there.told_so c.drop_held.ensures.state)

pub returns-in-DropQueued-clause-state : goal.returns-in-DropQueued-clause-state
returns-in-DropQueued-clause-state c =
    let m = setup_by c.args.plan.now in
    let s = state_of c.args.self.now in
    let u = c.args.actor in
    let new = state_of c.drop_queued.new.self in
    let there = told_move m s u (Turn turn.DropQueued) (c.requires.enabled ∙ ap (λ t. Some (Turn t)) c.in-DropQueued.is) in
    steps m s u (Turn turn.DropQueued) there new (drop_queued_case m s u new there.move there.told_so there.guard c.drop_queued.ensures.state)

pub returns-in-End-clause-state : goal.returns-in-End-clause-state
returns-in-End-clause-state c =
    let m = setup_by c.args.plan.now in
    let s = state_of c.args.self.now in
    let u = c.args.actor in
    let new = state_of c.end.new.self in
    let there = told_move m s u (Turn turn.End) (c.requires.enabled ∙ ap (λ t. Some (Turn t)) c.in-End.is) in
    steps m s u (Turn turn.End) there new (end_case m s u new there.move there.told_so c.end.ensures.state)

pub pass-requires : goal.pass-requires
pass-requires c = rw c.requires.sound.seats (needs (setup_by c.args.plan.now) (state_of c.args.self.now) c.args.actor turn.Pass (c.requires.enabled ∙ ap (λ t. Some (Turn t)) c.in-Pass.is))

pub drop_held-requires : goal.drop_held-requires
drop_held-requires c = rw c.requires.sound.seats (needs (setup_by c.args.plan.now) (state_of c.args.self.now) c.args.actor turn.DropHeld (c.requires.enabled ∙ ap (λ t. Some (Turn t)) c.in-DropHeld.is))

pub drop_queued-requires : goal.drop_queued-requires
drop_queued-requires c = rw c.requires.sound.seats (needs (setup_by c.args.plan.now) (state_of c.args.self.now) c.args.actor turn.DropQueued (c.requires.enabled ∙ ap (λ t. Some (Turn t)) c.in-DropQueued.is))

pub end-requires : goal.end-requires
end-requires c = rw c.requires.sound.seats (needs (setup_by c.args.plan.now) (state_of c.args.self.now) c.args.actor turn.End (c.requires.enabled ∙ ap (λ t. Some (Turn t)) c.in-End.is))

pub scalar-requires-clause-untrapped : goal.scalar-requires-clause-untrapped
scalar-requires-clause-untrapped c = (needs (setup_by c.args.plan.now) (state_of c.args.self.now) c.args.actor turn.Scalar (c.requires.enabled ∙ ap (λ t. Some (Turn t)) c.in-Scalar.is)).0

pub scalar-requires-clause-other : goal.scalar-requires-clause-other
scalar-requires-clause-other c =
    iterating (arrays_of c.args.plan.now.job.program.decls) c.args.plan.now.job.opening.words c.args.self.now.desk.cursor
    ∙ (needs (setup_by c.args.plan.now) (state_of c.args.self.now) c.args.actor turn.Scalar (c.requires.enabled ∙ ap (λ t. Some (Turn t)) c.in-Scalar.is)).1

pub drain-requires-clause-untrapped : goal.drain-requires-clause-untrapped
drain-requires-clause-untrapped c = (needs (setup_by c.args.plan.now) (state_of c.args.self.now) c.args.actor turn.Drain (c.requires.enabled ∙ ap (λ t. Some (Turn t)) c.in-Drain.is)).0

pub drain-requires-clause-other : goal.drain-requires-clause-other
drain-requires-clause-other c =
    iterating (arrays_of c.args.plan.now.job.program.decls) c.args.plan.now.job.opening.words c.args.self.now.desk.cursor
    ∙ (needs (setup_by c.args.plan.now) (state_of c.args.self.now) c.args.actor turn.Drain (c.requires.enabled ∙ ap (λ t. Some (Turn t)) c.in-Drain.is)).1

pub dispatch-requires-clause-untrapped : goal.dispatch-requires-clause-untrapped
dispatch-requires-clause-untrapped c = (needs (setup_by c.args.plan.now) (state_of c.args.self.now) c.args.actor turn.Dispatch (c.requires.enabled ∙ ap (λ t. Some (Turn t)) c.in-Dispatch.is)).0

pub dispatch-requires-clause-iterates : goal.dispatch-requires-clause-iterates
dispatch-requires-clause-iterates c =
    iterating (arrays_of c.args.plan.now.job.program.decls) c.args.plan.now.job.opening.words c.args.self.now.desk.cursor
    ∙ (needs (setup_by c.args.plan.now) (state_of c.args.self.now) c.args.actor turn.Dispatch (c.requires.enabled ∙ ap (λ t. Some (Turn t)) c.in-Dispatch.is)).1

pub dispatch-requires-clause-place : goal.dispatch-requires-clause-place
dispatch-requires-clause-place c = omega (arith, (needs (setup_by c.args.plan.now) (state_of c.args.self.now) c.args.actor turn.Dispatch (c.requires.enabled ∙ ap (λ t. Some (Turn t)) c.in-Dispatch.is)).2, c.requires.plan.little_room)

pub take-requires-clause-own : goal.take-requires-clause-own
take-requires-clause-own c = rw c.requires.sound.seats (needs (setup_by c.args.plan.now) (state_of c.args.self.now) c.args.actor turn.Take (c.requires.enabled ∙ ap (λ t. Some (Turn t)) c.in-Take.is))

pub take-requires-clause-body : goal.take-requires-clause-body
take-requires-clause-body c = λ t queue is. first_of_queue (λ x. x.body.body < length c.args.plan.now.code.entries) _ queue t is (c.requires.goes.seats c.args.actor).queue
