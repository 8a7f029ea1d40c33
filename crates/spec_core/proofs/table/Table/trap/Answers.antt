use Rattle.std.proofs.Common.{false, Some, refl}
use Rattle.progress_board.specs.declared.facts.RollCause.TheVariants as cause
use Rattle.spec_machine.specs.Machine.{Idle, Stopped}
use Rattle.spec_core.specs.Signatures.{signs}
use Rattle.spec_core.specs.Tables.{setup_by}
use Rattle.spec_core.proofs.Placing.{sound_held, held_there, fails_by, traps_by}
use Rattle.spec_core.proofs.table.Table.trap.Goals as goal

pub returns-then-self-gt0-clause-state : goal.returns-then-self-gt0-clause-state
returns-then-self-gt0-clause-state g c = λ k p held.
    let old = c.args.self.now in
    let u = c.args.worker in
    let was = c.index_mut-seat.result.now in
    fails_by _ _ old u was c.requires.sound c.requires.own c.index_mut-seat.ensures.value
    (setup_by (signs g.G.Signature.EXACT g.G.Signature.holds g.G.Signature.nothing g.G.Signature.with_note) c.args.plan.now)
    c.leave.new.self c.done.result k c.args.cause c.args.line c.if-self-gt0.true c.leave.ensures c.done.ensures

pub returns-then-self-gt0-clause-sound : goal.returns-then-self-gt0-clause-sound
returns-then-self-gt0-clause-sound g c =
    let old = c.args.self.now in
    sound_held _ _ old c.args.worker c.index_mut-seat.result.now c.requires.sound c.requires.own c.index_mut-seat.ensures.value
    c.leave.new.self old.words (Some (cause.Trap (record { epoch = c.done.result; worker = c.args.worker }))) old.trap refl Idle c.leave.ensures

pub returns-else-self-gt0-clause-state : goal.returns-else-self-gt0-clause-state
returns-else-self-gt0-clause-state g c = λ k p held.
    let old = c.args.self.now in
    let u = c.args.worker in
    let was = c.index_mut-seat.result.now in
    traps_by _ _ old u was c.requires.sound c.requires.own c.index_mut-seat.ensures.value
    (setup_by (signs g.G.Signature.EXACT g.G.Signature.holds g.G.Signature.nothing g.G.Signature.with_note) c.args.plan.now)
    c.stop.new.self c.number.result k c.args.cause c.args.line c.if-self-gt0.false c.stop.ensures
    (c.number.ensures k p (held_there _ _ old u was c.requires.sound c.requires.own c.index_mut-seat.ensures.value held))

pub returns-else-self-gt0-clause-sound : goal.returns-else-self-gt0-clause-sound
returns-else-self-gt0-clause-sound g c =
    let old = c.args.self.now in
    sound_held _ _ old c.args.worker c.index_mut-seat.result.now c.requires.sound c.requires.own c.index_mut-seat.ensures.value
    c.stop.new.self old.words old.abort (Some (record { cause = c.args.cause; line = c.args.line; number = c.number.result; by_scheduler = false })) refl Stopped c.stop.ensures
