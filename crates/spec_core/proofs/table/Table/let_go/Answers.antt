use Rattle.std.proofs.Common.{refl}
use Rattle.task_frame.specs.declared.piece.Piece.{Piece}
use Rattle.spec_machine.specs.Machine.{Seat, Idle}
use Rattle.spec_core.specs.Hands.{Bench}
use Rattle.spec_core.proofs.Placing.{row_by, sound_held}
use Rattle.spec_core.proofs.table.Table.let_go.Goals as goal

pub returns-clause-state : goal.returns-clause-state
returns-clause-state g c =
    let old = c.args.self.now in
    row_by _ _ old c.args.worker c.index_mut.result.now c.requires.sound c.requires.own c.index_mut.ensures.value
    c.leave.new.self old.words old.abort old.trap (λ (x : Bench g.row.G.Denot). let y : Bench g.row.G.Denot = record x { hand = Idle } in y) c.leave.ensures (λ (x : Seat Piece g.row.G.Denot). let y : Seat Piece g.row.G.Denot = record x { hand = Idle } in y) refl

pub returns-clause-sound : goal.returns-clause-sound
returns-clause-sound g c =
    let old = c.args.self.now in
    sound_held _ _ old c.args.worker c.index_mut.result.now c.requires.sound c.requires.own c.index_mut.ensures.value
    c.leave.new.self old.words old.abort old.trap refl Idle c.leave.ensures
