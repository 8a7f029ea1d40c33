use Rattle.std.proofs.Common.{suc, refl}
use Rattle.task_frame.specs.declared.piece.Piece.{Piece}
use Rattle.spec_machine.specs.Machine.{Seat, Idle}
use Rattle.spec_core.specs.Hands.{Bench}
use Rattle.spec_core.proofs.Placing.{row_by, sound_finished}
use Rattle.spec_core.proofs.table.Table.finish.Goals as goal

pub returns-clause-state : goal.returns-clause-state
returns-clause-state g c =
    let old = c.args.self.now in
    row_by _ _ old c.args.worker c.index_mut.result.now c.requires.sound c.requires.own c.index_mut.ensures.value
    c.finish.new.self old.words old.abort old.trap (λ (x : Bench g.row.G.Denot). let y : Bench g.row.G.Denot = record x { hand = Idle; done = suc x.done } in y) c.finish.ensures (λ (x : Seat Piece g.row.G.Denot). let y : Seat Piece g.row.G.Denot = record x { hand = Idle; done = suc x.done } in y) refl

pub returns-clause-sound : goal.returns-clause-sound
returns-clause-sound g c =
    sound_finished _ _ c.args.self.now c.args.worker c.index_mut.result.now c.requires.sound c.requires.own c.index_mut.ensures.value c.finish.new.self c.requires.begun c.finish.ensures
