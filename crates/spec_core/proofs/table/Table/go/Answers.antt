use Rattle.std.proofs.Common.{refl, ◌∙◌, ap}
use Rattle.task_frame.specs.declared.piece.Piece.{Piece}
use Rattle.task_frame.specs.Pieces.{piece_at}
use Rattle.spec_machine.specs.Machine.{Seat, Running}
use Rattle.spec_core.specs.Hands.{Bench}
use Rattle.spec_core.proofs.Placing.{row_by, sound_held, held_there}
use Rattle.spec_core.proofs.table.Table.go.Goals as goal

pub returns-clause-state : goal.returns-clause-state
returns-clause-state g c = λ k p held.
    let old = c.args.self.now in
    let u = c.args.worker in
    let was = c.index_mut.result.now in
    let hand = held_there _ _ old u was c.requires.sound c.requires.own c.index_mut.ensures.value held in
    row_by _ _ old u was c.requires.sound c.requires.own c.index_mut.ensures.value
    c.stand.new.self old.words old.abort old.trap (λ (x : Bench g.row.G.Denot). let y : Bench g.row.G.Denot = record x { hand = Running k (piece_at c.args.plan.now.code c.args.next c.args.frame) } in y) (c.stand.ensures.stands k p hand ∙ ap (λ q. let y : Bench g.row.G.Denot = record was { hand = Running k q } in y) c.piece_at.ensures)
    (λ (x : Seat Piece g.row.G.Denot). let y : Seat Piece g.row.G.Denot = record x { hand = Running k (piece_at c.args.plan.now.code c.args.next c.args.frame) } in y) refl

pub returns-clause-sound : goal.returns-clause-sound
returns-clause-sound g c =
    let old = c.args.self.now in
    sound_held _ _ old c.args.worker c.index_mut.result.now c.requires.sound c.requires.own c.index_mut.ensures.value
    c.stand.new.self old.words old.abort old.trap refl c.stand.new.self.hand c.stand.ensures.kept
