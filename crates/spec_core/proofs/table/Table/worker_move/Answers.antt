use Rattle.std.proofs.Common.{if◌then◌else◌, Some, None, sym, ap, ◌∙◌}
use Rattle.std.specs.Option.{option_map}
use Rattle.task_frame.specs.declared.piece.Piece.{Piece}
use Rattle.sched_cursor.specs.Cursor.{Cursor}
use Rattle.spec_machine.specs.Machine.{Idle, is_running, idle_move}
use Rattle.spec_setup.specs.Setups.{Invoked}
use Rattle.spec_core.specs.declared.moves.Move.TheVariants.{Turn}
use Rattle.spec_core.specs.declared.moves.Turn.TheVariants as turn
use Rattle.spec_core.specs.Signatures.{signs}
use Rattle.spec_core.specs.Moves.{told}
use Rattle.spec_core.specs.Stages.{stage_of}
use Rattle.spec_core.specs.Tables.{state_of, setup_by}
use Rattle.spec_core.proofs.Placing.{inside, was_is}
use Rattle.spec_core.proofs.Telling.{is_idle, is_empty_hand, is_standing, is_stopped_hand, gives_up, moves_idle, moves_empty, moves_standing, moves_stopped}
use Rattle.spec_core.proofs.table.Table.worker_move.Goals as goal

pub returns-then-is_some : goal.returns-then-is_some
returns-then-is_some g c =
    let old = c.args.self.now in
    let mine = inside _ c.args.plan.now old c.args.worker c.index-seat.result.now c.requires.sound c.requires.own c.index-seat.ensures in
    let same = was_is _ c.args.plan.now old c.args.worker c.index-seat.result.now c.requires.sound c.requires.own c.index-seat.ensures in
    c.give_up.ensures ∙ ap (λ b. if b then Some (Turn turn.LetGo) else None) (c.is_running.ensures ∙ ap (λ b. is_running b.hand) same)
    ∙ gives_up (signs g.G.Signature.EXACT g.G.Signature.holds g.G.Signature.nothing g.G.Signature.with_note) _ c.args.plan.now old c.requires.sound c.args.worker mine (sym c.is_some.ensures ∙ c.if-is_some.true)

pub returns-in-Idle : goal.returns-in-Idle
returns-in-Idle g c =
    let old = c.args.self.now in
    let u = c.args.worker in
    let mine = inside _ c.args.plan.now old u c.index-seat.result.now c.requires.sound c.requires.own c.index-seat.ensures in
    let same = was_is _ c.args.plan.now old u c.index-seat.result.now c.requires.sound c.requires.own c.index-seat.ensures in
    c.idle_move.ensures ∙ ap (λ e. option_map (told {B = Invoked} {C = Cursor} {P = Piece} Idle) (idle_move (setup_by (signs g.G.Signature.EXACT g.G.Signature.holds g.G.Signature.nothing g.G.Signature.with_note) c.args.plan.now) (state_of old) old.trap e u)) (c.done.ensures ∙ ap (λ b. b.done) same)
    ∙ moves_idle (signs g.G.Signature.EXACT g.G.Signature.holds g.G.Signature.nothing g.G.Signature.with_note) _ c.args.plan.now old c.requires.sound u mine (sym c.is_some.ensures ∙ c.if-is_some.false) (is_idle _ (sym (c.stage.ensures ∙ ap (λ b. stage_of b.hand) same) ∙ c.in-Idle.is))

pub returns-in-Empty : goal.returns-in-Empty
returns-in-Empty g c =
    let old = c.args.self.now in
    let u = c.args.worker in
    let mine = inside _ c.args.plan.now old u c.index-seat.result.now c.requires.sound c.requires.own c.index-seat.ensures in
    let same = was_is _ c.args.plan.now old u c.index-seat.result.now c.requires.sound c.requires.own c.index-seat.ensures in
    ap Some c.empty_move.ensures ∙ moves_empty (signs g.G.Signature.EXACT g.G.Signature.holds g.G.Signature.nothing g.G.Signature.with_note) _ c.args.plan.now old c.requires.sound u mine (sym c.is_some.ensures ∙ c.if-is_some.false) (is_empty_hand _ (sym (c.stage.ensures ∙ ap (λ b. stage_of b.hand) same) ∙ c.in-Empty.is))

pub returns-in-Standing : goal.returns-in-Standing
returns-in-Standing g c =
    let old = c.args.self.now in
    let u = c.args.worker in
    let mine = inside _ c.args.plan.now old u c.index-seat.result.now c.requires.sound c.requires.own c.index-seat.ensures in
    let same = was_is _ c.args.plan.now old u c.index-seat.result.now c.requires.sound c.requires.own c.index-seat.ensures in
    let there = is_standing _ c.in-Standing.number (sym (c.stage.ensures ∙ ap (λ b. stage_of b.hand) same) ∙ c.in-Standing.is) in
    ap Some c.standing_move.ensures ∙ moves_standing (signs g.G.Signature.EXACT g.G.Signature.holds g.G.Signature.nothing g.G.Signature.with_note) _ c.args.plan.now old c.requires.sound u mine (sym c.is_some.ensures ∙ c.if-is_some.false) c.in-Standing.number there.0 there.1

pub returns-in-Stopped : goal.returns-in-Stopped
returns-in-Stopped g c =
    let old = c.args.self.now in
    let u = c.args.worker in
    let mine = inside _ c.args.plan.now old u c.index-seat.result.now c.requires.sound c.requires.own c.index-seat.ensures in
    let same = was_is _ c.args.plan.now old u c.index-seat.result.now c.requires.sound c.requires.own c.index-seat.ensures in
    moves_stopped (signs g.G.Signature.EXACT g.G.Signature.holds g.G.Signature.nothing g.G.Signature.with_note) _ c.args.plan.now old c.requires.sound u mine (sym c.is_some.ensures ∙ c.if-is_some.false) (is_stopped_hand _ (sym (c.stage.ensures ∙ ap (λ b. stage_of b.hand) same) ∙ c.in-Stopped.is))
