use Rattle.std.proofs.Common.{◌<◌, ◌≤◌, ◌+◌, refl, sym, ap, ◌∙◌, subst, arith}
use Rattle.std.proofs.lemmas.Bool.{ltb-true}
use Rattle.task_frame.specs.declared.piece.Piece.{Piece}
use Rattle.spec_machine.specs.Machine.{Hand}
use Rattle.spec_core.specs.Signatures.{signs}
use Rattle.spec_core.specs.Hands.{Bench, bench_at}
use Rattle.spec_core.specs.Tables.{setup_by, IsEpochBy}
use Rattle.spec_core.proofs.Placing.{was_is, sound_held, sound_finished, few_done, next_by, end_by}
use Rattle.spec_core.proofs.Standing.{stands, follows, ends, epoch_read, next_hand}
use Rattle.spec_core.proofs.table.Table.end.Goals as goal

pub get-requires : goal.get-requires
get-requires g c =
    let (k, p, held) = c.requires.stands in
    let old = c.args.self.now in
    let st = stands (signs g.G.Signature.EXACT g.G.Signature.holds g.G.Signature.nothing g.G.Signature.with_note) _ c.args.plan.now old c.args.worker c.requires.plan c.requires.sound c.requires.goes c.requires.calm c.requires.own k p held in
    let done = c.done-epoch.ensures ∙ ap (λ b. b.done) (was_is _ _ old c.args.worker c.index.result.now c.requires.sound c.requires.own c.index.ensures) in
    omega (arith, st.there, done)

pub first_piece-piece-requires-clause-body : goal.first_piece-piece-requires-clause-body
first_piece-piece-requires-clause-body g c =
    let (k, p, held) = c.requires.stands in
    let old = c.args.self.now in
    let s = signs g.G.Signature.EXACT g.G.Signature.holds g.G.Signature.nothing g.G.Signature.with_note in
    let st = stands s _ c.args.plan.now old c.args.worker c.requires.plan c.requires.sound c.requires.goes c.requires.calm c.requires.own k p held in
    let done = c.done-epoch.ensures ∙ ap (λ b. b.done) (was_is _ _ old c.args.worker c.index.result.now c.requires.sound c.requires.own c.index.ensures) in
    let same = epoch_read s _ c.args.plan.now old c.args.worker c.requires.plan c.requires.sound c.requires.goes c.requires.calm c.requires.own c.done-epoch.result c.get.result.now c.get.ensures done in
    (subst (IsEpochBy c.args.plan.now) (sym same) st.by).body

pub first_piece-piece-requires-clause-from : goal.first_piece-piece-requires-clause-from
first_piece-piece-requires-clause-from g c =
    let (k, p, held) = c.requires.stands in
    let old = c.args.self.now in
    let s = signs g.G.Signature.EXACT g.G.Signature.holds g.G.Signature.nothing g.G.Signature.with_note in
    let st = stands s _ c.args.plan.now old c.args.worker c.requires.plan c.requires.sound c.requires.goes c.requires.calm c.requires.own k p held in
    let done = c.done-epoch.ensures ∙ ap (λ b. b.done) (was_is _ _ old c.args.worker c.index.result.now c.requires.sound c.requires.own c.index.ensures) in
    let same = epoch_read s _ c.args.plan.now old c.args.worker c.requires.plan c.requires.sound c.requires.goes c.requires.calm c.requires.own c.done-epoch.result c.get.result.now c.get.ensures done in
    let (more, next) = follows s _ c.args.plan.now old c.args.worker c.requires.plan c.requires.sound c.requires.goes c.requires.calm c.requires.own k c.in-Some.next (sym c.in-Some.is ∙ c.number_behind.ensures k p held) in
    subst (λ y. y.first ≤ c.in-Some.next) (sym same) (omega (arith, st.low, next))

pub first_piece-piece-requires-clause-to : goal.first_piece-piece-requires-clause-to
first_piece-piece-requires-clause-to g c =
    let (k, p, held) = c.requires.stands in
    let old = c.args.self.now in
    let s = signs g.G.Signature.EXACT g.G.Signature.holds g.G.Signature.nothing g.G.Signature.with_note in
    let st = stands s _ c.args.plan.now old c.args.worker c.requires.plan c.requires.sound c.requires.goes c.requires.calm c.requires.own k p held in
    let done = c.done-epoch.ensures ∙ ap (λ b. b.done) (was_is _ _ old c.args.worker c.index.result.now c.requires.sound c.requires.own c.index.ensures) in
    let same = epoch_read s _ c.args.plan.now old c.args.worker c.requires.plan c.requires.sound c.requires.goes c.requires.calm c.requires.own c.done-epoch.result c.get.result.now c.get.ensures done in
    let (more, next) = follows s _ c.args.plan.now old c.args.worker c.requires.plan c.requires.sound c.requires.goes c.requires.calm c.requires.own k c.in-Some.next (sym c.in-Some.is ∙ c.number_behind.ensures k p held) in
    subst (λ y. c.in-Some.next < y.first + y.trips) (sym same) (omega (arith, ltb-true _ _ more, st.end, st.last, next))

pub finish-requires : goal.finish-requires
finish-requires g c =
    let (k, p, held) = c.requires.stands in
    let old = c.args.self.now in
    let st = stands (signs g.G.Signature.EXACT g.G.Signature.holds g.G.Signature.nothing g.G.Signature.with_note) _ c.args.plan.now old c.args.worker c.requires.plan c.requires.sound c.requires.goes c.requires.calm c.requires.own k p held in
    few_done _ _ old c.args.worker c.index_mut-in-None.result.now c.requires.sound c.requires.own c.index_mut-in-None.ensures.value c.requires.plan st.begun

pub returns-in-Some-clause-state : goal.returns-in-Some-clause-state
returns-in-Some-clause-state g c = λ k p held.
    let old = c.args.self.now in
    let s = signs g.G.Signature.EXACT g.G.Signature.holds g.G.Signature.nothing g.G.Signature.with_note in
    let m = setup_by s c.args.plan.now in
    let st = stands s _ c.args.plan.now old c.args.worker c.requires.plan c.requires.sound c.requires.goes c.requires.calm c.requires.own k p held in
    let done = c.done-epoch.ensures ∙ ap (λ b. b.done) (was_is _ _ old c.args.worker c.index.result.now c.requires.sound c.requires.own c.index.ensures) in
    let same = epoch_read s _ c.args.plan.now old c.args.worker c.requires.plan c.requires.sound c.requires.goes c.requires.calm c.requires.own c.done-epoch.result c.get.result.now c.get.ensures done in
    let (more, next) = follows s _ c.args.plan.now old c.args.worker c.requires.plan c.requires.sound c.requires.goes c.requires.calm c.requires.own k c.in-Some.next (sym c.in-Some.is ∙ c.number_behind.ensures k p held) in
    next_by _ _ old c.args.worker c.index_mut.result.now c.requires.sound c.requires.own c.index_mut.ensures.value m c.go_on.new.self (bench_at old.seats.items c.args.worker).done k more
    (c.go_on.ensures ∙ ap (λ (h : Hand Piece). let b : Bench g.row.G.Denot = record c.index_mut.result.now { hand = h } in b)
    (next_hand s _ c.args.plan.now old c.args.worker c.requires.plan c.requires.sound c.requires.goes c.requires.calm c.requires.own c.in-Some.next k c.get.result.now c.first_piece-piece.result st.there same next c.first_piece-piece.ensures))

pub returns-in-Some-clause-sound : goal.returns-in-Some-clause-sound
returns-in-Some-clause-sound g c =
    let old = c.args.self.now in
    sound_held _ _ old c.args.worker c.index_mut.result.now c.requires.sound c.requires.own c.index_mut.ensures.value
    c.go_on.new.self old.words old.abort old.trap refl _ c.go_on.ensures

pub returns-in-None-clause-state : goal.returns-in-None-clause-state
returns-in-None-clause-state g c = λ k p held.
    let old = c.args.self.now in
    let s = signs g.G.Signature.EXACT g.G.Signature.holds g.G.Signature.nothing g.G.Signature.with_note in
    end_by _ _ old c.args.worker c.index_mut-in-None.result.now c.requires.sound c.requires.own c.index_mut-in-None.ensures.value (setup_by s c.args.plan.now) c.finish.new.self (bench_at old.seats.items c.args.worker).done k
    (ends s _ c.args.plan.now old c.args.worker c.requires.plan c.requires.sound c.requires.goes c.requires.calm c.requires.own k (sym c.in-None.is ∙ c.number_behind.ensures k p held)) c.finish.ensures

pub returns-in-None-clause-sound : goal.returns-in-None-clause-sound
returns-in-None-clause-sound g c =
    let (k, p, held) = c.requires.stands in
    let old = c.args.self.now in
    let st = stands (signs g.G.Signature.EXACT g.G.Signature.holds g.G.Signature.nothing g.G.Signature.with_note) _ c.args.plan.now old c.args.worker c.requires.plan c.requires.sound c.requires.goes c.requires.calm c.requires.own k p held in
    sound_finished _ _ old c.args.worker c.index_mut-in-None.result.now c.requires.sound c.requires.own c.index_mut-in-None.ensures.value c.finish.new.self st.begun c.finish.ensures
