use Rattle.std.proofs.Common.{refl, sym, ap, ◌∙◌, subst, rules, SFits, w64}
use Rattle.std.proofs.lemmas.Int.{to_z-of_z}
use Rattle.nest_syntax.specs.Arrays.{word_number}
use Rattle.task_hop.specs.declared.stop.Stop.TheVariants as stop
use Rattle.task_frame.specs.Pieces.{reached, piece_at}
use Rattle.task_frame.specs.Stops.{IsInside}
use Rattle.spec_machine.specs.Machine.{DoWrite, worker_after}
use Rattle.spec_core.specs.Signatures.{signs}
use Rattle.spec_core.specs.Tables.{state_of, setup_by, sizes_by}
use Rattle.spec_core.proofs.Standing.{stands, told_at}
use Rattle.spec_core.proofs.table.Table.hop.Goals as goal

pub load-requires-clause-begun : goal.load-requires-clause-begun
load-requires-clause-begun g c =
    (stands (signs g.G.Signature.EXACT g.G.Signature.holds g.G.Signature.nothing g.G.Signature.with_note) _ c.args.plan.now c.args.self.now c.args.worker c.requires.plan c.requires.sound c.requires.goes c.requires.calm c.requires.own c.requires.stands.0 c.args.worked.now c.requires.stands.1).begun

pub load-requires-clause-inside : goal.load-requires-clause-inside
load-requires-clause-inside g c =
    let st = stands (signs g.G.Signature.EXACT g.G.Signature.holds g.G.Signature.nothing g.G.Signature.with_note) _ c.args.plan.now c.args.self.now c.args.worker c.requires.plan c.requires.sound c.requires.goes c.requires.calm c.requires.own c.requires.stands.0 c.args.worked.now c.requires.stands.1 in
    (subst (IsInside (sizes_by c.args.plan.now)) (sym c.stop.ensures ∙ c.in-Load.is) st.inside).1

pub store-requires-clause-begun : goal.store-requires-clause-begun
store-requires-clause-begun g c =
    (stands (signs g.G.Signature.EXACT g.G.Signature.holds g.G.Signature.nothing g.G.Signature.with_note) _ c.args.plan.now c.args.self.now c.args.worker c.requires.plan c.requires.sound c.requires.goes c.requires.calm c.requires.own c.requires.stands.0 c.args.worked.now c.requires.stands.1).begun

pub store-requires-clause-inside : goal.store-requires-clause-inside
store-requires-clause-inside g c =
    let st = stands (signs g.G.Signature.EXACT g.G.Signature.holds g.G.Signature.nothing g.G.Signature.with_note) _ c.args.plan.now c.args.self.now c.args.worker c.requires.plan c.requires.sound c.requires.goes c.requires.calm c.requires.own c.requires.stands.0 c.args.worked.now c.requires.stands.1 in
    (subst (IsInside (sizes_by c.args.plan.now)) (sym c.stop.ensures ∙ c.in-Store.is) st.inside).1

pub returns-in-Load-clause-state : goal.returns-in-Load-clause-state
returns-in-Load-clause-state g c = λ k held.
    c.load.ensures.state k c.args.worked.now held
    ∙ told_at (signs g.G.Signature.EXACT g.G.Signature.holds g.G.Signature.nothing g.G.Signature.with_note) _ c.args.plan.now c.args.self.now c.args.worker c.requires.plan c.requires.sound c.requires.goes c.requires.calm c.requires.own k c.args.worked.now c.frame.result.now
    (stop.Load c.in-Load.array c.in-Load.place c.in-Load.into c.in-Load.next) c.frame.ensures (sym c.in-Load.is ∙ c.stop.ensures)

pub returns-in-Store-clause-state : goal.returns-in-Store-clause-state
returns-in-Store-clause-state g c = λ k held.
    let m = setup_by (signs g.G.Signature.EXACT g.G.Signature.holds g.G.Signature.nothing g.G.Signature.with_note) c.args.plan.now in
    let fits : SFits w64 c.in-Store.value = search rules in
    c.store.ensures.state k c.args.worked.now held
    ∙ ap (λ v. worker_after m (state_of c.args.self.now) c.args.worker (DoWrite k (word_number (sizes_by c.args.plan.now) c.in-Store.array c.in-Store.place) v (piece_at c.args.plan.now.code c.in-Store.next c.frame-in-Store.result.now))) (to_z-of_z w64 c.in-Store.value fits)
    ∙ told_at (signs g.G.Signature.EXACT g.G.Signature.holds g.G.Signature.nothing g.G.Signature.with_note) _ c.args.plan.now c.args.self.now c.args.worker c.requires.plan c.requires.sound c.requires.goes c.requires.calm c.requires.own k c.args.worked.now c.frame-in-Store.result.now
    (stop.Store c.in-Store.array c.in-Store.place c.in-Store.value c.in-Store.next) c.frame-in-Store.ensures (sym c.in-Store.is ∙ c.stop.ensures)

pub returns-in-Go-clause-state : goal.returns-in-Go-clause-state
returns-in-Go-clause-state g c = λ k held.
    c.go.ensures.state k c.args.worked.now held
    ∙ told_at (signs g.G.Signature.EXACT g.G.Signature.holds g.G.Signature.nothing g.G.Signature.with_note) _ c.args.plan.now c.args.self.now c.args.worker c.requires.plan c.requires.sound c.requires.goes c.requires.calm c.requires.own k c.args.worked.now c.frame-in-Go.result.now
    (stop.Go c.in-Go.next) c.frame-in-Go.ensures (sym c.in-Go.is ∙ c.stop.ensures)

pub returns-in-Finish-clause-state : goal.returns-in-Finish-clause-state
returns-in-Finish-clause-state g c = λ k held.
    c.end.ensures.state k c.args.worked.now held
    ∙ told_at (signs g.G.Signature.EXACT g.G.Signature.holds g.G.Signature.nothing g.G.Signature.with_note) _ c.args.plan.now c.args.self.now c.args.worker c.requires.plan c.requires.sound c.requires.goes c.requires.calm c.requires.own k c.args.worked.now (reached c.args.worked.now).frame
    stop.Finish refl (sym c.in-Finish.is ∙ c.stop.ensures)

pub returns-in-Trap-clause-state : goal.returns-in-Trap-clause-state
returns-in-Trap-clause-state g c = λ k held.
    c.trap.ensures.state k c.args.worked.now held
    ∙ told_at (signs g.G.Signature.EXACT g.G.Signature.holds g.G.Signature.nothing g.G.Signature.with_note) _ c.args.plan.now c.args.self.now c.args.worker c.requires.plan c.requires.sound c.requires.goes c.requires.calm c.requires.own k c.args.worked.now (reached c.args.worked.now).frame
    (stop.Trap c.in-Trap.cause c.in-Trap.line) refl (sym c.in-Trap.is ∙ c.stop.ensures)
