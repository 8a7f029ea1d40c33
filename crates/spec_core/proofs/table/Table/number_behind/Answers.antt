use Rattle.std.proofs.Common.{◌≡◌, Some, None, sym, ap, ◌∙◌, arith}
use Rattle.spec_core.specs.Signatures.{signs}
use Rattle.spec_core.specs.Blocks.{planned_at, block_in}
use Rattle.spec_core.proofs.Placing.{held_there, was_is}
use Rattle.spec_core.proofs.Standing.{stands, block_is}
use Rattle.spec_core.proofs.table.Table.number_behind.Goals as goal

pub overflow_add-next : goal.overflow_add-next
overflow_add-next g c =
    let (k, p, held) = c.requires.stands in
    let st = stands (signs g.G.Signature.EXACT g.G.Signature.holds g.G.Signature.nothing g.G.Signature.with_note) _ c.args.plan.now c.args.self.now c.args.worker c.requires.plan c.requires.sound c.requires.goes c.requires.calm c.requires.own k p held in
    let same = c.number-next.ensures k p (held_there _ _ c.args.self.now c.args.worker c.index-seat.result.now c.requires.sound c.requires.own c.index-seat.ensures held) in
    omega (arith, st.high, st.last, st.by.numbers, same)

pub task-requires-clause-open : goal.task-requires-clause-open
task-requires-clause-open g c =
    let (k, p, held) = c.requires.stands in
    let st = stands (signs g.G.Signature.EXACT g.G.Signature.holds g.G.Signature.nothing g.G.Signature.with_note) _ c.args.plan.now c.args.self.now c.args.worker c.requires.plan c.requires.sound c.requires.goes c.requires.calm c.requires.own k p held in
    let done = c.done.ensures ∙ ap (λ b. b.done) (was_is _ _ c.args.self.now c.args.worker c.index-seat.result.now c.requires.sound c.requires.own c.index-seat.ensures) in
    omega (arith, st.there, done)

pub returns-in_default : goal.returns-in_default
returns-in_default g c = λ k p held.
    let st = stands (signs g.G.Signature.EXACT g.G.Signature.holds g.G.Signature.nothing g.G.Signature.with_note) _ c.args.plan.now c.args.self.now c.args.worker c.requires.plan c.requires.sound c.requires.goes c.requires.calm c.requires.own k p held in
    let done = c.done.ensures ∙ ap (λ b. b.done) (was_is _ _ c.args.self.now c.args.worker c.index-seat.result.now c.requires.sound c.requires.own c.index-seat.ensures) in
    let block = c.task.ensures ∙ ap (λ e. block_in (planned_at c.args.self.now.desk.epochs e) c.args.plan.now.options.workers e c.args.worker) done
    ∙ block_is (signs g.G.Signature.EXACT g.G.Signature.holds g.G.Signature.nothing g.G.Signature.with_note) _ c.args.plan.now c.args.self.now c.args.worker c.requires.plan c.requires.sound c.requires.goes c.requires.calm c.requires.own k p st in
    absurd (let none : None ≡ Some _ = sym c.in_default.is ∙ block in cc)
