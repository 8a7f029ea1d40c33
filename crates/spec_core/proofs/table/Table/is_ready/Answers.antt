use Rattle.std.proofs.Common.{sym, ◌∙◌}
use Rattle.spec_core.specs.Signatures.{signs}
use Rattle.spec_core.proofs.Telling.{each_done, ready_on, ready_off}
use Rattle.spec_core.proofs.table.Table.is_ready.Goals as goal

pub are_all_passed-requires-clause-finished : goal.are_all_passed-requires-clause-finished
are_all_passed-requires-clause-finished g c =
    each_done (signs g.G.Signature.EXACT g.G.Signature.holds g.G.Signature.nothing g.G.Signature.with_note) _ c.args.plan.now c.args.self.now c.requires.sound c.len-epochs.result c.args.self.now.seats.items (sym c.have_all_done.ensures ∙ c.if-have_all_done.true)

pub returns-then-have_all_done : goal.returns-then-have_all_done
returns-then-have_all_done g c =
    ready_on (signs g.G.Signature.EXACT g.G.Signature.holds g.G.Signature.nothing g.G.Signature.with_note) _ c.args.plan.now c.args.self.now c.requires.sound c.len-epochs.result c.len-epochs.ensures.same c.are_all_passed.result (sym c.have_all_done.ensures ∙ c.if-have_all_done.true) c.are_all_passed.ensures

pub returns-else-have_all_done : goal.returns-else-have_all_done
returns-else-have_all_done g c =
    ready_off (signs g.G.Signature.EXACT g.G.Signature.holds g.G.Signature.nothing g.G.Signature.with_note) _ c.args.plan.now c.args.self.now c.requires.sound c.len-epochs.result c.len-epochs.ensures.same c.have_all_done.result c.have_all_done.ensures c.if-have_all_done.false
