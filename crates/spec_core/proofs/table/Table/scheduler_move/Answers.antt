use Rattle.std.proofs.Common.{sym, ◌∙◌}
use Rattle.spec_core.specs.Signatures.{signs}
use Rattle.spec_core.proofs.Telling.{restores, concludes, goes_on}
use Rattle.spec_core.proofs.table.Table.scheduler_move.Goals as goal

pub returns-then-is_some : goal.returns-then-is_some
returns-then-is_some g c =
    c.turn_where.ensures ∙ restores (signs g.G.Signature.EXACT g.G.Signature.holds g.G.Signature.nothing g.G.Signature.with_note) _ c.args.plan.now c.args.self.now c.requires.sound c.is_anyone_running.result c.is_anyone_running.ensures (sym c.is_some.ensures ∙ c.if-is_some.true)

pub returns-then-is_some-2 : goal.returns-then-is_some-2
returns-then-is_some-2 g c =
    c.turn_where-then-is_some-2.ensures
    ∙ concludes (signs g.G.Signature.EXACT g.G.Signature.holds g.G.Signature.nothing g.G.Signature.with_note) _ c.args.plan.now c.args.self.now c.requires.sound c.are_all_stopped.result c.are_all_stopped.ensures (sym c.is_some.ensures ∙ c.if-is_some.false) (sym c.is_some-else-is_some.ensures ∙ c.if-is_some-2.true)

pub returns-else-self : goal.returns-else-self
returns-else-self g c =
    goes_on (signs g.G.Signature.EXACT g.G.Signature.holds g.G.Signature.nothing g.G.Signature.with_note) _ c.args.plan.now c.args.self.now c.requires.sound c.open_move.result c.open_move.ensures (sym c.is_some.ensures ∙ c.if-is_some.false) (sym c.is_some-else-is_some.ensures ∙ c.if-is_some-2.false) c.if-self.false
