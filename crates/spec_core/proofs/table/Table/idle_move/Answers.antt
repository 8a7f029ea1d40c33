use Rattle.std.proofs.Common.{◌∙◌}
use Rattle.spec_core.specs.Signatures.{signs}
use Rattle.spec_core.proofs.Telling.{idle_free, idle_on}
use Rattle.spec_core.proofs.table.Table.idle_move.Goals as goal

pub returns-in-None : goal.returns-in-None
returns-in-None g c = c.begin_move.ensures ∙ idle_free (signs g.G.Signature.EXACT g.G.Signature.holds g.G.Signature.nothing g.G.Signature.with_note) _ c.args.plan.now c.args.self.now c.requires.sound c.args.epoch c.args.worker c.in-None.is

pub returns-then-has_below : goal.returns-then-has_below
returns-then-has_below g c =
    c.begin_move-then-has_below.ensures ∙ idle_on (signs g.G.Signature.EXACT g.G.Signature.holds g.G.Signature.nothing g.G.Signature.with_note) _ c.args.plan.now c.args.self.now c.requires.sound c.args.epoch c.args.worker c.in-Some.trap c.has_below.result c.has_below.ensures c.if-has_below.true c.in-Some.is
