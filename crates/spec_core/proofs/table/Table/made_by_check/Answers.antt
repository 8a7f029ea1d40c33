use Rattle.std.proofs.Common.{sym}
use Rattle.spec_core.specs.Signatures.{signs}
use Rattle.spec_core.proofs.Checking.{pair, late_begun, early_begun}
use Rattle.spec_core.proofs.table.Table.made_by_check.Goals as goal

pub overlap-requires-clause-early : goal.overlap-requires-clause-early
overlap-requires-clause-early g c = (pair (signs g.G.Signature.EXACT g.G.Signature.holds g.G.Signature.nothing g.G.Signature.with_note) _ c.args.plan.now c.args.self.now c.requires.sound c.requires.goes _ (sym c.in-Some.ensures)).early_own

pub overlap-requires-clause-late : goal.overlap-requires-clause-late
overlap-requires-clause-late g c = (pair (signs g.G.Signature.EXACT g.G.Signature.holds g.G.Signature.nothing g.G.Signature.with_note) _ c.args.plan.now c.args.self.now c.requires.sound c.requires.goes _ (sym c.in-Some.ensures)).late_own

pub overlap-requires-clause-begun : goal.overlap-requires-clause-begun
overlap-requires-clause-begun g c = early_begun (signs g.G.Signature.EXACT g.G.Signature.holds g.G.Signature.nothing g.G.Signature.with_note) _ c.args.plan.now c.args.self.now c.requires.sound c.requires.goes _ (sym c.in-Some.ensures)

pub overlap-requires-clause-begun_too : goal.overlap-requires-clause-begun_too
overlap-requires-clause-begun_too g c = late_begun (signs g.G.Signature.EXACT g.G.Signature.holds g.G.Signature.nothing g.G.Signature.with_note) _ c.args.plan.now c.args.self.now c.requires.sound c.requires.goes _ (sym c.in-Some.ensures)
