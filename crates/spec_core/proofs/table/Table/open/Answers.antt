use Rattle.spec_core.specs.Signatures.{signs}
use Rattle.spec_core.proofs.Entering.{opens_by}
use Rattle.spec_core.proofs.table.Table.open.Goals as goal

pub returns-clause-state : goal.returns-clause-state
returns-clause-state g c = λ b n rest is.
    opens_by (signs g.G.Signature.EXACT g.G.Signature.holds g.G.Signature.nothing g.G.Signature.with_note) _ c.args.plan.now c.args.self.now c.open.new.self b n rest c.requires.plan c.requires.sound c.requires.goes (c.open.ensures.opens b n rest is)
