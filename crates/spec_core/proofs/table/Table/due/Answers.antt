use Rattle.spec_core.specs.Signatures.{signs}
use Rattle.spec_core.proofs.Checking.{entries, due_answer}
use Rattle.spec_core.proofs.table.Table.due.Goals as goal

pub next-requires-clause-entries : goal.next-requires-clause-entries
next-requires-clause-entries g c =
    entries (signs g.G.Signature.EXACT g.G.Signature.holds g.G.Signature.nothing g.G.Signature.with_note) _ c.args.plan.now c.args.self.now c.requires.sound c.requires.goes c.finished.result c.finished.ensures c.as_slice.result.now c.as_slice.ensures.value

pub returns : goal.returns
returns g c =
    due_answer (signs g.G.Signature.EXACT g.G.Signature.holds g.G.Signature.nothing g.G.Signature.with_note) _ c.args.plan.now c.args.self.now c.requires.sound c.requires.goes c.finished.result c.finished.ensures c.next.result c.as_slice.result.now c.as_slice.ensures.value c.next.ensures
