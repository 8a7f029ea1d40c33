use Rattle.spec_core.specs.Signatures.{signs}
use Rattle.spec_core.proofs.Checking.{all_answer}
use Rattle.spec_core.proofs.table.Table.are_all_passed.Goals as goal

pub returns : goal.returns
returns g c =
    all_answer (signs g.G.Signature.EXACT g.G.Signature.holds g.G.Signature.nothing g.G.Signature.with_note) _ c.args.plan.now c.args.self.now c.requires.sound c.requires.goes c.args.epochs c.all_passed.result c.as_slice.result.now c.as_slice.ensures.value c.requires.open c.requires.finished c.all_passed.ensures
