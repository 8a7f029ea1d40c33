use Rattle.std.proofs.Common.{◌∙◌}
use Rattle.range_sign.specs.Overlap.{overlap_of}
use Rattle.spec_core.specs.Signatures.{signs}
use Rattle.spec_core.specs.Reports.{task_in}
use Rattle.spec_core.proofs.Checking.{sign_sizes, sign_is}
use Rattle.spec_core.proofs.table.Table.overlap.Goals as goal

pub returns : goal.returns
returns g c =
    let s = signs g.G.Signature.EXACT g.G.Signature.holds g.G.Signature.nothing g.G.Signature.with_note in
    let plan = c.args.plan.now in
    let old = c.args.self.now in
    let one = sign_is s g.G.Signature.sizes_of plan old c.requires.sound (task_in c.args.early) c.requires.early c.requires.begun c.index.result.now c.index.ensures c.sign.result.now c.sign.ensures in
    let other = sign_is s g.G.Signature.sizes_of plan old c.requires.sound (task_in c.args.late) c.requires.late c.requires.begun_too c.index-2.result.now c.index-2.ensures c.sign-2.result.now c.sign-2.ensures in
    let sizes = sign_sizes s g.G.Signature.sizes_of plan old c.requires.sound (task_in c.args.early) c.requires.early c.requires.begun c.index.result.now c.index.ensures c.sign.result.now c.sign.ensures in
    c.overlap.ensures ∙ (λ i. overlap_of (sizes i) (g.G.Signature.holds (one i)) (g.G.Signature.holds (other i)))
