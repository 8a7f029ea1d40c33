use Rattle.std.proofs.Common.{◌∙◌}
use Rattle.range_sign.proofs.Meets.{conflicts-found}
use Rattle.range_sign.proofs.range.RangeSign.conflicts_in.Goals as goal

pub returns : goal.returns
returns c =
    c.conflict.ensures
    ∙ conflicts-found c.args.self.now c.args.other.now c.args.array c.spans_at-own.result.now c.spans_at-others.result.now c.spans_at-own.ensures.is c.spans_at-others.ensures.is c.requires.sizes c.spans_at-own.ensures.inside c.spans_at-others.ensures.inside
