use Rattle.range_sign.proofs.Meets.{in_sizes-seen}
use Rattle.range_sign.proofs.range.RangeSignSignature.note.Goals as goal

pub invariant_of-self : goal.invariant_of-self
invariant_of-self c =
    in_sizes-seen c.self.inside.sizes.items c.self.inside.spans.items c.args.array c.args.place c.args.write c.args.self.now c.spans_at-spans.result.now c.with_span.result
    c.self.view_is c.spans_at-spans.ensures.is c.with_span.ensures c.self.invariant c.requires.array c.requires.place
