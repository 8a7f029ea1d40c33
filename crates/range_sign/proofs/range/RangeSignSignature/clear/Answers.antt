use Rattle.std.proofs.Common.{◌≡◌, length, replicate, arith, rules}
use Rattle.std.proofs.lemmas.Grind.{common_steps}
use Rattle.range_sign.specs.Spans.{no_spans}
use Rattle.range_sign.proofs.Meets.{in_sizes-cleared}
use Rattle.range_sign.proofs.range.RangeSignSignature.clear.Goals as goal

pub invariant_of-self : goal.invariant_of-self
invariant_of-self c =
    let empty : c.fill.new.self.items ≡ replicate (length c.self.inside.spans.items) no_spans = first_of (search rules, grind (arith, common_steps)) in
    in_sizes-cleared c.self.inside.sizes.items c.self.inside.spans.items c.fill.new.self.items c.self.invariant empty
