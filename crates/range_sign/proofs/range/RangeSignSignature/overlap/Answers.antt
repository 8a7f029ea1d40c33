use Rattle.std.proofs.Common.{◌<◌, length, get_or, sym, ◌∙◌, arith}
use Rattle.range_sign.specs.Overlap.{any_below, conflict_at}
use Rattle.range_sign.specs.Ranges.{holds}
use Rattle.range_sign.proofs.Belows.{first-next, first-here}
use Rattle.range_sign.proofs.range.RangeSignSignature.overlap.Goals as goal

pub loop-array-preserved : goal.loop-array-preserved
loop-array-preserved c = first-next (λ array. any_below (conflict_at (holds c.args.self.now) (holds c.args.other.now) array) (get_or c.args.self.now.sizes array 0)) c.loop-array.array c.loop-array.invariant (sym c.conflicts_in.ensures ∙ c.if-conflicts_in.false)

pub returns-then-conflicts_in : goal.returns-then-conflicts_in
returns-then-conflicts_in c =
    let inside : c.loop-array.array < length c.args.self.now.sizes = omega (arith, c.loop-array-test.true, c.arrays-array-end.ensures.count) in
    sym (first-here (λ array. any_below (conflict_at (holds c.args.self.now) (holds c.args.other.now) array) (get_or c.args.self.now.sizes array 0)) c.loop-array.array (length c.args.self.now.sizes) inside c.loop-array.invariant (sym c.conflicts_in.ensures ∙ c.if-conflicts_in.true))
