use Rattle.std.proofs.Common.{◌≡◌, List, ℕ, length, subst, sym, arith}
use Rattle.range_sign.specs.Exact.{IsLaidOut}
use Rattle.range_sign.proofs.Made.{laid_out}
use Rattle.range_sign.proofs.exact.ExactSignSignature.make.Goals as goal

pub invariant_of-result : goal.invariant_of-result
invariant_of-result c =
    let starts = c.loop-length.starts.items in
    let index = c.loop-length.length-index in
    let whole : index ≡ length c.args.lengths.now = omega (arith, c.loop-length-test.false, c.loop-length.auto.length-index-end) in
    subst (λ (items : List ℕ). IsLaidOut (record { sizes = items; reads = c.in_ok-empty.field-0; writes = c.in_ok-empty-2.field-0 }) starts) (sym c.in_ok-from_slice.ensures.items)
    (laid_out c.args.lengths.now starts _ _ c.loop-length.count index whole (omega (arith, c.if-lengths-gt-MOST_ARRAYS.false)) c.requires.words c.loop-length.invariant.total c.loop-length.invariant.as_many c.loop-length.invariant.start_of c.in_ok-empty.ensures c.in_ok-empty-2.ensures)
