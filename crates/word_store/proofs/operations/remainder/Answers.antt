use Rattle.std.proofs.Common.{◌≡◌, ◌∙◌, sym, ap, false, w64, FitsSigned, int_rem, Ok}
use Rattle.std.proofs.lemmas.Int.{to_z-of_z}
use Rattle.nest_syntax.specs.Words.{is_zero}
use Rattle.word_store.proofs.Wrapping.{left-int_div, is_zero-bits}
use Rattle.word_store.proofs.operations.remainder.Goals as goal

pub returns : goal.returns
returns c =
    let fits : FitsSigned w64 c.wrapping_rem.result = record { sfits = c.wrapping_rem.type_inv } in
    let left = to_z-of_z w64 c.args.left c.ranges.left in
    let right = to_z-of_z w64 c.args.right c.ranges.right in
    let rest : c.wrapping_rem.result ≡ int_rem c.args.left c.args.right = rw (left, right) at c.wrapping_rem.ensures in
    let kept = to_z-of_z w64 c.wrapping_rem.result fits in
    let sure : is_zero c.args.right ≡ false = is_zero-bits c.args.right c.if-right-eq0.false c.ranges.right in
    rw sure (ap Ok (kept ∙ rest ∙ sym (left-int_div c.args.left c.args.right)))
