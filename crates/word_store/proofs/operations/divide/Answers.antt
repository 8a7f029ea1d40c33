use Rattle.std.proofs.Common.{◌≡◌, ◌∙◌, ap, false, w64, FitsSigned, int_div, Ok}
use Rattle.std.proofs.lemmas.Int.{to_z-of_z}
use Rattle.std.specs.Int.{int_wrap}
use Rattle.nest_syntax.specs.Words.{is_zero}
use Rattle.word_store.proofs.Wrapping.{int_wrap-int_div, is_zero-bits}
use Rattle.word_store.proofs.operations.divide.Goals as goal

pub returns : goal.returns
returns c =
    let fits : FitsSigned w64 c.wrapping_div.result = record { sfits = c.wrapping_div.type_inv } in
    let left = to_z-of_z w64 c.args.left c.ranges.left in
    let right = to_z-of_z w64 c.args.right c.ranges.right in
    let quotient : c.wrapping_div.result ≡ int_wrap w64 (int_div c.args.left c.args.right) = rw (left, right) at c.wrapping_div.ensures ∙ int_wrap-int_div c.args.left c.args.right c.ranges.left in
    let kept = to_z-of_z w64 c.wrapping_div.result fits in
    let sure : is_zero c.args.right ≡ false = is_zero-bits c.args.right c.if-right-eq0.false c.ranges.right in
    rw sure (ap Ok (kept ∙ quotient))
