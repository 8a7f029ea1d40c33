use Rattle.std.proofs.Common.{◌≡◌, ◌%◌, ◌^◌, ◌∙◌, pos, ◌*ℤ◌, sym, ap, w64, FitsSigned, Ok}
use Rattle.std.proofs.lemmas.Int.{to_z-of_z}
use Rattle.std.specs.Int.{int_shl}
use Rattle.nest_syntax.specs.Words as word
use Rattle.word_store.proofs.Wrapping.{int_wrap-int_shl}
use Rattle.word_store.proofs.operations.shift_left.Goals as goal

pub returns : goal.returns
returns c =
    let fits : FitsSigned w64 c.wrapping_shl.result = record { sfits = c.wrapping_shl.type_inv } in
    let left = to_z-of_z w64 c.args.left c.ranges.left in
    let by = to_z-of_z w64 c.args.by c.ranges.by in
    let count : c.shift_count.result ≡ word.shift_count c.args.by = c.shift_count.ensures ∙ ap word.shift_count by in
    let shifted : c.wrapping_shl.result ≡ word.wrap (c.args.left *ℤ pos (2 ^ word.shift_count c.args.by)) =
    c.wrapping_shl.ensures
    ∙ ap (λ a. int_shl w64 a (c.shift_count.result % 64)) left
    ∙ ap (λ k. int_shl w64 c.args.left (k % 64)) count
    ∙ int_wrap-int_shl c.args.left c.args.by c.ranges.left in
    ap Ok (sym (to_z-of_z w64 c.wrapping_shl.result fits ∙ shifted))
