use Rattle.std.proofs.lemmas.Result.{err_from_is_err_and}
use Rattle.addr_slice.proofs.Meeting.{goes_on, stops, walks_nothing}
use Rattle.addr_slice.proofs.Walking.{decided_both, decided_first, decided_second, passes_on, walks_on, walks_same, walks_number, walks_scalar, walks_word, walks_unary, walks_binary, walks_both, walks_either, walks_plain, walks_choice}
use Rattle.addr_slice.proofs.slices.Walker.+expression.Goals as goal

pub walk-returns-in-Number : goal.walk-returns-in-Number
walk-returns-in-Number t c = rw c.in-Number.is (walks_number _ _ _ _ _ _ _ _ _ (walks_nothing _ _ _))

pub walk-returns-in-Scalar : goal.walk-returns-in-Scalar
walk-returns-in-Scalar t c = rw c.in-Scalar.is (walks_scalar _ _ _ _ _ _ _ _ _ (walks_nothing _ _ _))

pub walk-returns-in_err-walk-in-Word : goal.walk-returns-in_err-walk-in-Word
walk-returns-in_err-walk-in-Word t c =
    let p = err_from_is_err_and c.from_residual.result c.from_residual.ensures.1 in
    rw (p.1, p.2, c.in-Word.is) (walks_word _ _ _ _ _ _ _ _ _ _ (stops _ _ _ _ _ _ _ _ (walks_same _ _ _ _ _ _ _ _ _ _ c.get.ensures c.in_err-walk-in-Word.ensures)))

pub walk-returns-in_ok-walk-in-Word : goal.walk-returns-in_ok-walk-in-Word
walk-returns-in_ok-walk-in-Word t c =
    rw c.in-Word.is (walks_word _ _ _ _ _ _ _ _ _ _ (goes_on _ _ _ _ _ _ _ _ _ _ (walks_same _ _ _ _ _ _ _ _ _ _ c.get.ensures c.in_ok-walk-in-Word.ensures)
    (rw (c.get-in-Word.ensures, c.is_written-is_claimed.ensures _ c.requires.ready.split) at c.access.ensures)))

pub walk_tested-returns-in_err-walk : goal.walk_tested-returns-in_err-walk
walk_tested-returns-in_err-walk t c =
    let p = err_from_is_err_and c.from_residual.result c.from_residual.ensures.1 in
    rw (p.1, p.2) (stops _ _ _ _ _ _ _ _ c.in_err-walk.ensures)

pub walk_tested-returns : goal.walk_tested-returns
walk_tested-returns t c = walks_on _ _ _ _ _ _ _ c.in_ok-walk.ensures c.pass.ensures

pub walk-returns-in_err-walk-in-Unary : goal.walk-returns-in_err-walk-in-Unary
walk-returns-in_err-walk-in-Unary t c =
    let p = err_from_is_err_and c.from_residual-in_err-walk-in-Unary.result c.from_residual-in_err-walk-in-Unary.ensures.1 in
    rw (p.1, p.2, c.in-Unary.is) (walks_unary _ _ _ _ _ _ _ _ _ _ (stops _ _ _ _ _ _ _ _ (walks_same _ _ _ _ _ _ _ _ _ _ c.get-in-Unary.ensures c.in_err-walk-in-Unary.ensures)))

pub walk-returns-in_ok-walk-in-Unary : goal.walk-returns-in_ok-walk-in-Unary
walk-returns-in_ok-walk-in-Unary t c = rw c.in-Unary.is (walks_unary _ _ _ _ _ _ _ _ _ _ (walks_on _ _ _ _ _ _ _ (walks_same _ _ _ _ _ _ _ _ _ _ c.get-in-Unary.ensures c.in_ok-walk-in-Unary.ensures) c.pass.ensures))

pub walk-returns-in_err-walk-in-Binary : goal.walk-returns-in_err-walk-in-Binary
walk-returns-in_err-walk-in-Binary t c =
    let p = err_from_is_err_and c.from_residual-in_err-walk-in-Binary.result c.from_residual-in_err-walk-in-Binary.ensures.1 in
    rw (p.1, p.2, c.in-Binary.is) (walks_binary _ _ _ _ _ _ _ _ _ _ _ (stops _ _ _ _ _ _ _ _ (walks_same _ _ _ _ _ _ _ _ _ _ c.get-in-Binary.ensures c.in_err-walk-in-Binary.ensures)))

pub walk-returns-in_err-walk-in_default : goal.walk-returns-in_err-walk-in_default
walk-returns-in_err-walk-in_default t c =
    let p = err_from_is_err_and c.from_residual-in_err-walk-in_default.result c.from_residual-in_err-walk-in_default.ensures.1 in
    rw (p.1, p.2, c.in-Binary.is) (walks_plain _ _ _ _ _ _ _ _ _ _ _ c.in_default.not-Both c.in_default.not-Either (goes_on _ _ _ _ _ _ _ _ _ _ (walks_same _ _ _ _ _ _ _ _ _ _ c.get-in-Binary.ensures c.in_ok-walk-in-Binary.ensures) (stops _ _ _ _ _ _ _ _ (walks_same _ _ _ _ _ _ _ _ _ _ c.get-in_default.ensures c.in_err-walk-in_default.ensures))))

pub walk-returns-in_err-walk-in-Choice : goal.walk-returns-in_err-walk-in-Choice
walk-returns-in_err-walk-in-Choice t c =
    let p = err_from_is_err_and c.from_residual-in_err-walk-in-Choice.result c.from_residual-in_err-walk-in-Choice.ensures.1 in
    rw (p.1, p.2, c.in-Choice.is) (walks_choice _ _ _ _ _ _ _ _ _ _ _ (stops _ _ _ _ _ _ _ _ (walks_same _ _ _ _ _ _ _ _ _ _ c.get-in-Choice.ensures c.in_err-walk-in-Choice.ensures)))

pub walk-returns-in_ok-walk-in_default : goal.walk-returns-in_ok-walk-in_default
walk-returns-in_ok-walk-in_default t c = rw c.in-Binary.is (walks_plain _ _ _ _ _ _ _ _ _ _ _ c.in_default.not-Both c.in_default.not-Either (goes_on _ _ _ _ _ _ _ _ _ _ (walks_same _ _ _ _ _ _ _ _ _ _ c.get-in-Binary.ensures c.in_ok-walk-in-Binary.ensures) (goes_on _ _ _ _ _ _ _ _ _ _ (walks_same _ _ _ _ _ _ _ _ _ _ c.get-in_default.ensures c.in_ok-walk-in_default.ensures) ((rw (c.get-in_default-2.ensures, c.get-in_default-3.ensures) at c.operate.ensures) _))))

pub walk-returns-in-Both : goal.walk-returns-in-Both
walk-returns-in-Both t c = rw c.in-Binary.is (walks_both _ _ _ _ _ _ _ _ _ _ _ c.in-Both.is (goes_on _ _ _ _ _ _ _ _ _ _ (walks_same _ _ _ _ _ _ _ _ _ _ c.get-in-Binary.ensures c.in_ok-walk-in-Binary.ensures) (passes_on _ _ _ _ _ _ _ _ c.pass-in-Both.ensures (decided_first _ _ _ _ _ (rw c.get-in-Both.ensures at c.told-known.ensures) _ _ _ _ _ _ (rw c.get-in-Both-2.ensures at c.walk_tested_if.ensures)))))

pub walk-returns-in-Either : goal.walk-returns-in-Either
walk-returns-in-Either t c = rw c.in-Binary.is (walks_either _ _ _ _ _ _ _ _ _ _ _ c.in-Either.is (goes_on _ _ _ _ _ _ _ _ _ _ (walks_same _ _ _ _ _ _ _ _ _ _ c.get-in-Binary.ensures c.in_ok-walk-in-Binary.ensures) (passes_on _ _ _ _ _ _ _ _ c.pass-in-Either.ensures (decided_second _ _ _ _ _ (rw c.get-in-Either.ensures at c.told.ensures) _ _ _ _ _ _ (rw (c.get-in-Either-2.ensures, c.flipped-known.ensures) at c.walk_tested_if-in-Either.ensures)))))

pub walk-returns-in_err-walk_if-in-Choice : goal.walk-returns-in_err-walk_if-in-Choice
walk-returns-in_err-walk_if-in-Choice t c =
    let p = err_from_is_err_and c.from_residual-in_err-walk_if-in-Choice.result c.from_residual-in_err-walk_if-in-Choice.ensures.1 in
    rw (p.1, p.2, c.in-Choice.is) (walks_choice _ _ _ _ _ _ _ _ _ _ _ (goes_on _ _ _ _ _ _ _ _ _ _ (walks_same _ _ _ _ _ _ _ _ _ _ c.get-in-Choice.ensures c.in_ok-walk-in-Choice.ensures) (passes_on _ _ _ _ _ _ _ _ c.pass-in-Choice.ensures (decided_both _ _ _ _ _ (rw c.get-in-Choice-2.ensures at c.told-known-in-Choice.ensures) _ _ _ _ _ _ _ (stops _ _ _ _ _ _ _ _ (rw c.get-in-Choice-3.ensures at c.in_err-walk_if-in-Choice.ensures))))))

pub walk-returns-in_ok-walk_if-in-Choice : goal.walk-returns-in_ok-walk_if-in-Choice
walk-returns-in_ok-walk_if-in-Choice t c = rw c.in-Choice.is (walks_choice _ _ _ _ _ _ _ _ _ _ _ (goes_on _ _ _ _ _ _ _ _ _ _ (walks_same _ _ _ _ _ _ _ _ _ _ c.get-in-Choice.ensures c.in_ok-walk-in-Choice.ensures) (passes_on _ _ _ _ _ _ _ _ c.pass-in-Choice.ensures (decided_both _ _ _ _ _ (rw c.get-in-Choice-2.ensures at c.told-known-in-Choice.ensures) _ _ _ _ _ _ _ (goes_on _ _ _ _ _ _ _ _ _ _ (rw c.get-in-Choice-3.ensures at c.in_ok-walk_if-in-Choice.ensures) (rw (c.get-in-Choice-4.ensures, c.flipped.ensures) at c.walk_if-in-Choice.ensures))))))
