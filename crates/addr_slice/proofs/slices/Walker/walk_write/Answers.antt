use Rattle.std.proofs.lemmas.Result.{err_from_is_err_and}
use Rattle.addr_slice.proofs.Meeting.{does_then, does_stop, does_end}
use Rattle.addr_slice.proofs.slices.Walker.walk_write.Goals as goal

pub returns-in_err-walk : goal.returns-in_err-walk
returns-in_err-walk c =
    let p = err_from_is_err_and c.from_residual.result c.from_residual.ensures.1 in
    rw (p.1, p.2) (does_stop _ _ _ _ _ _ _ _ _ c.in_err-walk.ensures)

pub returns-in_err-walk-2 : goal.returns-in_err-walk-2
returns-in_err-walk-2 c =
    let p = err_from_is_err_and c.from_residual-in_err-walk-2.result c.from_residual-in_err-walk-2.ensures.1 in
    rw (p.1, p.2) (does_then _ _ _ _ _ _ _ _ _ _ _ _ c.in_ok-walk.ensures (does_stop _ _ _ _ _ _ _ _ _ c.in_err-walk-2.ensures))

pub returns : goal.returns
returns c = does_then _ _ _ _ _ _ _ _ _ _ _ _ c.in_ok-walk.ensures (does_then _ _ _ _ _ _ _ _ _ _ _ _ c.in_ok-walk-2.ensures (does_end _ _ _ _ _ _ _ _ c.write.ensures))
