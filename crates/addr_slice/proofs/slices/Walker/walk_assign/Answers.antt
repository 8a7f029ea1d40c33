use Rattle.std.proofs.lemmas.Result.{err_from_is_err_and}
use Rattle.addr_slice.proofs.Meeting.{does_then, does_stop}
use Rattle.addr_slice.proofs.slices.Walker.walk_assign.Goals as goal

pub returns-in_err-walk : goal.returns-in_err-walk
returns-in_err-walk c =
    let p = err_from_is_err_and c.from_residual.result c.from_residual.ensures.1 in
    rw (p.1, p.2) (does_stop _ _ _ _ _ _ _ _ _ c.in_err-walk.ensures)

pub returns : goal.returns
returns c = does_then _ _ _ _ _ _ _ _ _ _ _ _ c.in_ok-walk.ensures (c.assign.ensures _)
