use Rattle.std.proofs.lemmas.Bool.{false≢true}
use Rattle.std.proofs.lemmas.Result.{err_from_is_err_and}
use Rattle.addr_slice.proofs.Meeting.{goes_on, stops}
use Rattle.addr_slice.proofs.Walking.{passes_on, write_changes}
use Rattle.addr_slice.proofs.slices.Walker.write.Goals as goal

pub returns-in_err-access : goal.returns-in_err-access
returns-in_err-access c =
    let p = err_from_is_err_and c.from_residual.result c.from_residual.ensures.1 in
    rw (p.1, p.2) (write_changes _ _ _ _ _ _ _ _ _ _ _ (λ is. false≢true (rw is at c.if-eq.ensures)) (stops _ _ _ _ _ _ _ _ c.in_err-access.ensures))

pub returns : goal.returns
returns c = write_changes _ _ _ _ _ _ _ _ _ _ _ (λ is. false≢true (rw is at c.if-eq.ensures)) (goes_on _ _ _ _ _ _ _ _ _ _ c.in_ok-access.ensures (passes_on _ _ _ _ _ _ _ _ c.pass.ensures c.access-3.ensures))
