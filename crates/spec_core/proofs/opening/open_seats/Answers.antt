use Rattle.spec_core.proofs.Opened.{few}
use Rattle.spec_core.proofs.opening.open_seats.Goals as goal

pub open-requires : goal.open-requires
open-requires g c = few c.args.plan.now.job _ _ c.checked.ensures.runs c.checked.ensures.same c.lengths.ensures
