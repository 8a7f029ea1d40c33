use Rattle.spec_core.proofs.Opened.{few}
use Rattle.nest_profile.proofs.walk.open_rows.Goals as goal

pub open-requires : goal.open-requires
open-requires g c = few c.args.job.now _ _ c.checked.ensures.runs c.checked.ensures.same c.lengths.ensures
