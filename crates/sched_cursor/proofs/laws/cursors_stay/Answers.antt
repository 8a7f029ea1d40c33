use Rattle.sched_cursor.proofs.Cursors.{cursors_stay}
use Rattle.sched_cursor.proofs.laws.cursors_stay.Goals as goal

pub returns : goal.returns
returns c = cursors_stay
