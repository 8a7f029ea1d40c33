use Rattle.sched_cursor.proofs.Whole.{cursors_follow}
use Rattle.sched_cursor.proofs.laws.cursors_follow.Goals as goal

pub returns : goal.returns
returns c = cursors_follow
