use Rattle.sched_cursor.proofs.Whole.{whole_invocations_follow}
use Rattle.sched_cursor.proofs.laws.whole_invocations_follow.Goals as goal

pub returns : goal.returns
returns c = whole_invocations_follow
