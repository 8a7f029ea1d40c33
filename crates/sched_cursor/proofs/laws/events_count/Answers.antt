use Rattle.sched_cursor.proofs.Counting.{events_count}
use Rattle.sched_cursor.proofs.laws.events_count.Goals as goal

pub returns : goal.returns
returns c = events_count
