use Rattle.std.proofs.Common.{◌≡◌}
use Rattle.sched_cursor.proofs.Clearing.{cleared}
use Rattle.sched_cursor.proofs.start.clear_scalars.Given as goal

abbrev pub invariant-loop-name : goal.invariant-loop-name
invariant-loop-name l = l.scalars ≡ cleared l.name l.fn.scalars
