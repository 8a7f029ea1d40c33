use Rattle.std.proofs.Common.{◌≡◌, pos, length, replicate}
use Rattle.sched_cursor.specs.Events.{value_of}
use Rattle.sched_cursor.proofs.Filling.{filled}
use Rattle.sched_cursor.proofs.cursor.values_of.Given as goal

abbrev pub invariant-loop-number : goal.invariant-loop-number
invariant-loop-number l = (l.values ≡ filled (value_of l.scalars) l.number l.names (replicate 32 (pos 0))) × (length l.names ≡ 32)
