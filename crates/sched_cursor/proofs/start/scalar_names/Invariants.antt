use Rattle.sched_cursor.proofs.Numbers.{Numbers}
use Rattle.sched_cursor.proofs.start.scalar_names.Given as goal

abbrev pub invariant-loop-name : goal.invariant-loop-name
invariant-loop-name l = Numbers l.fn.checked l.name l.names
