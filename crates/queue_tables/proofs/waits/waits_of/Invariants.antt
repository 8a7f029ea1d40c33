use Rattle.std.proofs.Common.{◌≡◌}
use Rattle.queue_tables.proofs.waits.waits_of.Given as goal

abbrev pub invariant-loop-number : goal.invariant-loop-number
invariant-loop-number l = (l.shadow.words ≡ l.fn.shadow.words) × (l.shadow.workers ≡ l.fn.shadow.workers)
