use Rattle.std.proofs.Common.{ℕ, ◌<◌}
use Rattle.spec_checker.proofs.Reached.{IsAhead}
use Rattle.spec_checker.proofs.order.is_reached.Given as goal

abbrev pub invariant-loop-worker : goal.invariant-loop-worker
invariant-loop-worker l = (worker : ℕ) → worker < l.worker → IsAhead l.finished l.task worker
