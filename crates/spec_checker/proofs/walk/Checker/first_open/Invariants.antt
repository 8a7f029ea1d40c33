use Rattle.epoch_plan.specs.Tasks.{task}
use Rattle.spec_checker.proofs.Passing.{AllBefore, Closed}
use Rattle.spec_checker.proofs.walk.Checker.first_open.Given as goal

abbrev pub invariant-loop-epoch : goal.invariant-loop-epoch
invariant-loop-epoch l = AllBefore (Closed l.self l.seen l.late l.workers) l.workers (task l.epoch 0)

abbrev pub invariant-loop-worker : goal.invariant-loop-worker
invariant-loop-worker l = AllBefore (Closed l.self l.seen l.late l.workers) l.workers (task l.epoch l.worker)
