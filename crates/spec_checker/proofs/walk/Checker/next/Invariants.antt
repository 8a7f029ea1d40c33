use Rattle.epoch_plan.specs.Tasks.{task}
use Rattle.spec_checker.proofs.Passing.{AllBefore, IsThrough}
use Rattle.spec_checker.proofs.walk.Checker.next.Given as goal

abbrev pub invariant-loop-epoch : goal.invariant-loop-epoch
invariant-loop-epoch l = AllBefore (IsThrough l.self l.workers l.seen) l.workers (task l.epoch 0)

abbrev pub invariant-loop-worker : goal.invariant-loop-worker
invariant-loop-worker l = AllBefore (IsThrough l.self l.workers l.seen) l.workers (task l.epoch l.worker)
