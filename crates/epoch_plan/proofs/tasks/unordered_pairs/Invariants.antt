use Rattle.std.proofs.Common.{◌++◌}
use Rattle.std.specs.List.{filter}
use Rattle.epoch_plan.specs.Tasks.{is_unordered, tasks_in, tasks_below}
use Rattle.epoch_plan.proofs.Names.{IsFront}
use Rattle.epoch_plan.proofs.tasks.unordered_pairs.Given as goal

abbrev pub invariant-loop-epoch : goal.invariant-loop-epoch
invariant-loop-epoch l = IsFront l.fn.into (filter (λ early. is_unordered l.seen early l.late) (tasks_below l.workers l.epoch)) l.count l.into

abbrev pub invariant-loop-worker : goal.invariant-loop-worker
invariant-loop-worker l = IsFront l.fn.into (filter (λ early. is_unordered l.seen early l.late) (tasks_below l.workers l.epoch ++ tasks_in l.epoch l.worker)) l.count l.into
