use Rattle.std.proofs.Common.{◌<◌, length, sym, ◌∙◌, arith}
use Rattle.epoch_plan.proofs.Names.{room, passed-more, passed-same}
use Rattle.epoch_plan.proofs.tasks.unordered_pairs.Goals as goal
use Rattle.epoch_plan.proofs.tasks.unordered_pairs.Goals.{then-unordered, else-unordered}

module _ (c : goal.Then-unordered) where
  free : c.loop-worker.count < length c.args.into.now
  free = omega (
    arith,
    c.loop-worker.invariant.counted,
    room c.args.seen.now c.args.late c.args.workers c.requires.worker c.loop-epoch.epoch c.loop-worker.worker (length c.args.into.now) c.loop-worker-test.true c.loop-epoch-test.true c.requires.room (sym c.unordered.ensures ∙ c.if-unordered.true),
  )

pub bounds-into-count : goal.bounds-into-count
bounds-into-count c = omega (arith, free c)

pub offset_bounds-into-count : goal.offset_bounds-into-count
offset_bounds-into-count c = omega (arith, free c)

pub loop-worker-preserved : goal.loop-worker-preserved
loop-worker-preserved c = elim c.if-unordered.branch [
  | then-unordered w ↦ rw (w.count-is, w.into-is)
      (passed-more c.args.seen.now c.args.late c.args.workers c.requires.worker c.args.into.now c.loop-worker.into c.loop-epoch.epoch c.loop-worker.worker c.loop-worker.count c.loop-worker-test.true c.loop-epoch-test.true c.requires.room (sym c.unordered.ensures ∙ w.if-unordered.true) c.loop-worker.invariant)
  | else-unordered w ↦ rw (w.count-is, w.into-is)
      (passed-same c.args.seen.now c.args.late c.args.workers c.requires.worker c.args.into.now c.loop-worker.into c.loop-epoch.epoch c.loop-worker.worker c.loop-worker.count (sym c.unordered.ensures ∙ w.if-unordered.false) c.loop-worker.invariant)
]
