use Rattle.std.proofs.Common.{sym, ◌∙◌}
use Rattle.spec_checker.proofs.Passing.{all-next, all-row, closed-start, closed-end, first-here, Closed}
use Rattle.spec_checker.proofs.walk.Checker.first_open.Goals as goal

pub loop-epoch-init : goal.loop-epoch-init
loop-epoch-init c = closed-start c.args.self.now c.args.seen.now c.args.late c.args.workers c.max-start.result c.first_early_epoch.result c.least_seen.result c.max-start.ensures c.first_early_epoch.ensures c.least_seen.ensures

pub loop-worker-preserved : goal.loop-worker-preserved
loop-worker-preserved c = all-next (Closed c.args.self.now c.args.seen.now c.args.late c.args.workers) c.args.workers c.loop-epoch.epoch c.loop-worker.worker c.loop-worker.invariant (sym c.is_open.ensures ∙ c.if-is_open.false)

pub loop-epoch-preserved : goal.loop-epoch-preserved
loop-epoch-preserved c = all-row (Closed c.args.self.now c.args.seen.now c.args.late c.args.workers) c.args.workers c.loop-epoch.epoch c.loop-worker.worker c.loop-worker-test.false c.loop-worker.invariant

pub returns-then-is_open : goal.returns-then-is_open
returns-then-is_open c = first-here c.args.self.now c.args.seen.now c.args.late c.args.workers c.loop-epoch.epoch c.loop-worker.worker c.loop-worker-test.true c.loop-worker.invariant (sym c.is_open.ensures ∙ c.if-is_open.true)

pub returns : goal.returns
returns c = closed-end c.args.self.now c.args.seen.now c.args.late c.args.workers c.loop-epoch.epoch c.loop-epoch.invariant c.loop-epoch-test.false
