use Rattle.std.proofs.Common.{sym, ◌∙◌, subst}
use Rattle.std.proofs.lemmas.Bool.{true≢false}
use Rattle.epoch_plan.specs.declared.tasks.Seen.{Seen}
use Rattle.epoch_plan.specs.Tasks.{task}
use Rattle.spec_checker.specs.Due.{NoneOpenWith, IsFirstOpenWith}
use Rattle.spec_checker.proofs.Passing.{all-next, all-row, through-start, none-unreached, none-end, due-here, entry-within, IsThrough}
use Rattle.spec_checker.proofs.walk.Checker.next.Goals as goal

pub loop-epoch-init : goal.loop-epoch-init
loop-epoch-init c = through-start c.args.self.now c.args.workers c.args.seen.now c.first_late_epoch-epoch.result c.first_late_epoch-epoch.ensures

pub seen_by-requires : goal.seen_by-requires
seen_by-requires c = entry-within c.args.self.now c.args.finished.now c.args.workers c.args.seen.now c.requires.entries (task c.loop-epoch.epoch c.loop-worker.worker) c.loop-worker-test.true (c.is_reached.ensures.0 c.if-not-is_reached.false)

pub loop-worker-preserved : goal.loop-worker-preserved
loop-worker-preserved c =
    all-next (IsThrough c.args.self.now c.args.workers c.args.seen.now) c.args.workers c.loop-epoch.epoch c.loop-worker.worker c.loop-worker.invariant
    (subst (λ (entry : Seen). NoneOpenWith c.args.self.now entry c.args.workers (task c.loop-epoch.epoch c.loop-worker.worker)) c.seen_by.ensures c.in_default.ensures)

pub loop-epoch-preserved : goal.loop-epoch-preserved
loop-epoch-preserved c = all-row (IsThrough c.args.self.now c.args.workers c.args.seen.now) c.args.workers c.loop-epoch.epoch c.loop-worker.worker c.loop-worker-test.false c.loop-worker.invariant

pub returns-then-not-is_reached : goal.returns-then-not-is_reached
returns-then-not-is_reached c = none-unreached c.args.self.now c.args.finished.now c.args.workers c.args.seen.now c.loop-epoch.epoch c.loop-worker.worker c.loop-worker.invariant (λ reached. true≢false (sym (c.is_reached.ensures.1 reached) ∙ c.if-not-is_reached.true))

pub returns-in-Some : goal.returns-in-Some
returns-in-Some c =
    due-here c.args.self.now c.args.finished.now c.args.workers c.args.seen.now (task c.loop-epoch.epoch c.loop-worker.worker) c.in-Some.early c.loop-worker-test.true c.loop-worker.invariant (c.is_reached.ensures.0 c.if-not-is_reached.false)
    (subst (λ (entry : Seen). IsFirstOpenWith c.args.self.now entry c.args.workers (task c.loop-epoch.epoch c.loop-worker.worker) c.in-Some.early) c.seen_by.ensures c.in-Some.ensures)

pub returns : goal.returns
returns c = none-end c.args.self.now c.args.finished.now c.args.workers c.args.seen.now c.loop-epoch.epoch c.loop-epoch.invariant c.requires.some c.loop-epoch-test.false
