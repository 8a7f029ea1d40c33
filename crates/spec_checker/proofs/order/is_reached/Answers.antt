use Rattle.std.proofs.Common.{sym, refl, ◌∙◌, arith, below_more}
use Rattle.std.proofs.lemmas.Bool.{true≢false}
use Rattle.spec_checker.proofs.Reached.{IsAhead, reached-from, ahead-from}
use Rattle.spec_checker.proofs.order.is_reached.Goals as goal

pub loop-worker-preserved : goal.loop-worker-preserved
loop-worker-preserved c =
    below_more (λ worker. IsAhead c.args.finished.now c.args.task worker) c.loop-worker.worker c.loop-worker.invariant (c.is_ahead.ensures.0 c.if-not-is_ahead.false)

pub returns-then-not-is_ahead : goal.returns-then-not-is_ahead
returns-then-not-is_ahead c = (
  λ no. absurd (true≢false (sym no)),
  λ reached. absurd (true≢false (sym (c.is_ahead.ensures.1 (ahead-from c.args.finished.now c.args.workers c.args.task reached c.loop-worker.worker c.loop-worker-test.true)) ∙ c.if-not-is_ahead.true)),
)

pub returns : goal.returns
returns c = (
  λ _. reached-from c.args.finished.now c.args.workers c.args.task (λ worker own. c.loop-worker.invariant worker (omega (arith, own, c.loop-worker-test.false))),
  λ _. refl,
)
