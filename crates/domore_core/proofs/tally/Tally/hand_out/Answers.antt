use Rattle.std.proofs.Common.{◌≡◌, ℕ, suc, ◌+◌, drop, ap, ◌∙◌, arith}
use Rattle.std.proofs.lemmas.List.{drop_all}
use Rattle.domore_core.specs.Tallies.{Tallied, tallied, with_waits}
use Rattle.domore_core.proofs.Tallying.{handed_out}
use Rattle.domore_core.proofs.tally.Tally.hand_out.Goals as goal

pub returns : goal.returns
returns c =
    let report = c.self.inside.report in
    let first = c.self.inside.first in
    let t : Tallied = tallied report first in
    let waits = c.args.waits.now in
    let left = drop c.loop-wait.wait-index waits in
    let is : t ≡ c.loop-wait.self = c.self.view_is in
    let more : report.iterations + 1 ≡ suc report.iterations = omega arith in
    ap (λ (n : ℕ). let u : Tallied = record t { facts = record t.facts { iterations = n } } in u) more
    ∙ handed_out report first c.args.number c.args.self.now waits left c.self.invariant (drop_all c.loop-wait.wait-index waits c.loop-wait-test.false) (ap (λ (u : Tallied). u.options) is ∙ c.loop-wait.invariant.options) (ap (λ (u : Tallied). with_waits c.args.number u.facts left) is ∙ c.loop-wait.invariant.same)
