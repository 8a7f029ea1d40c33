use Rattle.std.proofs.Common.{◌≡◌, true, get_or, subst, sym, arith, rules}
use Rattle.std.proofs.lemmas.Grind.{common_steps}
use Rattle.range_sign.specs.declared.spans.Spans.{Spans}
use Rattle.range_sign.specs.Ranges.{Ranges, spans_at, EndsInside}
use Rattle.range_sign.proofs.range.RangeSign.spans_at.Goals as goal

pub returns-clause-inside : goal.returns-clause-inside
returns-clause-inside c =
    let is : c.index.result.now ≡ spans_at c.args.self.now.spans c.args.array = first_of (search rules, grind (arith, common_steps)) in
    subst (λ (s : Spans). EndsInside (get_or c.args.self.now.sizes c.args.array 0) s.written) (sym is)
    (subst (λ (r : Ranges). EndsInside (get_or r.sizes c.args.array 0) (spans_at r.spans c.args.array).written) c.self.view_is (c.self.invariant.inside c.args.array true))
