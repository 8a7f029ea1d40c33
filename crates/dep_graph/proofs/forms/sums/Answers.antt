use Rattle.std.proofs.Common.{rules, ◌≡◌, pos, ◌+ℤ◌, get_or, FitsSigned, w64, [], ◌∷◌, ◌++◌, ap, ◌∙◌}
use Rattle.std.proofs.lemmas.Int.{to_z-of_z}
use Rattle.nest_syntax.specs.Words.{wrap}
use Rattle.dep_graph.proofs.Gathers.{sums_more, sums_end}
use Rattle.dep_graph.proofs.forms.sums.Goals as goal

pub loop-k-preserved : goal.loop-k-preserved
loop-k-preserved c =
    let sum : c.added.result ≡ wrap (get_or c.args.factors.now c.loop-k.k (pos 0) +ℤ get_or c.args.others.now c.loop-k.k (pos 0)) = search rules in
    let fits : FitsSigned w64 c.added.result = search rules in
    let pushed : c.push.new.self ≡ c.loop-k.sums ++ c.added.result ∷ [] = c.in_ok-push.ensures.ok ∙ ap (λ x. c.loop-k.sums ++ x ∷ []) (to_z-of_z w64 c.added.result fits) in
    sums_more c.args.factors.now c.args.others.now c.loop-k.k c.min-k-end.result c.min-k-end.ensures c.loop-k-test.true c.added.result sum c.loop-k.sums c.push.new.self _ pushed c.loop-k.invariant

pub returns : goal.returns
returns c = sums_end c.args.factors.now c.args.others.now c.loop-k.k c.min-k-end.result c.min-k-end.ensures c.loop-k-test.false c.loop-k.sums _ c.loop-k.invariant
