use Rattle.std.proofs.Common.{◌≡◌, ◌++◌, ◌*ℤ◌, drop, map}
use Rattle.nest_syntax.specs.Words.{wrap}
use Rattle.dep_graph.proofs.forms.products.Given as goal

abbrev pub invariant-loop-factor : goal.invariant-loop-factor
invariant-loop-factor l = l.scaled ++ map (λ c. wrap (l.by *ℤ c)) (drop l.factor-index l.factors) ≡ map (λ c. wrap (l.by *ℤ c)) l.factors
