use Rattle.std.proofs.Common.{◌≡◌, drop}
use Rattle.std.specs.List.{list_all}
use Rattle.nest_syntax.specs.Words.{is_zero}
use Rattle.dep_graph.proofs.forms.are_zero.Given as goal

abbrev pub invariant-loop-factor : goal.invariant-loop-factor
invariant-loop-factor l = list_all is_zero (drop l.factor-index l.factors) ≡ list_all is_zero l.factors
