use Rattle.std.proofs.Common.{◌≡◌, ◌++◌, drop}
use Rattle.dep_graph.specs.Forms.{sums}
use Rattle.dep_graph.proofs.forms.sums.Given as goal

abbrev pub invariant-loop-k : goal.invariant-loop-k
invariant-loop-k l = l.sums ++ sums (drop l.k l.factors) (drop l.k l.others) ≡ sums l.factors l.others
