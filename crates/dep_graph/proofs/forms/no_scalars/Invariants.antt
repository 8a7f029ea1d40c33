use Rattle.std.proofs.Common.{◌≡◌, replicate, pos}
use Rattle.dep_graph.proofs.forms.no_scalars.Given as goal

abbrev pub invariant-loop-number : goal.invariant-loop-number
invariant-loop-number l = l.scalars ≡ replicate l._number (pos 0)
