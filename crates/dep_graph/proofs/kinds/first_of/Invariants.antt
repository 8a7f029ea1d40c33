use Rattle.std.proofs.Common.{◌≡◌, drop}
use Rattle.dep_graph.specs.Kinds.{first_where, may_depend}
use Rattle.dep_graph.proofs.kinds.first_of.Given as goal

abbrev pub invariant-loop-first : goal.invariant-loop-first
invariant-loop-first l = first_where (may_depend l.step l.second) (drop l.first-index l.accesses) ≡ first_where (may_depend l.step l.second) l.accesses
