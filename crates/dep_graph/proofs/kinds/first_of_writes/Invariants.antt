use Rattle.std.proofs.Common.{◌≡◌, drop, map}
use Rattle.dep_graph.specs.Kinds.{first_where, may_depend}
use Rattle.dep_graph.proofs.kinds.first_of_writes.Given as goal

abbrev pub invariant-loop-first : goal.invariant-loop-first
invariant-loop-first l = first_where (may_depend l.step l.second) (map (λ a. a.now) (drop l.first-index l.accesses)) ≡ first_where (may_depend l.step l.second) (map (λ a. a.now) l.accesses)
