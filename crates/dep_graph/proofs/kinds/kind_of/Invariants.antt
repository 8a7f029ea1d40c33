use Rattle.std.proofs.Common.{◌≡◌, [], drop, take, map, filter}
use Rattle.dep_graph.specs.Kinds.{is_write, kind_from}
use Rattle.dep_graph.proofs.kinds.kind_of.Given as goal

abbrev pub invariant-loop-k : goal.invariant-loop-k
invariant-loop-k l = record {
  left : kind_from l.step (take l.k l.accesses) (drop l.k l.accesses) ≡ kind_from l.step [] l.accesses;
  writes : map (λ a. a.now) l.writes.items ≡ filter is_write (take l.k l.accesses);
}
