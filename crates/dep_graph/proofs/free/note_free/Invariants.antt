use Rattle.std.proofs.Common.{take}
use Rattle.nest_syntax.specs.Among.{Each}
use Rattle.dep_graph.specs.Seen.{IsKnown, AreFree}
use Rattle.dep_graph.proofs.free.note_free.Given as goal

abbrev pub invariant-loop-k : goal.invariant-loop-k
invariant-loop-k l = record {
  free : AreFree l.step l.accesses l.free.items;
  known : Each (IsKnown l.array l.known) (take l.k l.accesses);
}
