use Rattle.dep_graph.specs.Seen.{AreFree}
use Rattle.dep_graph.proofs.free.free_accesses.Given as goal

abbrev pub invariant-loop-array : goal.invariant-loop-array
invariant-loop-array l = AreFree l.step l.accesses l.free.items
