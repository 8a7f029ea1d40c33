use Rattle.std.proofs.Common.{◌≡◌, ◌++◌, map, drop}
use Rattle.nest_syntax.specs.Arrays.{arrays_of}
use Rattle.sched_cursor.specs.Steps.{is_drain}
use Rattle.sched_cursor.proofs.drains.drains_of.Given as goal

abbrev pub invariant-loop-node : goal.invariant-loop-node
invariant-loop-node l = l.drains.items ++ map (is_drain (arrays_of l.checked.decls)) (drop l.node-index l.nodes) ≡ map (is_drain (arrays_of l.checked.decls)) l.nodes
