use Rattle.std.proofs.Common.{map, take}
use Rattle.settle_law.specs.Traces.{InOrder}
use Rattle.trace_order.specs.Swaps.{traced}
use Rattle.trace_order.proofs.order.in_order.Given as goal

abbrev pub invariant-loop-second : goal.invariant-loop-second
invariant-loop-second l = InOrder (map traced (take l.second l.accesses))
