use Rattle.std.proofs.Common.{◌≡◌, ◌+◌, sum, take}
use Rattle.trace_order.proofs.settled.locate.Given as goal

abbrev pub invariant-loop-array : goal.invariant-loop-array
invariant-loop-array l = l.word ≡ sum (take l.array l.words.sizes) + l.place
