use Rattle.std.proofs.Common.{◌≡◌, take}
use Rattle.nest_partition.proofs.split.copies.Given as goal

abbrev pub invariant-loop-list : goal.invariant-loop-list
invariant-loop-list l = l.copied.items ≡ take l.list-index l.lists
