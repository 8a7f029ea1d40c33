use Rattle.std.proofs.Common.{◌≤◌, length}
use Rattle.data_local.specs.Reached.{IsSearch}
use Rattle.data_local.proofs.reach.search.Given as goal

abbrev pub invariant-loop-next : goal.invariant-loop-next
invariant-loop-next l = record {
  searched : IsSearch l.starts l.edges l.found.keys l.next;
  within : l.next ≤ length l.found.keys;
}
