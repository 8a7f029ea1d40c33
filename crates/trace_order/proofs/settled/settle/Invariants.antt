use Rattle.std.proofs.Common.{◌≡◌, length, map, drop}
use Rattle.settle_law.specs.Traces as law
use Rattle.trace_order.specs.Swaps.{traced}
use Rattle.trace_order.proofs.settled.settle.Given as goal

abbrev pub invariant-loop-access : goal.invariant-loop-access
invariant-loop-access l = record {
  sizes : l.words.sizes ≡ l.base.sizes;
  count : length l.words.words ≡ length l.base.words;
  settles : law.settle l.words.words (map traced (drop l.access-index l.accesses)) ≡ law.settle l.base.words (map traced l.accesses);
}
