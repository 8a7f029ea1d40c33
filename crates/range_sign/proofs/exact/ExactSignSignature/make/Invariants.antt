use Rattle.std.proofs.Common.{◌≡◌, ℕ, ◌<◌, length, take, sum, get_or}
use Rattle.range_sign.proofs.exact.ExactSignSignature.make.Given as goal

abbrev pub invariant-loop-length : goal.invariant-loop-length
invariant-loop-length l = record {
  total : l.count ≡ sum (take l.length-index l.lengths);
  as_many : length l.starts.items ≡ l.length-index;
  start_of : (array : ℕ) → array < l.length-index → get_or l.starts.items array 0 ≡ sum (take array l.lengths);
}
