use Rattle.std.proofs.Common.{◌+◌, ◌-◌, ◌≤◌}
use Rattle.range_sign.proofs.Words.{NoneBetween}
use Rattle.range_sign.proofs.exact.has_common.Given as goal

abbrev pub invariant-words : goal.invariant-words
invariant-words l = record {
  begun : l.start ≤ l.from;
  inside : l.from ≤ l.start + l.count;
  passed : NoneBetween l.first l.second l.third l.start l.from;
}

abbrev pub decreases-words : goal.decreases-words
decreases-words l = l.start + l.count - l.from
