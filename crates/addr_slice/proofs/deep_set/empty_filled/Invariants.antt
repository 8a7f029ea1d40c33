use Rattle.std.proofs.Common.{◌≡◌, ℕ, ◌-◌, ◌<◌, ◌≤◌, length, get_or}
use Rattle.addr_slice.proofs.deep_set.empty_filled.Given as goal

abbrev pub invariant-loop-row : goal.invariant-loop-row
invariant-loop-row l = record {
  done : (r : ℕ) → r < l.from → get_or l.rows r 0 ≡ 0;
  left : (r : ℕ) → l.from ≤ r → get_or l.rows r 0 ≡ get_or l.fn.rows r 0;
}

abbrev pub decreases-loop-row : goal.decreases-loop-row
decreases-loop-row l = length l.rows - l.from
