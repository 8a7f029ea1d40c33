use Rattle.std.proofs.Common.{◌≡◌, ℕ, ◌-◌, ◌*◌, ◌<◌, ◌≤◌, false, length}
use Rattle.addr_slice.specs.WordSet.{in_rows}
use Rattle.addr_slice.proofs.bits.next_in_rows.Given as goal

abbrev pub invariant-loop-at : goal.invariant-loop-at
invariant-loop-at l = record {
  forward : l.fn.from ≤ l.at;
  passed : (k : ℕ) → l.fn.from ≤ k → k < l.at → in_rows l.rows k ≡ false;
}

abbrev pub decreases-loop-at : goal.decreases-loop-at
decreases-loop-at l = 64 * length l.rows - l.at
