use Rattle.std.proofs.Common.{◌≡◌, ℕ, ◌-◌, ◌<◌, false}
use Rattle.addr_slice.specs.Claims.{words_of, clash_at}
use Rattle.addr_slice.proofs.claim_set.Claims.clashes.Given as goal

abbrev pub invariant-loop-word : goal.invariant-loop-word
invariant-loop-word l = (k : ℕ) → k < l.from → clash_at l.self l.other k ≡ false

abbrev pub decreases-loop-word : goal.decreases-loop-word
decreases-loop-word l = words_of l.self - l.from
