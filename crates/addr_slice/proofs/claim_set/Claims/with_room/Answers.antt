use Rattle.std.proofs.Common.{rules}
use Rattle.addr_slice.proofs.Filled.{none_even}
use Rattle.addr_slice.proofs.claim_set.Claims.with_room.Goals as goal

pub invariant_of-result : goal.invariant_of-result
invariant_of-result c = none_even _ _ _ _ c.in_ok-empty.ensures c.in_ok-empty-2.ensures c.in_ok-empty-3.ensures (search rules)
