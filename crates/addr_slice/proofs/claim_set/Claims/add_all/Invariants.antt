use Rattle.std.proofs.Common.{◌≡◌}
use Rattle.addr_slice.specs.Claims.{with_stretch}
use Rattle.addr_slice.proofs.claim_set.Claims.add_all.Given as goal

abbrev pub invariant-loop-k : goal.invariant-loop-k
invariant-loop-k l = l.self ≡ with_stretch l.fn.self l.first l.k l.write
