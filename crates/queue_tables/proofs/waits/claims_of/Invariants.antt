use Rattle.std.proofs.Common.{◌≡◌}
use Rattle.addr_slice.specs.Claims.{words_of}
use Rattle.queue_tables.proofs.waits.claims_of.Given as goal

abbrev pub invariant-loop-claim : goal.invariant-loop-claim
invariant-loop-claim l = words_of l.claims ≡ 4
