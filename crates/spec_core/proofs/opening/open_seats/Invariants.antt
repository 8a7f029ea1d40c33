use Rattle.std.proofs.Common.{◌≡◌, ◌-◌, ◌≤◌, vec_len, replicate}
use Rattle.spec_machine.specs.Machine.{Idle}
use Rattle.spec_core.specs.Tables.{sizes_by}
use Rattle.spec_core.proofs.opening.open_seats.Given as goal

abbrev pub invariant-open : goal.invariant-open
invariant-open g l = (l.seats.items ≡ replicate (vec_len l.seats) (record { hand = Idle; done = 0; begun = 0; signs = replicate l.plan.options.segment (g.G.Signature.nothing (sizes_by l.plan)) })) × (vec_len l.seats ≤ l.workers)

abbrev pub decreases-open : goal.decreases-open
decreases-open g l = l.workers - vec_len l.seats
