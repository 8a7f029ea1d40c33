use Rattle.std.proofs.Common.{◌≡◌, ◌-◌, ◌≤◌, vec_len, replicate}
use Rattle.domore_machine.specs.Machine.{opening_seat}
use Rattle.domore_core.proofs.opening.open_seats.Given as goal

abbrev pub invariant-open : goal.invariant-open
invariant-open l = (l.seats.items ≡ replicate (vec_len l.seats) opening_seat) × (vec_len l.seats ≤ l.workers)

abbrev pub decreases-open : goal.decreases-open
decreases-open l = l.workers - vec_len l.seats
