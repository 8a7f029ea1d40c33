use Rattle.std.proofs.Common.{◌≡◌, ◌-◌, ◌≤◌, vec_len, replicate}
use Rattle.spec_core.proofs.seat.Seat.open.Given as goal

abbrev pub invariant-open : goal.invariant-open
invariant-open g l = (l.signs.items ≡ replicate (vec_len l.signs) (g.G.Signature.nothing l.lengths)) × (vec_len l.signs ≤ l.epochs)

abbrev pub decreases-open : goal.decreases-open
decreases-open g l = l.epochs - vec_len l.signs
