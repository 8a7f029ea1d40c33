use Rattle.std.proofs.Common.{◌≡◌, ◌-◌, ◌≤◌, vec_len, replicate}
use Rattle.nest_profile.proofs.row.Row.open.Given as goal

abbrev pub invariant-open : goal.invariant-open
invariant-open g l = (l.signs.items ≡ replicate (vec_len l.signs) (g.G.Signature.nothing l.lengths)) × (vec_len l.signs ≤ l.workers)

abbrev pub decreases-open : goal.decreases-open
decreases-open g l = l.workers - vec_len l.signs
