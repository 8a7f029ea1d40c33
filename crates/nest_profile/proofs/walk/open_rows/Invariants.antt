use Rattle.std.proofs.Common.{◌≡◌, ◌-◌, ◌≤◌, vec_len, replicate}
use Rattle.nest_syntax.specs.Among.{Each}
use Rattle.nest_profile.specs.declared.row.Row.{Row}
use Rattle.nest_profile.specs.Walked.{sizes_in}
use Rattle.nest_profile.proofs.walk.open_rows.Given as goal

abbrev pub invariant-epochs : goal.invariant-epochs
invariant-epochs g l = Each (λ (row : Row g.row.G.Denot). row.signs.items ≡ replicate l.plan.options.workers (g.G.Signature.nothing (sizes_in l.job))) l.rows.items × (vec_len l.rows ≤ l.epochs)

abbrev pub decreases-epochs : goal.decreases-epochs
decreases-epochs g l = l.epochs - vec_len l.rows
