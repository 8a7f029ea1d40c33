use Rattle.std.proofs.Common.{◌≡◌, map, drop}
use Rattle.nest_syntax.specs.Lowest.{lower_of, lowest, lines_where}
use Rattle.data_local.specs.Loops.{line_of}
use Rattle.nest_check.specs.ChangedBounds.{changes_its_bound}
use Rattle.nest_check.proofs.changed_bounds.lowest_changed_bound.Given as goal

abbrev pub invariant-loop-one : goal.invariant-loop-one
invariant-loop-one l = lower_of l.found (lines_where line_of changes_its_bound (map (λ x. x.now) (drop l.one-index l.one-items))) ≡ lowest (lines_where line_of changes_its_bound (map (λ x. x.now) l.one-items))
