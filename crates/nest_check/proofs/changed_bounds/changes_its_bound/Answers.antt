use Rattle.data_local.specs.Names.{scalars_in}
use Rattle.nest_check.specs.ChangedBounds.{arrays_in}
use Rattle.nest_check.proofs.changed_bounds.changes_its_bound.Goals as goal

pub returns : goal.returns
returns c = c.is_changed.ensures (scalars_in c.args.one.now.high) (arrays_in c.args.one.now.high) (record { of_scalars = c.in_ok-high.ensures.scalars; of_arrays = c.in_ok-high.ensures.arrays })
