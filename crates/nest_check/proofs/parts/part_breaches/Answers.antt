use Rattle.nest_check.specs.Rules.{parts_of}
use Rattle.nest_check.proofs.Lines.{steps_lowest, levels_lowest, depths_lowest}
use Rattle.nest_check.proofs.parts.part_breaches.Goals as goal

pub returns-clause-steps : goal.returns-clause-steps
returns-clause-steps c = steps_lowest _ (record { steps = c.new.result; levels = c.new-2.result; depths = c.new-3.result }) (parts_of c.args.program.now) (rw c.as_slice.ensures at c.walk_regions.ensures) c.new.ensures

pub returns-clause-levels : goal.returns-clause-levels
returns-clause-levels c = levels_lowest _ (record { steps = c.new.result; levels = c.new-2.result; depths = c.new-3.result }) (parts_of c.args.program.now) (rw c.as_slice.ensures at c.walk_regions.ensures) c.new-2.ensures

pub returns-clause-depths : goal.returns-clause-depths
returns-clause-depths c = depths_lowest _ (record { steps = c.new.result; levels = c.new-2.result; depths = c.new-3.result }) (parts_of c.args.program.now) (rw c.as_slice.ensures at c.walk_regions.ensures) c.new-3.ensures
