use Rattle.nest_check.specs.Entries.{scalars_in}
use Rattle.nest_check.proofs.Room.{bodies_lowest, regions_lowest, scalars_first}
use Rattle.nest_check.proofs.items.sizes_of.Goals as goal

pub returns-clause-bodies : goal.returns-clause-bodies
returns-clause-bodies c = bodies_lowest _ (record { tally = record { room = 65; names = c.declare_scalars.new.names }; bodies = c.new-2.result; regions = c.new-3.result }) c.args.program.now.regions (rw c.as_slice-2.ensures at c.in_ok-pass_regions.ensures) c.new-2.ensures

pub returns-clause-regions : goal.returns-clause-regions
returns-clause-regions c = regions_lowest _ (record { tally = record { room = 65; names = c.declare_scalars.new.names }; bodies = c.new-2.result; regions = c.new-3.result }) c.args.program.now.regions (rw c.as_slice-2.ensures at c.in_ok-pass_regions.ensures) c.new-3.ensures

pub returns-clause-scalars : goal.returns-clause-scalars
returns-clause-scalars c = scalars_first _ (record { tally = record { room = 65; names = c.declare_scalars.new.names }; bodies = c.new-2.result; regions = c.new-3.result }) _ (scalars_in c.args.program.now.decls) c.args.program.now.regions (rw c.as_slice-2.ensures at c.in_ok-pass_regions.ensures) c.new.ensures (rw c.as_slice.ensures at c.in_ok-declare_scalars.ensures)
