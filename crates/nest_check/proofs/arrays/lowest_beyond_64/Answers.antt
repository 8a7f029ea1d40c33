use Rattle.nest_check.specs.Rules.{first_behind, array_lines, region_lines}
use Rattle.nest_check.proofs.Lines.{lowest_of_two}
use Rattle.nest_check.proofs.arrays.lowest_beyond_64.Goals as goal

pub returns : goal.returns
returns c = lowest_of_two _ _ _ _ (first_behind 64 (array_lines c.args.program.now.decls)) (first_behind 64 (region_lines c.args.program.now.regions)) c.new-found.ensures (rw c.as_slice.ensures at c.note_array.ensures) (rw c.as_slice-2.ensures at c.note_region.ensures) c.line.ensures
