use Rattle.nest_check.specs.Rules.{lengths_outside, sum_passes}
use Rattle.nest_check.proofs.Lines.{lowest_of_two}
use Rattle.nest_check.proofs.arrays.lowest_wrong_length.Goals as goal

pub returns : goal.returns
returns c = lowest_of_two _ _ _ _ (lengths_outside c.args.program.now.decls) (sum_passes 0 c.args.program.now.decls) c.new-found.ensures (rw c.as_slice.ensures at c.note_lengths.ensures) (rw c.as_slice-2.ensures at c.note_sum.ensures) c.line.ensures
