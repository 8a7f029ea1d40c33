use Rattle.std.proofs.Common.{arith}
use Rattle.nest_data.proofs.progress.Progress.read_lines.Goals as goal

pub read_line-requires-clause-small : goal.read_line-requires-clause-small
read_line-requires-clause-small c = omega (arith, c.next_line.ensures.within, c.lines.invariant.within, c.requires.small)
