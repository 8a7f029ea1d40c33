use Rattle.nest_syntax.specs.Arrays.{arrays_of}
use Rattle.nest_partition.proofs.split.Split.drains.Goals as goal

pub returns : goal.returns
returns c = λ program split. c.are_named_in.ensures (arrays_of program.decls) (rw (← c.self.view_is) at split.written)
