use Rattle.std.proofs.Common.{◌≡◌, drop}
use Rattle.task_hop.specs.Meaning.{meaning, carried_out}
use Rattle.task_hop.proofs.hop.Hop.run.Given as goal

abbrev pub invariant-loop-operation : goal.invariant-loop-operation
invariant-loop-operation l = meaning l.self l.fn.frame ≡ carried_out (drop l.operation-index l.self.operations.items) l.self.end l.frame
