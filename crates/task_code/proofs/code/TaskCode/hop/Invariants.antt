use Rattle.std.proofs.Common.{◌-◌}
use Rattle.arrayvec.specs.ArrayVec.{array_vec_len}
use Rattle.task_code.proofs.Hops.{IsGathered}
use Rattle.task_code.proofs.code.TaskCode.hop.Given as goal

abbrev pub decreases-loop-here : goal.decreases-loop-here
decreases-loop-here l = 32 - array_vec_len l.operations

abbrev pub invariant-loop-here : goal.invariant-loop-here
invariant-loop-here l = IsGathered l.self.instructions l.fn.at l.operations.items l.here
