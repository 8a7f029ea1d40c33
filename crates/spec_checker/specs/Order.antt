-- The order of tasks and of pairs of them. Tasks stand in order of epoch and then worker.
use Rattle.std.specs.Prelude.{Bool, false, not, ◌==◌, nat_lt, ◌&&◌, ◌||◌, Option, Some, None}
use Rattle.nest_syntax.specs.declared.names.TaskName.{TaskName}

abbrev pub is_before : TaskName → TaskName → Bool
is_before first second = nat_lt first.epoch second.epoch || (first.epoch == second.epoch && nat_lt first.worker second.worker)

-- an early task and a late one
abbrev pub Pair : Type 0
Pair = TaskName × TaskName

-- pairs stand in order of the late task and then the early one
abbrev pub is_pair_before : Pair → Pair → Bool
is_pair_before first second =
    is_before first.1 second.1 || ((first.1.epoch == second.1.epoch && first.1.worker == second.1.worker) && is_before first.0 second.0)

-- a pair is passed where it stands at or before the last one that was
abbrev pub is_passed : Option Pair → Pair → Bool
is_passed None pair = false
is_passed (Some last) pair = not (is_pair_before last pair)
