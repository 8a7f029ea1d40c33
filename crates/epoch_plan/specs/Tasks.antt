-- Tasks of a segment: a task is an epoch's block of one worker. They stand in order of epoch and then worker.
use Rattle.std.specs.Prelude.{ℕ, zero, suc, Bool, ◌&&◌, not, ◌==◌, nat_lt, nat_le, List, [], ◌∷◌, ◌++◌, filter, slice_index}
use Rattle.nest_syntax.specs.declared.names.TaskName.{TaskName}
use Rattle.epoch_plan.specs.declared.tasks.Seen.{Seen}

abbrev pub task : ℕ → ℕ → TaskName
task epoch worker = record { epoch = epoch; worker = worker }

-- how many epochs of a worker were seen finished
abbrev pub saw : Seen → ℕ → ℕ
saw seen worker = slice_index seen.0 worker

-- An early task and a late one, which saw `seen` as it began, are unordered where nothing puts the one before the other:
-- their epochs rise, their workers differ, and the late one began before the early one was finished.
abbrev pub is_unordered : Seen → TaskName → TaskName → Bool
is_unordered seen early late = nat_lt early.epoch late.epoch && not (early.worker == late.worker) && nat_le (saw seen early.worker) early.epoch

-- the tasks of the first workers in an epoch
abbrev pub tasks_in : ℕ → ℕ → List TaskName
tasks_in epoch zero = []
tasks_in epoch (suc worker) = tasks_in epoch worker ++ task epoch worker ∷ []

-- the tasks of all epochs below a number
abbrev pub tasks_below : ℕ → ℕ → List TaskName
tasks_below workers zero = []
tasks_below workers (suc epoch) = tasks_below workers epoch ++ tasks_in epoch workers

-- the tasks that are unordered with a late one, in order
abbrev pub unordered_tasks : Seen → TaskName → ℕ → List TaskName
unordered_tasks seen late workers = filter (λ early. is_unordered seen early late) (tasks_below workers late.epoch)
