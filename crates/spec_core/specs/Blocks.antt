-- The iterations of a task.
use Rattle.std.specs.Prelude.{ℕ, pos, suc, ◌+◌, ◌-◌, ◌&&◌, Bool, false, if◌then◌else◌, nat_lt, Option, Some, None, List, map, [], length, slice_index_or}
use Rattle.epoch_plan.specs.declared.blocks.Epoch.{Epoch as Planned}
use Rattle.task_code.specs.Code.{Code}
use Rattle.task_frame.specs.declared.piece.Piece.{Piece}
use Rattle.nest_setup.specs.Pieces.{opening_piece}
use Rattle.spec_machine.specs.Machine.{share, Hand, Empty, Running, Epoch}
use Rattle.spec_setup.specs.Setups.{Invoked, handed}

abbrev pub invocation_in : Planned → Invoked
invocation_in x = record { body = x.body; low = x.low; step = x.step; env = x.env }

-- the epoch with an index
abbrev pub no_epoch : Planned
no_epoch = record { body = 0; first = 0; low = pos 0; step = 1; trips = 0; all = false; env = [] }

abbrev pub planned_at : List Planned → ℕ → Planned
planned_at epochs e = slice_index_or epochs e no_epoch

abbrev pub epoch_in : Planned → Epoch Invoked
epoch_in x = record { first = x.first; count = x.trips; body = invocation_in x }

abbrev pub epochs_in : List Planned → List (Epoch Invoked)
epochs_in = map epoch_in

-- the first one of worker w, in the epoch with an index
abbrev pub begins : Planned → (workers index w : ℕ) → ℕ
begins x workers index w = x.first + share x.all workers index x.trips w

-- from the first number up to and without the second; none where the task has no iteration
abbrev pub block_in : Planned → (workers index w : ℕ) → Option (ℕ × ℕ)
block_in x workers index w = if nat_lt (begins x workers index w) (begins x workers index (suc w)) then Some (begins x workers index w, begins x workers index (suc w)) else None

-- whether task (e, w) has an iteration below n
abbrev pub starts_below : Option (ℕ × ℕ) → ℕ → Bool
starts_below (Some block) n = nat_lt block.0 n
starts_below None n = false

abbrev pub has_below_in : ℕ → List Planned → (e w n : ℕ) → Bool
has_below_in workers epochs e w n = nat_lt e (length epochs) && starts_below (block_in (planned_at epochs e) workers e w) n

-- how a task with this block begins
abbrev pub first_in : Code → Planned → Option (ℕ × ℕ) → Hand Piece
first_in code x (Some block) = Running block.0 (opening_piece code (handed (invocation_in x) (block.0 - x.first)))
first_in code x None = Empty
