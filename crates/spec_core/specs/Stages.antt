-- What a worker has to look at, by its hand.
use Rattle.std.specs.Prelude.{ℕ, zero, suc, if◌then◌else◌, nat_lt, Option, Some, None}
use Rattle.nest_syntax.specs.declared.place.Place.{Place}
use Rattle.task_frame.specs.declared.piece.Piece.{Piece}
use Rattle.spec_machine.specs.Invocations.{Event}
use Rattle.spec_machine.specs.Invocations as events
use Rattle.spec_machine.specs.Machine.{Hand, Idle, Empty, Running, Stopped}
use Rattle.spec_core.specs.declared.stage.Stage.{Stage}
use Rattle.spec_core.specs.declared.stage.Stage.TheVariants as stage
use Rattle.spec_core.specs.declared.moves.Move.{Move}
use Rattle.spec_core.specs.declared.moves.Move.TheVariants.{Turn, Hop}
use Rattle.spec_core.specs.declared.moves.Turn.{Turn as OwnMove}
use Rattle.spec_core.specs.declared.moves.Turn.TheVariants.{Scalar, Drain, Open, Close, Conclude, Finish, Stop}

abbrev pub stage_of : Hand Piece → Stage
stage_of Idle = stage.Idle
stage_of Empty = stage.Empty
stage_of (Running k piece) = stage.Standing k
stage_of Stopped = stage.Stopped

-- the move of a worker that stands at iteration k
abbrev pub standing_move : Option Place → ℕ → Move
standing_move None k = Hop
standing_move (Some trap) k = if nat_lt k trap.number then Hop else Turn Stop

-- the move of a worker whose task has no iteration
abbrev pub empty_move : Option Place → Move
empty_move None = Turn Finish
empty_move (Some trap) = Turn Stop

-- the scheduler's move where nothing comes, and at a drain, with so many open epochs
abbrev pub turn_at_end : ℕ → OwnMove
turn_at_end zero = Conclude
turn_at_end (suc open_epochs) = Close

abbrev pub drain_turn : ℕ → OwnMove
drain_turn zero = Drain
drain_turn (suc open_epochs) = Close

abbrev pub event_turn : {B C : Type 0} → (room count : ℕ) → Event B C → OwnMove
event_turn room count events.End = turn_at_end count
event_turn room count (events.Scalar purpose trap rest) = if nat_lt count room then Scalar else Close
event_turn room count (events.Drain purpose traps rests) = drain_turn count
event_turn room count (events.Invoke b n rest) = if nat_lt count room then Open else Close

abbrev pub early_turn : {B C : Type 0} → (room count : ℕ) → Event B C → Option Place → OwnMove
early_turn room count event None = event_turn room count event
early_turn room count event (Some trap) = turn_at_end count
