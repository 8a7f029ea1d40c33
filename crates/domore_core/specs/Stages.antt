-- What a worker has to look at, by its seat.
use Rattle.std.specs.Prelude.{ℕ, if◌then◌else◌, nat_lt, Option, Some, None, List, [], ◌∷◌}
use Rattle.task_frame.specs.declared.piece.Piece.{Piece}
use Rattle.sched_cursor.specs.declared.event.Iteration.{Iteration}
use Rattle.sched_cursor.specs.Cursor.{Cursor}
use Rattle.domore_machine.specs.Machine.{State, Seat, Hand, Idle, Holding, Ticket, is_above, done_at}
use Rattle.domore_core.specs.declared.stage.Stage.{Stage}
use Rattle.domore_core.specs.declared.stage.Stage.TheVariants.{Ended, Free, Next, Waiting, Standing}
use Rattle.domore_core.specs.declared.moves.Move.{Move}
use Rattle.domore_core.specs.declared.moves.Move.TheVariants.{Turn, Hop}
use Rattle.domore_core.specs.declared.moves.Turn.TheVariants.{Take, Pass, DropHeld, DropQueued, End}

abbrev pub stage_in : Hand Piece → List (Ticket Iteration) → Stage
stage_in Idle [] = Free
stage_in Idle (ticket ∷ queue) = Next ticket.number
stage_in (Holding number [] piece) queue = Standing number
stage_in (Holding number (w ∷ left) piece) queue = Waiting number w
stage_in _ queue = Ended

abbrev pub stage_of : Seat Iteration Piece → Stage
stage_of seat = stage_in seat.hand seat.queue

-- the move of a worker, by its stage
abbrev pub stage_move : State Iteration Cursor Piece → Stage → Option Move
stage_move s Ended = None
stage_move s Free = if s.halted then Some (Turn End) else None
stage_move s (Next number) = if is_above s.trap number then Some (Turn DropQueued) else Some (Turn Take)
stage_move s (Waiting number w) = if is_above s.trap number then Some (Turn DropHeld) else (if nat_lt w.number (done_at s.seats w.worker) then Some (Turn Pass) else None)
stage_move s (Standing number) = if is_above s.trap number then Some (Turn DropHeld) else Some Hop

-- the number of the held iteration, and else of the first ticket
abbrev pub number_in : Hand Piece → List (Ticket Iteration) → ℕ
number_in Idle [] = 0
number_in Idle (ticket ∷ queue) = ticket.number
number_in (Holding number left piece) queue = number
number_in _ queue = 0

abbrev pub number_at : Seat Iteration Piece → ℕ
number_at seat = number_in seat.hand seat.queue
