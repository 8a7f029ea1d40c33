-- What can be gone on with, in each state that a legal history leaves.
use Rattle.std.specs.Prelude.{ℕ, ◌<◌, ◌^◌, ℤ, List, length}
use Rattle.nest_syntax.specs.declared.tree.Program.{Program}
use Rattle.nest_syntax.specs.Arrays.{arrays_of, sizes_of}
use Rattle.addr_slice.specs.Claims.{Claimed}
use Rattle.settle_law.specs.Courses.{nest_of}
use Rattle.task_code.specs.Code.{Code}
use Rattle.task_frame.specs.declared.piece.Piece.{Piece}
use Rattle.task_frame.specs.Pieces.{reached}
use Rattle.task_frame.specs.Stops.{IsInside, StopsInside}
use Rattle.sched_cursor.specs.declared.event.Iteration.{Iteration}
use Rattle.sched_cursor.specs.Cursor.{Cursor}
use Rattle.sched_cursor.specs.Laws.{restarted}
use Rattle.domore_machine.specs.Machine.{State, Seat, Hand, Idle, Holding, Ended, Ticket, seat_at}
use Rattle.domore_machine.specs.Invariant.{Each}
use Rattle.domore_machine.specs.Theorems.{Leads}
use Rattle.nest_setup.specs.Setups.{setup_of, IsPrepared}

-- what is held goes on inside the arrays, and what is queued is of a body that the code has
abbrev pub HandGoesOn : List ℕ → Hand Piece → Type 0
HandGoesOn sizes Idle = Unit {0}
HandGoesOn sizes (Holding k left piece) = IsInside sizes (reached piece).stop × (k < 2 ^ 63)
HandGoesOn sizes Ended = Unit {0}

pub record SeatGoesOn (sizes : List ℕ) (code : Code) (seat : Seat Iteration Piece) : Type 0 where
  pub hand : HandGoesOn sizes seat.hand
  pub queue : Each (λ (t : Ticket Iteration). t.body.body < length code.entries) seat.queue

-- So it is along each history of a program's machine, where the code's stops are inside the arrays.
abbrev pub SeatsGoOn : Type 0
SeatsGoOn = (program : Program) (opening : List ℤ) (code : Code) (claims : ℕ × List ℤ → Claimed) (cursor : Cursor) (width room : ℕ) → IsPrepared program opening code claims cursor width room
    → StopsInside (sizes_of (arrays_of program.decls)) code
    → (history : List ℕ) (s : State Iteration Cursor Piece) → Leads (setup_of program opening code claims width room) (nest_of program opening) (restarted program cursor) history s
    → (u : ℕ) → SeatGoesOn (sizes_of (arrays_of program.decls)) code (seat_at s.seats u)
