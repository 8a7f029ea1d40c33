-- What can be gone on with, in each state that a legal history leaves.
use Rattle.std.specs.Prelude.{◌≡◌, ℕ, ◌<◌, ◌^◌, ℤ, Some, None, List, length}
use Rattle.nest_syntax.specs.declared.tree.Program.{Program}
use Rattle.nest_syntax.specs.Arrays.{arrays_of, sizes_of}
use Rattle.addr_slice.specs.Claims.{Claimed}
use Rattle.settle_law.specs.Courses.{Iterate, iteration_at, nest_of}
use Rattle.task_code.specs.Code.{Code}
use Rattle.task_frame.specs.declared.piece.Piece.{Piece}
use Rattle.sched_cursor.specs.declared.event.Iteration.{Iteration}
use Rattle.sched_cursor.specs.Cursor.{Cursor}
use Rattle.sched_cursor.specs.Handed.{what_of}
use Rattle.sched_cursor.specs.Laws.{restarted, SameConst}
use Rattle.domore_machine.specs.Machine.{State, seat_at}
use Rattle.domore_machine.specs.Facts.{Facts}
use Rattle.domore_machine.specs.Invariant.{AllTickets}
use Rattle.domore_machine.specs.Theorems.{Leads}
use Rattle.nest_setup.specs.Setups.{setup_of, IsPrepared}
use Rattle.nest_setup.specs.Ahead.{SeatGoesOn}
use Rattle.domore_core.specs.Engine.{Engine, setup_in, nest_in}

-- the counts have room for more
pub record HasFew (facts : Facts) : Type 0 where
  pub invocations : facts.invocations < 2 ^ 63
  pub iterations : facts.iterations < 2 ^ 63
  pub waits : facts.waits < 2 ^ 63
  pub crossing : facts.crossing < 2 ^ 63

-- What holds of each state that a legal history leaves, as far as the engine needs it: the tickets are in order, what is
-- handed out is the nest's next iteration, `const` words are those of the opening, pieces and tickets can be gone on with,
-- and the counts have room.
pub record GoesOn (e : Engine) : Type 0 where
  pub tickets : AllTickets (setup_in e) e.state
  pub hands_out : (b : Iteration) (rest : Cursor) → e.state.trap ≡ None → (setup_in e).event e.state.cursor ≡ Iterate b rest → iteration_at (nest_in e.job) e.state.next ≡ Some (what_of e.job.program b)
  pub fixed : SameConst (arrays_of e.job.program.decls) e.state.words e.job.opening.words
  pub seats : (u : ℕ) → SeatGoesOn (sizes_of (arrays_of e.job.program.decls)) e.code (seat_at e.state.seats u)
  pub few : HasFew e.state.facts
