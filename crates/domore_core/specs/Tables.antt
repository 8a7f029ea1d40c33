-- The state of the abstract machine that a table holds, and what the table keeps besides.
use Rattle.std.specs.Prelude.{◌≡◌, ℕ, zero, suc, ◌%◌, ◌≤◌, ◌<◌, ◌^◌, ℤ, List, [], ◌∷◌, length, sum, Bool, true, false, if◌then◌else◌, Option, Some, None}
use Rattle.nest_syntax.specs.declared.place.Place.{Place}
use Rattle.nest_syntax.specs.Course.{Purpose, Ordinary, Header}
use Rattle.nest_syntax.specs.Arrays.{arrays_of, sizes_of}
use Rattle.nest_partition.specs.Split.{IsSplitOf}
use Rattle.word_store.specs.Memory.{HasLayout}
use Rattle.addr_slice.specs.Claims.{Claimed, words_of}
use Rattle.shadow_memory.specs.Notes.{Note}
use Rattle.shadow_memory.specs.Accesses.{IsNoted}
use Rattle.task_frame.specs.declared.piece.Piece.{Piece}
use Rattle.sched_cursor.specs.declared.event.Iteration.{Iteration}
use Rattle.sched_cursor.specs.Cursor.{Cursor}
use Rattle.sched_cursor.specs.Events.{is_iterating}
use Rattle.sched_cursor.specs.Laws.{IsCursorOf}
use Rattle.domore_machine.specs.Machine.{Setup}
use Rattle.domore_machine.specs.Facts.{Facts, computed}
use Rattle.nest_setup.specs.Setups.{claims_numbered}
use Rattle.domore_core.specs.declared.plan.Plan.{Plan}
use Rattle.domore_core.specs.declared.desk.Desk.{Desk}
use Rattle.domore_core.specs.declared.table.Table.{Table}
use Rattle.domore_core.specs.Claims.{claims_of}
use Rattle.domore_core.specs.Engine.{Engine, Stand, setup_for}

abbrev pub state_of : Table → Stand
state_of table = record {
  words = table.words.words;
  cursor = table.desk.cursor;
  next = table.desk.cursor.next;
  seats = table.seats.items;
  trap = table.trap;
  halted = table.halted;
  facts = table.desk.tally.facts;
}

-- what a machine is built on that runs to a plan
abbrev pub setup_by : Plan → Setup Iteration Cursor Piece
setup_by plan = setup_for plan.job plan.code plan.options

abbrev pub engine_of : Plan → Table → Engine
engine_of plan table = record { job = plan.job; options = plan.options; code = plan.code; state = state_of table }

abbrev pub sizes_by : Plan → List ℕ
sizes_by plan = sizes_of (arrays_of plan.job.program.decls)

-- the claims of an iteration by its number
abbrev pub claims_by : Plan → ℕ → Claimed
claims_by plan = claims_numbered plan.job.program plan.job.opening.words (claims_of plan.job.program plan.job.opening.words)

-- the notes of the iterations below n, the last first
abbrev pub notes_below : (ℕ → Claimed) → (width n : ℕ) → List Note
notes_below claims width zero = []
notes_below claims width (suc k) = record { worker = k % width; number = k; claims = claims k } ∷ notes_below claims width k

-- the counts behind an event that is no iteration, before iteration `next`: a header without a trap is counted
abbrev pub counted_by : Option Place → ℕ → Purpose → Facts → Facts
counted_by None next purpose facts = computed next purpose facts
counted_by (Some place) next purpose facts = facts

-- behind a header the cursor stands in an invocation
abbrev pub purpose_behind : Bool → Purpose
purpose_behind true = Header
purpose_behind false = Ordinary

-- the number of the next iteration behind an event that is carried out, by whether it trapped
abbrev pub next_past : Option Place → Cursor → ℕ
next_past None c = if is_iterating c.at then suc c.next else c.next
next_past (Some place) c = c.next

-- What the scheduler keeps: a cursor of the program, what it has counted so far, and the claims of the iterations that
-- were handed out.
pub record IsDeskBy (plan : Plan) (desk : Desk) : Type 0 where
  pub cursor_is : IsCursorOf plan.job.program desk.cursor
  pub options : desk.tally.options ≡ plan.options
  pub room : words_of desk.claims ≡ sum (sizes_by plan)
  pub words : desk.shadow.words ≡ sum (sizes_by plan)
  pub workers : desk.shadow.workers ≡ plan.options.workers
  pub noted : IsNoted desk.shadow (notes_below (claims_by plan) plan.options.workers desk.cursor.next)
  pub names : length desk.scalars ≡ length plan.job.program.names

-- what a table keeps
pub record IsSound (plan : Plan) (table : Table) : Type 0 where
  pub seats : length table.seats.items ≡ plan.options.workers
  pub sizes : HasLayout table.words plan.job.program.decls
  pub desk : IsDeskBy plan table.desk

-- what a plan keeps
pub record IsPlan (plan : Plan) : Type 0 where
  pub few_workers : plan.options.workers ≤ 8
  pub some_worker : 0 < plan.options.workers
  pub little_room : plan.options.queue ≤ 1024
  pub split_is : IsSplitOf plan.job.program plan.split

-- what only the scheduler changes
pub record IsSame (old new : Table) : Type 0 where
  pub seats : length new.seats.items ≡ length old.seats.items
  pub sizes : new.words.sizes ≡ old.words.sizes
  pub desk : new.desk ≡ old.desk
