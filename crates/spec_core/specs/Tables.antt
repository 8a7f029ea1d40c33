-- The state of the abstract machine that a table holds, and what the table keeps besides.
use Rattle.std.specs.Prelude.{◌≡◌, ℕ, ◌+◌, ◌*◌, ◌≤◌, ◌<◌, ◌^◌, List, [], ◌∷◌, ◌++◌, map, length, Some, false, slice_index_or}
use Rattle.std.specs.Option.{option_map}
use Rattle.nest_syntax.specs.Among.{Each}
use Rattle.nest_syntax.specs.Arrays.{Array, arrays_of, sizes_of}
use Rattle.nest_syntax.specs.Shape.{bodies_of}
use Rattle.word_store.specs.Memory.{HasLayout}
use Rattle.task_frame.specs.declared.piece.Piece.{Piece}
use Rattle.sched_cursor.specs.declared.node.At.{At}
use Rattle.sched_cursor.specs.declared.node.At.TheVariants as at
use Rattle.sched_cursor.specs.Cursor.{Cursor}
use Rattle.sched_cursor.specs.Turning.{Reaches}
use Rattle.sched_cursor.specs.Laws.{IsCursorOf}
use Rattle.epoch_plan.specs.declared.blocks.Epoch.{Epoch as Planned}
use Rattle.epoch_plan.specs.Blocks.{most_trips}
use Rattle.spec_setup.specs.Signs.{Signs}
use Rattle.spec_checker.specs.Order.{Pair as Names}
use Rattle.spec_checker.specs.Due.{IsReached}
use Rattle.spec_machine.specs.Facts.{opened}
use Rattle.spec_machine.specs.Machine.{Setup}
use Rattle.spec_core.specs.declared.plan.Plan.{Plan}
use Rattle.spec_core.specs.declared.desk.Desk.{Desk}
use Rattle.spec_core.specs.declared.table.Table.{Table}
use Rattle.spec_setup.specs.Setups.{Invoked, is_do_all}
pub use Rattle.spec_setup.specs.Ahead.{HasFew, HandGoesOn, GoesOn}
use Rattle.spec_core.specs.Hands.{Bench, seats_of}
use Rattle.spec_core.specs.Reports.{abort_in}
use Rattle.spec_core.specs.Passed.{passed_in}
use Rattle.spec_core.specs.Blocks.{invocation_in, epochs_in}
use Rattle.spec_core.specs.Engine.{Stand, setup_for}

abbrev pub state_of : {G : Type 0} → Table G → Stand G
state_of table = record {
  words = table.words.words;
  mark = table.mark.words;
  cursor = table.desk.cursor;
  next = table.desk.cursor.next;
  early = table.desk.early;
  epochs = epochs_in table.desk.epochs;
  sealed = table.desk.sealed;
  distance = table.distance;
  seats = seats_of table.seen.items table.seats.items;
  passed = passed_in (length table.seats.items) (length table.desk.epochs) table.seen.items table.checker;
  abort = option_map abort_in table.abort;
  trap = table.trap;
  concluded = table.concluded;
  facts = table.desk.tally.facts;
}

-- what a machine is built on that runs to a plan
abbrev pub setup_by : {G : Type 0} → Signs G → Plan → Setup Invoked Cursor Piece G
setup_by signs plan = setup_for signs plan.job plan.code plan.options

abbrev pub sizes_by : Plan → List ℕ
sizes_by plan = sizes_of (arrays_of plan.job.program.decls)

-- what a plan keeps
pub record IsPlan (plan : Plan) : Type 0 where
  pub few_workers : plan.options.workers ≤ 8
  pub some_worker : 0 < plan.options.workers
  pub some_epoch : 0 < plan.options.segment
  pub few_epochs : plan.options.segment ≤ 64
  pub near : plan.options.distance ≤ 64
  pub bodies : length plan.code.entries ≡ length (bodies_of plan.job.program)
  pub many_shared : length plan.shared.items ≡ length plan.code.entries
  pub shared : (b : Invoked) → b.body < length plan.code.entries → slice_index_or plan.shared.items b.body false ≡ is_do_all plan.job.program b
  pub consts : plan.consts.items ≡ map (λ (a : Array). a.fixed) (arrays_of plan.job.program.decls)

-- an open epoch is of a body that the code has, its variable is a word in each turn, and its turns are shared out where
-- the plan says so
pub record IsEpochBy (plan : Plan) (x : Planned) : Type 0 where
  pub body : x.body < length plan.code.entries
  pub trips : x.trips ≤ most_trips
  pub reach : Reaches x.low x.step x.trips
  pub all : x.all ≡ is_do_all plan.job.program (invocation_in x)
  pub numbers : x.first + x.trips ≤ 2 ^ 60

-- an invocation that was entered stands before its first turn
abbrev pub IsFresh : At → Type 0
IsFresh (at.Before next) = Unit {0}
IsFresh (at.Inside i) = i.turning.turn ≡ 0

-- what the scheduler keeps
pub record IsDeskBy (plan : Plan) (desk : Desk) : Type 0 where
  pub cursor_is : IsCursorOf plan.job.program desk.cursor
  pub fresh : IsFresh desk.cursor.at
  pub options : desk.tally.options ≡ plan.options
  pub epochs : Each (IsEpochBy plan) desk.epochs
  pub few : length desk.epochs ≤ plan.options.segment

-- what a worker keeps: a place for the signature of each epoch, all of the program's layout
pub record IsBenchBy {G : Type 0} (sizes_in : G → List ℕ) (plan : Plan) (bench : Bench G) : Type 0 where
  pub places : length bench.signs ≡ plan.options.segment
  pub sizes : Each (λ (sign : G). sizes_in sign ≡ sizes_by plan) bench.signs
  pub begun : bench.begun ≤ plan.options.segment
  pub done : bench.done ≤ bench.begun

-- What a table keeps; up to the late task of the pair that was passed last all tasks are finished.
pub record IsSound {G : Type 0} (sizes_in : G → List ℕ) (plan : Plan) (table : Table G) : Type 0 where
  pub seats : length table.seats.items ≡ plan.options.workers
  pub benches : Each (IsBenchBy sizes_in plan) table.seats.items
  pub seen : length table.seen.items ≡ plan.options.segment * plan.options.workers
  pub sizes : HasLayout table.words plan.job.program.decls
  pub mark : HasLayout table.mark plan.job.program.decls
  pub desk : IsDeskBy plan table.desk
  pub near : table.distance ≤ 64
  pub reached : (names : Names) → table.checker ≡ Some names → IsReached (map (λ (b : Bench G). b.done) table.seats.items) (length table.seats.items) names.1

-- one epoch more is open, and the cursor behind its invocation
pub record IsOpenedBy (plan : Plan) (old new : Desk) (b : Invoked) (n : ℕ) (rest : Cursor) : Type 0 where
  pub epochs : epochs_in new.epochs ≡ epochs_in old.epochs ++ record { first = old.cursor.next; count = n; body = b } ∷ []
  pub cursor : new.cursor ≡ rest
  pub next : rest.next ≡ old.cursor.next + n
  pub kept : new ≡ record old { cursor = new.cursor; epochs = new.epochs; tally = record old.tally { facts = opened n old.tally.facts } }
