-- The engine: the abstract machine on a job and options, with the code of the job's bodies.
use Rattle.std.specs.Prelude.{◌≡◌, ℕ, ℤ, Bool, true, false, if◌then◌else◌, Option, Some, None, List}
use Rattle.std.specs.Option.{option_map, option_map_or}
use Rattle.nest_syntax.specs.declared.place.Place.{Place}
use Rattle.nest_syntax.specs.Arrays.{arrays_of, sizes_of}
use Rattle.nest_syntax.specs.Shape.{bodies_of}
use Rattle.nest_syntax.specs.Outcome.{body_at}
use Rattle.nest_mean.specs.Nest.{Nest}
use Rattle.word_store.specs.Memory.{Memory}
use Rattle.settle_law.specs.Courses.{nest_of}
use Rattle.settle_law.specs.Courses as courses
use Rattle.turn_cost.specs.Costs.{body_cost}
use Rattle.task_code.specs.Code.{Code}
use Rattle.task_code.specs.CodeOf.{IsCodeOf}
use Rattle.task_frame.specs.declared.piece.Piece.{Piece}
use Rattle.task_frame.specs.Stops.{StopsInside}
use Rattle.sched_cursor.specs.declared.event.Iteration.{Iteration}
use Rattle.sched_cursor.specs.Cursor.{Cursor}
use Rattle.sched_cursor.specs.Laws.{IsCursorOf, restarted}
use Rattle.progress_board.specs.declared.options.Options.{Options}
use Rattle.progress_board.specs.declared.actors.Row.{Row}
use Rattle.progress_board.specs.declared.actors.Row.TheVariants as board
use Rattle.progress_board.specs.declared.actors.Work.{Work}
use Rattle.progress_board.specs.declared.actors.Work.TheVariants as work
use Rattle.progress_board.specs.declared.actors.Ask.{Ask}
use Rattle.progress_board.specs.declared.actors.Ask.TheVariants.{Ready, NotYet, Ended}
use Rattle.progress_board.specs.declared.actors.Made.{Made}
use Rattle.progress_board.specs.declared.facts.Ending.{Ending}
use Rattle.progress_board.specs.declared.facts.Ending.TheVariants.{Unfinished, Done, Trapped}
use Rattle.progress_board.specs.declared.facts.Facts.{Facts as Report}
use Rattle.progress_board.specs.Actors.{actors_of}
use Rattle.progress_board.specs.Runs.{IsLegal}
use Rattle.domore_machine.specs.Machine.{Setup, State, Hand, Idle, Holding, DoScalar, DoClose, DoDrain, DoDispatch, DoHalt, DoTake, DoPass, DoRead, DoWrite, DoGo, DoFinish, DoTrap, DoDropHeld, DoDropQueued, DoEnd, seat_at}
use Rattle.domore_machine.specs.Machine as machine
use Rattle.domore_machine.specs.Rows as rows
use Rattle.domore_machine.specs.Runs as runs
use Rattle.domore_machine.specs.Measure.{bound}
use Rattle.nest_tasks.specs.Longest.{longest}
use Rattle.nest_setup.specs.Setups.{setup_of}
use Rattle.nest_setup.specs.Laws.{cost_by}
use Rattle.domore_core.specs.declared.moves.Move.{Move as Told}
use Rattle.domore_core.specs.declared.moves.Move.TheVariants.{Turn, Hop}
use Rattle.domore_core.specs.Moves.{told, row_of_turn}
use Rattle.domore_core.specs.Claims.{claims_of}
use Rattle.domore_core.specs.Reports.{report_of}

-- the state of the abstract machine, and its moves
abbrev pub Stand : Type 0
Stand = State Iteration Cursor Piece

abbrev pub Move : Type 0
Move = machine.Move Iteration Cursor Piece

-- what the machine is built on, for a job with its code, and options
abbrev pub setup_for : Nest → Code → Options → Setup Iteration Cursor Piece
setup_for job code options = setup_of job.program job.opening.words code (claims_of job.program job.opening.words) options.workers options.queue

-- the job as the abstract machine sees it
abbrev pub nest_in : Nest → courses.Nest
nest_in job = nest_of job.program job.opening.words

-- the engine: its job, its options, the code of the job's bodies, and the state of the abstract machine
pub record Engine : Type 0 where
  pub job : Nest
  pub options : Options
  pub code : Code
  pub state : Stand

abbrev pub setup_in : Engine → Setup Iteration Cursor Piece
setup_in e = setup_for e.job e.code e.options

-- An opening state: the code is that of the job, the cursor is one of its program, and the machine is at its opening.
pub record IsOpened (e : Engine) : Type 0 where
  pub code_is : IsCodeOf e.job.program e.code
  pub inside : StopsInside (sizes_of (arrays_of e.job.program.decls)) e.code
  pub cursor_is : IsCursorOf e.job.program e.state.cursor
  pub at_opening : e.state ≡ machine.opening (setup_in e) (restarted e.job.program e.state.cursor) e.job.opening.words

-- It is one of this job and these options.
pub record Opens (job : Nest) (options : Options) (e : Engine) : Type 0 where
  pub same_job : e.job ≡ job
  pub same_options : e.options ≡ options
  pub opened : IsOpened e

-- the one enabled move of an actor
abbrev pub move_of : Engine → ℕ → Option Move
move_of e actor = machine.move_of (setup_in e) e.state actor

-- one step of an actor
abbrev pub step : Engine → ℕ → Option Engine
step e actor = option_map (λ (s : Stand). record e { state = s }) (machine.step (setup_in e) e.state actor)

-- what an actor holds
abbrev pub hand_at : Engine → ℕ → Hand Piece
hand_at e actor = (seat_at e.state.seats actor).hand

-- whether an actor's part is ended
abbrev pub has_ended : Engine → ℕ → Bool
has_ended e actor = machine.ended_actor (setup_in e) e.state actor

-- The work of a move, by what its actor holds: a worker that hops is given its piece.
abbrev pub work_of_move : Told → Hand Piece → Work
work_of_move (Turn turn) hand = work.Turn (row_of_turn turn)
work_of_move Hop (Holding k left piece) = work.Hop piece
work_of_move Hop _ = work.Turn board.Hop

-- what an actor is answered, by whether its part is ended, by what it holds and by its move
abbrev pub answer : Bool → Hand Piece → Option Told → Ask
answer ended hand (Some move) = Ready (work_of_move move hand)
answer true hand None = Ended
answer false hand None = NotYet

abbrev pub asked : Engine → ℕ → Ask
asked e actor = answer (has_ended e actor) (hand_at e actor) (option_map told (move_of e actor))

-- the rows under the names that actors are told
abbrev pub board_row : rows.Row → Row
board_row rows.Scalar = board.Scalar
board_row rows.Drain = board.Drain
board_row rows.Dispatch = board.Dispatch
board_row rows.Halt = board.Halt
board_row rows.Take = board.Take
board_row rows.Pass = board.Pass
board_row rows.Hop = board.Hop
board_row rows.Finish = board.Finish
board_row rows.Trap = board.Trap
board_row rows.Drop = board.Drop
board_row rows.End = board.End

abbrev pub row_of : Move → Row
row_of move = board_row (rows.row_of move)

-- A worker's step has the number of its iteration, and 0 where it ends; a scheduler's the number of iterations that were
-- handed out before it.
abbrev pub number_of : Stand → Move → ℕ
number_of s (DoTake ticket queue) = ticket.number
number_of s (DoPass k w left piece) = k
number_of s (DoRead k w next) = k
number_of s (DoWrite k w value next) = k
number_of s (DoGo k next) = k
number_of s (DoFinish k) = k
number_of s (DoTrap k cause line) = k
number_of s (DoDropHeld k) = k
number_of s (DoDropQueued ticket queue) = ticket.number
number_of s DoEnd = 0
number_of s _ = s.next

abbrev pub made_of : Engine → Move → Made
made_of e move = record { row = row_of move; number = number_of e.state move }

abbrev pub made_by : Engine → ℕ → Made
made_by e actor = option_map_or (made_of e) (move_of e actor) (record { row = board.End; number = 0 })

abbrev pub is_finished : Engine → Bool
is_finished e = runs.is_finished (setup_in e) e.state

abbrev pub ending_at : Option Place → Ending
ending_at None = Done
ending_at (Some trap) = Trapped trap

abbrev pub ending_of : Engine → Ending
ending_of e = if is_finished e then ending_at e.state.trap else Unfinished

abbrev pub words_of : Engine → Memory
words_of e = record { sizes = e.job.opening.sizes; words = e.state.words }

abbrev pub facts_of : Engine → Report
facts_of e = report_of e.options e.state.facts

-- No history of the job with these options is longer: by the costs of its bodies.
abbrev pub most_steps : Nest → Options → ℕ
most_steps job options = bound (nest_in job) options.workers (cost_by (nest_in job) (λ i. body_cost (body_at (bodies_of job.program) i.0)))

-- the measure: the length of the longest history from here
abbrev pub measure : Engine → ℕ
measure e = longest step (actors_of e.options) (most_steps e.job e.options) e

-- a legal state of the engine
abbrev pub IsLegalEngine : Engine → Type 0
IsLegalEngine = IsLegal (λ (e : Engine). e.job) (λ (e : Engine). e.options) Opens step
