-- The engine: the abstract machine on a job and options, with the code of the job's bodies.
use Rattle.std.specs.Prelude.{◌≡◌, ℕ, Bool, true, false, if◌then◌else◌, nat_lt, Option, Some, None, length}
use Rattle.std.specs.Option.{option_map, option_map_or}
use Rattle.nest_syntax.specs.declared.place.Place.{Place}
use Rattle.nest_syntax.specs.Arrays.{arrays_of, sizes_of}
use Rattle.nest_mean.specs.Nest.{Nest}
use Rattle.word_store.specs.Memory.{Memory}
use Rattle.settle_law.specs.Courses.{nest_of}
use Rattle.settle_law.specs.Courses as courses
use Rattle.task_hop.specs.declared.stop.Stop.{Stop}
use Rattle.task_hop.specs.declared.stop.Stop.TheVariants as stop
use Rattle.task_code.specs.Code.{Code}
use Rattle.task_code.specs.CodeOf.{IsCodeOf}
use Rattle.task_frame.specs.declared.piece.Piece.{Piece}
use Rattle.task_frame.specs.Stops.{StopsInside}
use Rattle.sched_cursor.specs.Cursor.{Cursor}
use Rattle.sched_cursor.specs.Laws.{IsCursorOf, restarted}
use Rattle.progress_board.specs.declared.options.Options.{Options}
use Rattle.progress_board.specs.declared.options.Engine.TheVariants as kind
use Rattle.progress_board.specs.declared.options.Engine.{Engine as Choice}
use Rattle.progress_board.specs.declared.actors.Row.{Row}
use Rattle.progress_board.specs.declared.actors.Row.TheVariants as board
use Rattle.progress_board.specs.declared.actors.Work.{Work}
use Rattle.progress_board.specs.declared.actors.Work.TheVariants as work
use Rattle.progress_board.specs.declared.actors.Ask.{Ask}
use Rattle.progress_board.specs.declared.actors.Ask.TheVariants.{Ready, NotYet, Ended}
use Rattle.progress_board.specs.declared.actors.Made.{Made}
use Rattle.progress_board.specs.declared.facts.Ending.{Ending}
use Rattle.progress_board.specs.declared.facts.Ending.TheVariants.{Unfinished, Done, Trapped}
use Rattle.progress_board.specs.declared.facts.Facts.{Facts as Report}
use Rattle.progress_board.specs.Runs.{IsLegal}
use Rattle.spec_setup.specs.Signs.{Signs}
use Rattle.spec_machine.specs.Facts.{Pair}
use Rattle.spec_machine.specs.Machine.{Setup, State, Hand, Idle, Empty, Running, Stopped, DoCheck, DoAbort, seat_at, done_at}
use Rattle.spec_machine.specs.Machine as machine
use Rattle.spec_machine.specs.Rows as rows
use Rattle.spec_machine.specs.Runs as runs
use Rattle.spec_core.specs.declared.moves.Move.{Move as Told}
use Rattle.spec_core.specs.declared.moves.Move.TheVariants.{Turn, Hop}
use Rattle.spec_setup.specs.Setups.{Invoked, setup_of}
use Rattle.spec_core.specs.Moves.{told, row_of_turn}
use Rattle.spec_core.specs.Reports.{report_of}

-- the state of the abstract machine, and its moves
abbrev pub Stand : Type 0 → Type 0
Stand = State Invoked Cursor Piece

abbrev pub Move : Type 0
Move = machine.Move Invoked Cursor Piece

-- the set distance: with a barrier no worker is ahead
abbrev pub far_with : ℕ → Choice → ℕ
far_with distance kind.Speccross = distance
far_with distance _ = 0

abbrev pub far_of : Options → ℕ
far_of options = far_with options.distance options.engine

-- what the machine is built on, for a job with its code, and options
abbrev pub setup_for : {G : Type 0} → Signs G → Nest → Code → Options → Setup Invoked Cursor Piece G
setup_for signs job code options = setup_of job.program job.opening.words code signs options.workers options.segment (far_of options)

-- the job as the abstract machine sees it
abbrev pub nest_in : Nest → courses.Nest
nest_in job = nest_of job.program job.opening.words

-- the engine: its job, its options, the code of the job's bodies, and the state of the abstract machine
pub record Engine (G : Type 0) : Type 0 where
  pub job : Nest
  pub options : Options
  pub code : Code
  pub state : Stand G

-- what an actor holds
abbrev pub hand_at : {G : Type 0} → Engine G → ℕ → Hand Piece
hand_at e actor = (seat_at e.state.seats actor).hand

-- The work of a move, by what its actor holds: a worker that hops is given its piece.
abbrev pub work_of_move : Told → Hand Piece → Work
work_of_move (Turn turn) hand = work.Turn (row_of_turn turn)
work_of_move Hop (Running k piece) = work.Hop piece
work_of_move Hop _ = work.Turn board.Hop

-- what an actor is answered, by whether its part is ended, by what it holds and by its move
abbrev pub answer : Bool → Hand Piece → Option Told → Ask
answer ended hand (Some move) = Ready (work_of_move move hand)
answer true hand None = Ended
answer false hand None = NotYet

-- the rows under the names that actors are told
abbrev pub board_row : rows.Row → Row
board_row rows.Scalar = board.Scalar
board_row rows.Open = board.Open
board_row rows.Close = board.Close
board_row rows.Commit = board.Commit
board_row rows.Restore = board.Restore
board_row rows.Conclude = board.Conclude
board_row rows.Begin = board.Begin
board_row rows.Hop = board.Hop
board_row rows.Finish = board.Finish
board_row rows.Trap = board.Trap
board_row rows.Stop = board.Stop
board_row rows.Check = board.Check
board_row rows.Abort = board.Abort

-- A worker's step has its epoch, which is how many it has finished; a checker's the later epoch; a scheduler's the number of
-- epochs that were open before it.
abbrev pub number_by : {G : Type 0} → Stand G → (width actor : ℕ) → ℕ
number_by s width actor = if nat_lt actor width then done_at s.seats actor else length s.epochs

abbrev pub number_of : {G : Type 0} → Stand G → (width actor : ℕ) → Move → ℕ
number_of s width actor (DoCheck p) = p.late.epoch
number_of s width actor (DoAbort p array) = p.late.epoch
number_of s width actor _ = number_by s width actor

abbrev pub made_of : {G : Type 0} → Engine G → ℕ → Move → Made
made_of e actor move = record { row = board_row (rows.row_of move); number = number_of e.state e.options.workers actor move }

-- a checker's step, by whether the signatures of its pair overlap
abbrev pub check_made : Pair → Option ℕ → Made
check_made p None = record { row = board.Check; number = p.late.epoch }
check_made p (Some array) = record { row = board.Abort; number = p.late.epoch }

-- the row of the stop of a worker's iteration k, by whether another one of its task follows
abbrev pub row_at : Stop → Bool → Row
row_at stop.Finish true = board.Hop
row_at stop.Finish false = board.Finish
row_at (stop.Trap cause line) more = board.Trap
row_at _ more = board.Hop

abbrev pub is_finished : {G : Type 0} → Engine G → Bool
is_finished e = e.state.concluded

abbrev pub ending_at : Option Place → Option Place → Ending
ending_at (Some trap) early = Trapped trap
ending_at None (Some trap) = Trapped trap
ending_at None None = Done

abbrev pub ending_of : {G : Type 0} → Engine G → Ending
ending_of e = if is_finished e then ending_at e.state.trap e.state.early else Unfinished

abbrev pub words_of : {G : Type 0} → Engine G → Memory
words_of e = record { sizes = e.job.opening.sizes; words = e.state.words }

abbrev pub facts_of : {G : Type 0} → Engine G → Report
facts_of e = report_of e.options e.state.facts

-- the move of an actor as it is told
abbrev pub told_in : {G : Type 0} → Setup Invoked Cursor Piece G → Stand G → ℕ → Option Told
told_in m s actor = option_map (told (seat_at s.seats actor).hand) (machine.move_of m s actor)

-- For a kind of signature, by the lengths of the arrays.
module _ {G : Type 0} (signs : Signs G) where
  abbrev pub setup_in : Engine G → Setup Invoked Cursor Piece G
  setup_in e = setup_for signs e.job e.code e.options

  -- An opening state: the code is that of the job, the cursor is one of its program, and the machine is at its opening.
  pub record IsOpened (e : Engine G) : Type 0 where
    pub code_is : IsCodeOf e.job.program e.code
    pub inside : StopsInside (sizes_of (arrays_of e.job.program.decls)) e.code
    pub cursor_is : IsCursorOf e.job.program e.state.cursor
    pub at_opening : e.state ≡ machine.opening (setup_in e) (restarted e.job.program e.state.cursor) e.job.opening.words

  -- It is one of this job and these options.
  pub record Opens (job : Nest) (options : Options) (e : Engine G) : Type 0 where
    pub same_job : e.job ≡ job
    pub same_options : e.options ≡ options
    pub opened : IsOpened e

  -- the one enabled move of an actor
  abbrev pub move_of : Engine G → ℕ → Option Move
  move_of e actor = machine.move_of (setup_in e) e.state actor

  -- one step of an actor
  abbrev pub step : Engine G → ℕ → Option (Engine G)
  step e actor = option_map (λ (s : Stand G). record e { state = s }) (machine.step (setup_in e) e.state actor)

  -- whether an actor's part is ended
  abbrev pub has_ended : Engine G → ℕ → Bool
  has_ended e actor = runs.ended_actor (setup_in e) e.state actor

  -- the move of an actor as it is told
  abbrev pub told_of : Engine G → ℕ → Option Told
  told_of e actor = told_in (setup_in e) e.state actor

  abbrev pub asked : Engine G → ℕ → Ask
  asked e actor = answer (has_ended e actor) (hand_at e actor) (told_of e actor)

  abbrev pub made_by : Engine G → ℕ → Made
  made_by e actor = option_map_or (made_of e actor) (move_of e actor) (record { row = board.Conclude; number = 0 })

  -- a legal state of the engine
  abbrev pub IsLegalEngine : Engine G → Type 0
  IsLegalEngine = IsLegal (λ (e : Engine G). e.job) (λ (e : Engine G). e.options) Opens step
