-- What holds of a setup of a program, and what an engine needs of its parts.
use Rattle.std.specs.Prelude.{◌≡◌, ℕ, suc, ◌+◌, ℤ, true, Option, Some, None, IfSome, List, length, slice_get}
use Rattle.std.specs.Option.{option_map, option_map_or}
use Rattle.nest_syntax.specs.declared.place.Place.{Place}
use Rattle.nest_syntax.specs.declared.tree.Program.{Program}
use Rattle.nest_syntax.specs.Arrays.{Array}
use Rattle.nest_syntax.specs.Shape.{Body, invoked_by, bodies_of}
use Rattle.nest_syntax.specs.Outcome.{body_at, place_of_trap}
use Rattle.addr_slice.specs.Claims.{Claimed}
use Rattle.settle_law.specs.Courses.{Nest, Trap, Event, End, Scalar, Drain, Iterate, Close, iteration_at, nest_of}
use Rattle.turn_cost.specs.Costs.{body_cost}
use Rattle.task_code.specs.Code.{Code, entry_of}
use Rattle.task_code.specs.CodeOf.{IsEntryOf, IsCodeOf}
use Rattle.task_frame.specs.declared.piece.Piece.{Piece}
use Rattle.sched_cursor.specs.declared.event.Iteration.{Iteration}
use Rattle.sched_cursor.specs.Cursor.{Cursor}
use Rattle.sched_cursor.specs.Events.{event_at, after_event, handed_at, placed, as_answer}
use Rattle.sched_cursor.specs.Handed.{what_of}
use Rattle.sched_cursor.specs.Laws.{SameConst, IsCursorOf, restarted}
use Rattle.domore_machine.specs.Machine as machine
use Rattle.domore_machine.specs.Machine.{State, step}
use Rattle.domore_machine.specs.Theorems.{IsSetupFor, Leads}
use Rattle.domore_machine.specs.Measure.{bound}
use Rattle.nest_tasks.specs.Carried.{KeepsNest}
use Rattle.nest_tasks.specs.Longest.{LongestFalls}
use Rattle.nest_setup.specs.Pieces.{in_places}
use Rattle.nest_setup.specs.Setups.{setup_of, fuelled_setup_of, BoundTurns, IsPrepared}

-- The cost of iteration k is one more than its stops before the end.
abbrev pub cost_by : Nest → (ℕ × List ℤ → ℕ) → ℕ → ℕ
cost_by nest stops k = option_map_or (λ (i : ℕ × List ℤ). suc (stops i)) (iteration_at nest k) 0

-- With the stops that are left beside its pieces it is a setup for the nest of the program, from the cursor's start on:
-- pieces do what the cut turns say, the cursor follows the course, and iterations whose claims don't clash are apart.
abbrev pub SetupsAreRight : Type 0
SetupsAreRight = (program : Program) (opening : List ℤ) (code : Code) (claims : ℕ × List ℤ → Claimed) (cursor : Cursor) (width room : ℕ) → IsPrepared program opening code claims cursor width room
    → (stops : ℕ × List ℤ → ℕ) → BoundTurns program opening stops
    → IsSetupFor (fuelled_setup_of program opening code claims stops width room) (nest_of program opening) (what_of program) (restarted program cursor)

-- So the machine without that count keeps the nest, and no history is longer than the bound by the costs.
abbrev pub SetupsKeepNests : Type 0
SetupsKeepNests = (program : Program) (opening : List ℤ) (code : Code) (claims : ℕ × List ℤ → Claimed) (cursor : Cursor) (width room : ℕ) → IsPrepared program opening code claims cursor width room
    → (stops : ℕ × List ℤ → ℕ) → BoundTurns program opening stops
    → KeepsNest (setup_of program opening code claims width room) (nest_of program opening) (what_of program) (restarted program cursor) (bound (nest_of program opening) width (cost_by (nest_of program opening) stops))

-- So the length of the longest history from a state, up to that bound, is a measure: it falls at each step.
abbrev pub MeasuresFall : Type 0
MeasuresFall = (program : Program) (opening : List ℤ) (code : Code) (claims : ℕ × List ℤ → Claimed) (cursor : Cursor) (width room : ℕ) → IsPrepared program opening code claims cursor width room
    → (stops : ℕ × List ℤ → ℕ) → BoundTurns program opening stops
    → LongestFalls (State Iteration Cursor Piece) (step (setup_of program opening code claims width room)) (width + 1) (bound (nest_of program opening) width (cost_by (nest_of program opening) stops)) (machine.opening (setup_of program opening code claims width room) (restarted program cursor) opening)

-- The costs of the bodies, read off their texts, bound the turns.
abbrev pub BodyCostsBoundTurns : Type 0
BodyCostsBoundTurns = (program : Program) (opening : List ℤ) → BoundTurns program opening (λ i. body_cost (body_at (bodies_of program) i.0))

-- Along each history the cursor stays one of the program, and has passed as many iterations as were handed out.
abbrev pub CursorsKeepUp : Type 0
CursorsKeepUp = (program : Program) (opening : List ℤ) (code : Code) (claims : ℕ × List ℤ → Claimed) (cursor : Cursor) (width room : ℕ) → IsCursorOf program cursor
    → (history : List ℕ) (s : State Iteration Cursor Piece) → Leads (setup_of program opening code claims width room) (nest_of program opening) (restarted program cursor) history s
    → IsCursorOf program s.cursor × (s.cursor.next ≡ s.next)

-- With the `const` words of the opening the present words tell the event that the opening words tell.
abbrev pub EventsAgree : Type 0
EventsAgree = (arrays : List Array) (opening words : List ℤ) (cursor : Cursor) → SameConst arrays words opening → event_at arrays words cursor ≡ event_at arrays opening cursor

-- What an answer of `advance` on the present words, with the cursor that it leaves, says of the event of the opening words.
abbrev pub place_by : Cursor → Trap → Place
place_by cursor trap = place_of_trap trap.cause trap.line cursor.next true

abbrev pub IsAnswered : Cursor → List ℤ → Option Place → Cursor → Event Iteration Cursor → Type 0
IsAnswered cursor words answer later End = Unit {0}
IsAnswered cursor words answer later (Scalar purpose trap rest) = (answer ≡ option_map (place_by cursor) trap) × (later ≡ rest)
IsAnswered cursor words answer later (Drain purpose traps rests) = (answer ≡ option_map (place_by cursor) (traps words)) × (later ≡ rests words)
IsAnswered cursor words answer later (Iterate i rest) = (answer ≡ None) × (later ≡ rest) × (i ≡ handed_at cursor cursor.at)
IsAnswered cursor words answer later (Close rest) = (answer ≡ None) × (later ≡ rest)

abbrev pub AnswersTellEvents : Type 0
AnswersTellEvents = (arrays : List Array) (opening words : List ℤ) (cursor later : Cursor) (answer : Option Place) → SameConst arrays words opening
    → as_answer answer later ≡ placed cursor.next (after_event arrays cursor words) → IfSome answer (λ place. later ≡ cursor) → IsAnswered cursor words answer later (event_at arrays opening cursor)

-- A code has an entry for each body, and it is the body's.
pub record EntriesAreOfBodies : Type 0 where
  pub many : (program : Program) (code : Code) → IsCodeOf program code → length code.entries ≡ length (bodies_of program)
  pub entry : (program : Program) (code : Code) (number : ℕ) (body : Body) → IsCodeOf program code → slice_get (invoked_by program) number ≡ Some body → IsEntryOf program code.instructions body (entry_of code number)

-- Where the scalars have 32 places they are in their places.
abbrev pub PlacesAreKept : Type 0
PlacesAreKept = (env : List ℤ) → length env ≡ 32 → in_places env ≡ env
