-- The event at which a cursor stands, and the cursor behind it.
use Rattle.std.specs.Prelude.{ℕ, ◌+◌, ◌-◌, ℤ, pos, Bool, true, false, if◌then◌else◌, Option, Some, None, Result, Ok, Err, List, map, slice_get}
use Rattle.std.specs.List.{list_any}
use Rattle.std.specs.Option.{option_map_or}
use Rattle.nest_syntax.specs.declared.names.Line.{Line}
use Rattle.nest_syntax.specs.declared.operators.Cause.{Cause}
use Rattle.nest_syntax.specs.declared.place.Place.{Place}
use Rattle.nest_syntax.specs.Arrays.{Array}
use Rattle.nest_syntax.specs.Words.{variable}
use Rattle.nest_syntax.specs.Value.{and_then, scalar_at, with_scalar, names_written}
use Rattle.nest_syntax.specs.Course.{Purpose, Ordinary}
use Rattle.nest_syntax.specs.Outcome.{place_of_trap}
use Rattle.settle_law.specs.Courses.{Trap}
use Rattle.settle_law.specs.Courses as courses
use Rattle.sched_cursor.specs.declared.node.Next.TheVariants as next
use Rattle.sched_cursor.specs.declared.node.Node.{Node}
use Rattle.sched_cursor.specs.declared.node.Region.{Region}
use Rattle.sched_cursor.specs.declared.node.Invocation.{Invocation}
use Rattle.sched_cursor.specs.declared.node.At.{At}
use Rattle.sched_cursor.specs.declared.node.At.TheVariants as at
use Rattle.sched_cursor.specs.declared.event.Event.{Event}
use Rattle.sched_cursor.specs.declared.event.Event.TheVariants as event
use Rattle.sched_cursor.specs.declared.event.Here.{Here}
use Rattle.sched_cursor.specs.declared.event.Iteration.{Iteration}
use Rattle.sched_cursor.specs.declared.step.Step.{Step}
use Rattle.sched_cursor.specs.declared.step.Step.TheVariants as step
use Rattle.sched_cursor.specs.Turning.{has_turn, variable_of, one_passed}
use Rattle.sched_cursor.specs.Steps.{exprs_of, line_of, purpose_of, step_of}
use Rattle.sched_cursor.specs.Cursor.{Cursor, standing}

-- the cursor behind a step
abbrev pub stepped : Cursor → Step → Cursor
stepped c (step.Enter region) = record c { at = at.Before next.Turn; region = region }
stepped c (step.Change name new next) = record c { at = at.Before next; scalars = with_scalar c.scalars name new }
stepped c (step.Go next) = standing c next
stepped c (step.Invoke invocation) = record c { at = at.Inside invocation }

-- the cursor behind a turn of the region that was entered, or behind the leaving of it
abbrev pub after_turn : Cursor → Region → Cursor
after_turn c r = if has_turn r.turning then record c { at = at.Before r.items; region = record r { turning = one_passed r.turning }; scalars = with_scalar c.scalars r.name (variable_of r.turning) } else standing c r.leave

-- the cursor behind the next iteration of the invocation that was entered, or behind its end
abbrev pub after_iteration : Cursor → Invocation → Cursor
after_iteration c i = if has_turn i.turning then record c { at = at.Inside (record i { turning = one_passed i.turning }); next = c.next + 1 } else standing c i.next

-- a trap with its line
abbrev pub at_line : {A : Type 0} → Line → Result A Cause → Result A Trap
at_line line (Ok result) = Ok result
at_line line (Err cause) = Err (record { cause = cause; line = line })

-- the cursor behind a node, where one is found
abbrev pub after_found : List Array → Cursor → List ℤ → Option Node → Result Cursor Trap
after_found arrays c words None = Ok c
after_found arrays c words (Some this) = at_line (line_of this) (and_then (step_of arrays this c.scalars words) (λ made. Ok (stepped c made)))

-- The cursor behind the event at which one stands, computed on these words, or the trap. Behind the end there is nothing.
abbrev pub after_at : List Array → Cursor → List ℤ → At → Result Cursor Trap
after_at arrays c words (at.Before (next.Node n)) = after_found arrays c words (slice_get c.nodes n)
after_at arrays c words (at.Before next.Turn) = Ok (after_turn c c.region)
after_at arrays c words (at.Before next.End) = Ok c
after_at arrays c words (at.Inside i) = Ok (after_iteration c i)

abbrev pub after_event : List Array → Cursor → List ℤ → Result Cursor Trap
after_event arrays c words = after_at arrays c words c.at

-- what kind of event a node is
abbrev pub kind_found : List Array → Option Node → Event
kind_found arrays None = event.End
kind_found arrays (Some this) = if list_any (names_written arrays) (exprs_of this) then event.Drain else event.Scalar

abbrev pub kind_at : List Array → Cursor → At → Event
kind_at arrays c (at.Before (next.Node n)) = kind_found arrays (slice_get c.nodes n)
kind_at arrays c (at.Before next.Turn) = event.Scalar
kind_at arrays c (at.Before next.End) = event.End
kind_at arrays c (at.Inside i) = if has_turn i.turning then event.Iterate else event.Close

-- the kind of the event at which a cursor stands
abbrev pub kind_of : List Array → Cursor → Event
kind_of arrays c = kind_at arrays c c.at

abbrev pub purpose_found : Option Node → Purpose
purpose_found None = Ordinary
purpose_found (Some this) = purpose_of this

abbrev pub purpose_at : Cursor → At → Purpose
purpose_at c (at.Before (next.Node n)) = purpose_found (slice_get c.nodes n)
purpose_at c (at.Before next.Turn) = Ordinary
purpose_at c (at.Before next.End) = Ordinary
purpose_at c (at.Inside i) = Ordinary

-- the scalars of the next iteration of an invocation
abbrev pub scalars_inside : List ℤ → Invocation → List ℤ
scalars_inside scalars i = option_map_or (λ name. with_scalar scalars name (variable_of i.turning)) i.name scalars

-- body and scalars of the next iteration, where a cursor stands in an invocation
abbrev pub iteration_at : Cursor → At → ℕ × List ℤ
iteration_at c (at.Before next) = (0, c.scalars)
iteration_at c (at.Inside i) = (i.body, scalars_inside c.scalars i)

-- the value of a scalar, 0 where there is none
abbrev pub value_of : List ℤ → Option ℕ → ℤ
value_of scalars name = option_map_or (scalar_at scalars) name (pos 0)

-- the scalars of the scheduler, by their numbers
abbrev pub env_of : Cursor → List ℤ
env_of c = map (value_of c.scalars) c.names

-- what is handed out at turn k of an invocation: its body, the variable and the scalars of the scheduler
abbrev pub handed_in : Cursor → Invocation → ℕ → Iteration
handed_in c i k = record { body = i.body; value = variable i.turning.low i.turning.step k; env = env_of c }

-- what is handed out at the next iteration
abbrev pub handed_at : Cursor → At → Iteration
handed_at c (at.Before next) = record { body = 0; value = pos 0; env = env_of c }
handed_at c (at.Inside i) = handed_in c i i.turning.turn

-- the cursor behind an event, or its trap
abbrev pub cursor_or : Cursor → Result Cursor Trap → Cursor
cursor_or c (Ok later) = later
cursor_or c (Err trap) = c

abbrev pub trap_in : Result Cursor Trap → Option Trap
trap_in (Ok later) = None
trap_in (Err trap) = Some trap

-- an event with the cursor behind it, on these opening words
abbrev pub event_of : {B : Type 0} → Event → Purpose → (List ℤ → Result Cursor Trap) → B → List ℤ → Cursor → courses.Event B Cursor
event_of event.Scalar purpose after iteration opening c = courses.Scalar purpose (trap_in (after opening)) (cursor_or c (after opening))
event_of event.Drain purpose after iteration opening c = courses.Drain purpose (λ words. trap_in (after words)) (λ words. cursor_or c (after words))
event_of event.Iterate purpose after iteration opening c = courses.Iterate iteration (cursor_or c (after opening))
event_of event.Close purpose after iteration opening c = courses.Close (cursor_or c (after opening))
event_of event.End purpose after iteration opening c = courses.End

-- The event at which a cursor stands, in a nest with these arrays and opening words: what is handed out at an iteration is
-- its body, its variable and the scalars of the scheduler.
abbrev pub event_when : List Array → List ℤ → Cursor → At → courses.Event Iteration Cursor
event_when arrays opening c a = event_of (kind_at arrays c a) (purpose_at c a) (λ words. after_at arrays c words a) (handed_at c a) opening c

abbrev pub event_at : List Array → List ℤ → Cursor → courses.Event Iteration Cursor
event_at arrays opening c = event_when arrays opening c c.at

-- the same event, with the iteration told by its body and all scalars
abbrev pub plain_event_when : List Array → List ℤ → Cursor → At → courses.Event (ℕ × List ℤ) Cursor
plain_event_when arrays opening c a = event_of (kind_at arrays c a) (purpose_at c a) (λ words. after_at arrays c words a) (iteration_at c a) opening c

abbrev pub plain_event_at : List Array → List ℤ → Cursor → courses.Event (ℕ × List ℤ) Cursor
plain_event_at arrays opening c = plain_event_when arrays opening c c.at

-- a trap of the scheduler, behind so many iterations
abbrev pub placed : ℕ → Result Cursor Trap → Result Cursor Place
placed number (Ok later) = Ok later
placed number (Err trap) = Err (place_of_trap trap.cause trap.line number true)

-- what `advance` answered, with the cursor that it left
abbrev pub as_answer : Option Place → Cursor → Result Cursor Place
as_answer None later = Ok later
as_answer (Some place) later = Err place

-- what a function of `advance` answered, with the cursor that it left
abbrev pub as_passed : Result (Unit {0}) (Cause × Line) → Cursor → Result Cursor Trap
as_passed (Ok done) later = Ok later
as_passed (Err trap) later = Err (record { cause = trap.0; line = trap.1 })

-- the invocation that was entered
abbrev pub here_at : At → Option Here
here_at (at.Before next) = None
here_at (at.Inside i) = Some (record { body = i.body; low = i.turning.low; step = i.turning.step; trips = i.turning.trips; turn = i.turning.turn })

-- whether a cursor stands in an invocation, and whether before an iteration of it
abbrev pub is_inside : At → Bool
is_inside (at.Before next) = false
is_inside (at.Inside i) = true

abbrev pub is_iterating : At → Bool
is_iterating (at.Before next) = false
is_iterating (at.Inside i) = has_turn i.turning

-- the events at which it does
abbrev pub is_of_invocation : Event → Bool
is_of_invocation event.Scalar = false
is_of_invocation event.Drain = false
is_of_invocation event.Iterate = true
is_of_invocation event.Close = true
is_of_invocation event.End = false

abbrev pub is_iteration : Event → Bool
is_iteration event.Scalar = false
is_iteration event.Drain = false
is_iteration event.Iterate = true
is_iteration event.Close = false
is_iteration event.End = false

-- the cursor behind the end of the invocation that was entered
abbrev pub behind_invocation : Cursor → At → Cursor
behind_invocation c (at.Before next) = c
behind_invocation c (at.Inside i) = record c { at = at.Before i.next; next = c.next + (i.turning.trips - i.turning.turn) }
