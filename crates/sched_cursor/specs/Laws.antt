-- A cursor and the course of its program.
use Rattle.std.specs.Prelude.{◌≡◌, ℕ, zero, suc, ◌+◌, ◌-◌, ◌^◌, ◌<◌, ◌≤◌, ℤ, pos, Bool, true, false, if◌then◌else◌, Option, Some, None, Ok, List, map, length}
use Rattle.nest_syntax.specs.declared.tree.Loop.{Loop}
use Rattle.nest_syntax.specs.declared.tree.Program.{Program}
use Rattle.nest_syntax.specs.Words.{most_turns}
use Rattle.nest_syntax.specs.Arrays.{Array, arrays_of}
use Rattle.nest_syntax.specs.Shape.{bodies_of}
use Rattle.nest_syntax.specs.Value.{is_written, read}
use Rattle.nest_syntax.specs.Course.{Course, Setting, Iterate, Close, End, in_order, region_of, opening_scalars, course_of}
use Rattle.settle_law.specs.Courses.{Nest, Follows, nest_of, iteration_at}
use Rattle.settle_law.specs.Cuts.{HoldsFixed}
use Rattle.settle_law.specs.Reading.{fixed_in}
use Rattle.sched_cursor.specs.declared.event.Iteration.{Iteration}
use Rattle.sched_cursor.specs.declared.event.Event.TheVariants as event
use Rattle.sched_cursor.specs.declared.node.Next.{Next}
use Rattle.sched_cursor.specs.declared.node.Next.TheVariants as next
use Rattle.sched_cursor.specs.declared.node.Node.{Node}
use Rattle.sched_cursor.specs.declared.node.Region.{Region}
use Rattle.sched_cursor.specs.declared.node.Invocation.{Invocation}
use Rattle.sched_cursor.specs.declared.node.At.TheVariants as at
use Rattle.sched_cursor.specs.Turning.{begun}
use Rattle.sched_cursor.specs.Steps.{is_drain}
use Rattle.sched_cursor.specs.Cursor.{Cursor}
use Rattle.sched_cursor.specs.Events.{event_at, after_event, kind_of, behind_invocation, handed_in, is_of_invocation, is_iteration}
use Rattle.sched_cursor.specs.Rooms.{MostOf, HasRoom}
use Rattle.sched_cursor.specs.Scripts.{FollowsIn}
use Rattle.sched_cursor.specs.Handed.{NumbersNames, Tells, naming_of, loop_of_body, what_of}

-- The script of a cursor is that of a program: from its entry on, its nodes are followed as the program's regions are.
abbrev pub IsScriptOf : Program → Cursor → Type 0
IsScriptOf program c = (setting : Setting) (nest : Nest) (later : Cursor) → later.nodes ≡ c.nodes → later.at ≡ at.Before c.entry → FollowsIn setting nest later ((in_order (map (region_of setting) program.regions)).events 0 later.scalars (λ after. End))

-- before the first region is entered
abbrev pub no_region : Region
no_region = record { name = 0; turning = begun (pos 0) 1 0; items = next.Turn; leave = next.End }

-- a cursor with a script, before the event at which it is entered
abbrev pub before_entry : List Node → List Bool → Next → List ℤ → List (Option ℕ) → Cursor
before_entry nodes drains entry scalars names = record { nodes = nodes; drains = drains; entry = entry; at = at.Before entry; region = no_region; scalars = scalars; names = names; next = 0 }

-- a cursor at its start
abbrev pub restarted : Program → Cursor → Cursor
restarted program c = before_entry c.nodes c.drains c.entry (opening_scalars program) c.names

-- A cursor was made from a program: its script is the program's, with what drains in it, it agrees with its names, and at
-- most 2^60 iterations come.
pub record IsCursorOf (program : Program) (c : Cursor) : Type 0 where
  pub script : IsScriptOf program c
  pub drains : c.drains ≡ map (is_drain (arrays_of program.decls)) c.nodes
  pub names : NumbersNames program c.names
  pub tells : Tells (naming_of program) c
  pub room : HasRoom c
  pub entry : MostOf c.nodes c.entry (2 ^ 60)

-- a cursor follows a course in a nest of the program with these opening words
abbrev pub FollowsCourse : Program → List ℤ → Cursor → Course → Type 0
FollowsCourse program words c left = Follows (nest_of program words) (what_of program) (event_at (arrays_of program.decls) words) c left

-- From its start on a cursor follows the course of its program. What it hands out at an iteration is the course's.
abbrev pub CursorsFollow : Type 0
CursorsFollow = (program : Program) (words : List ℤ) (c : Cursor) → IsCursorOf program c → FollowsCourse program words (restarted program c) (course_of program words)

-- the words of `const` arrays are the same in both
abbrev pub SameConst : List Array → List ℤ → List ℤ → Type 0
SameConst arrays words words' = (name : ℕ) (place : ℤ) → is_written arrays name ≡ false → read arrays words name place ≡ read arrays words' name place

-- Where an event isn't a drain, the present words lead where the opening words do.
abbrev pub ConstWordsSuffice : Type 0
ConstWordsSuffice = (arrays : List Array) (opening words : List ℤ) (c : Cursor) → SameConst arrays words opening → kind_of arrays c ≡ event.Scalar → after_event arrays c words ≡ after_event arrays c opening

-- A course that is left begins with n iterations, from turn k of an invocation on, each as it is handed out, and with their
-- end; what comes behind has a property.
abbrev pub BeginsWith : Program → (ℕ → Iteration) → (Course → Type 0) → ℕ → ℕ → Course → Type 0
BeginsWith program handed Behind zero k (Close scalars rest) = Behind rest
BeginsWith program handed Behind (suc n) k (Iterate body scalars rest) = (what_of program (handed k) ≡ (body, scalars)) × BeginsWith program handed Behind n (suc k) rest
BeginsWith program handed Behind n k left = ⊥

-- Where a cursor stands in an invocation, its turns are the course's next iterations, in order, and behind their end the
-- course goes on as the cursor does behind the invocation.
abbrev pub WholeInvocationsFollow : Type 0
WholeInvocationsFollow = (program : Program) (words : List ℤ) (c : Cursor) (i : Invocation) (left : Course) → IsCursorOf program c → c.at ≡ at.Inside i → FollowsCourse program words c left
    → BeginsWith program (handed_in c i) (FollowsCourse program words (behind_invocation c c.at)) (i.turning.trips - i.turning.turn) i.turning.turn left

-- A cursor of a program stays one: behind each event, whatever the words, behind an invocation, and at its start again. It
-- has passed at most 2^60 iterations, and the invocation that was entered has few turns and is of a body of the program,
-- whose loop has its step; that of an array statement has one turn.
pub record CursorsStay : Type 0 where
  pub behind_events : (program : Program) (words : List ℤ) (c later : Cursor) → IsCursorOf program c → after_event (arrays_of program.decls) c words ≡ Ok later → IsCursorOf program later
  pub behind_invocations : (program : Program) (c : Cursor) → IsCursorOf program c → IsCursorOf program (behind_invocation c c.at)
  pub at_start : (program : Program) (c : Cursor) → IsCursorOf program c → IsCursorOf program (restarted program c)
  pub passed : (program : Program) (c : Cursor) → IsCursorOf program c → c.next ≤ 2 ^ 60
  pub steps : (program : Program) (c : Cursor) (i : Invocation) → c.at ≡ at.Inside i → IsCursorOf program c → (l : Loop) → loop_of_body program i.body ≡ Some l → i.turning.step ≡ l.step
  pub alone : (program : Program) (c : Cursor) (i : Invocation) → c.at ≡ at.Inside i → IsCursorOf program c → loop_of_body program i.body ≡ None → i.turning.trips ≤ 1
  pub entered : (program : Program) (c : Cursor) (i : Invocation) → c.at ≡ at.Inside i → IsCursorOf program c → (i.turning.turn ≤ i.turning.trips) × (i.turning.trips ≤ most_turns) × (i.body < length (bodies_of program))

-- Behind an iteration one more was passed, behind any other event as many as before. An event of an invocation reads no word.
pub record EventsCount : Type 0 where
  pub passed : (arrays : List Array) (words : List ℤ) (c later : Cursor) → after_event arrays c words ≡ Ok later → later.next ≡ (if is_iteration (kind_of arrays c) then c.next + 1 else c.next)
  pub unread : (arrays : List Array) (words words' : List ℤ) (c : Cursor) → is_of_invocation (kind_of arrays c) ≡ true → after_event arrays c words ≡ after_event arrays c words'

-- Words that hold what is told of the opening words have their `const` words.
abbrev pub FixedWordsAreConst : Type 0
FixedWordsAreConst = (arrays : List Array) (opening words : List ℤ) → HoldsFixed (fixed_in arrays opening) words → SameConst arrays words opening

-- Where a program has a cursor, each iteration of its course is of one of its bodies.
abbrev pub BodiesInside : Type 0
BodiesInside = (program : Program) (words : List ℤ) (c : Cursor) → IsCursorOf program c → (k body : ℕ) (scalars : List ℤ) → iteration_at (nest_of program words) k ≡ Some (body, scalars) → body < length (bodies_of program)
