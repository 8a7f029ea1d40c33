-- The scheduler's side of a run, for any kind of cursor: events as a cursor gives them, a cursor that follows the course
-- that is left, and what of a course lies behind a cursor. Bodies and cursors may be any data.
use Rattle.std.specs.Prelude.{◌≡◌, ℕ, zero, suc, ◌≤◌, ℤ, true, false, Option, Some, None, List, [], ◌∷◌, ◌++◌, length, slice_get}
use Rattle.std.specs.Option.{option_and_then, option_map_or}
use Rattle.nest_syntax.specs.declared.names.Line.{Line}
use Rattle.nest_syntax.specs.declared.operators.Cause.{Cause}
use Rattle.nest_syntax.specs.declared.tree.Program.{Program}
use Rattle.nest_syntax.specs.Arrays.{arrays_of, sizes_of}
use Rattle.nest_syntax.specs.Turn.{Turn}
use Rattle.nest_syntax.specs.Reads.{on_words, Stopped}
use Rattle.nest_syntax.specs.Course.{Purpose, Course, course_of, bodies_of}
use Rattle.nest_syntax.specs.Course as course
use Rattle.nest_syntax.specs.Outcome.{Ending, Done, TrappedAt, place_of_trap, Event as Passed, Computes, Drains, Iterates, Closes, Ends, completed, turn_in, ending_from, events_from, iterations_among}
use Rattle.settle_law.specs.Trees.{Tree, Finished}
use Rattle.settle_law.specs.Cuts.{Cut, cut, plain}

-- the trap of an event of the scheduler
pub record Trap : Type 0 where
  pub cause : Cause
  pub line : Line

-- The event at which a cursor stands, with the cursor behind it. One that computes comes with its purpose and its trap,
-- if it traps; a drain has both from the words at that moment.
pub data Event (B C : Type 0) : Type 0 where
  End : Event B C
  Scalar : Purpose → Option Trap → C → Event B C
  Drain : Purpose → (List ℤ → Option Trap) → (List ℤ → C) → Event B C
  Iterate : B → C → Event B C
  Close : C → Event B C

-- A nest as an engine sees it: the sizes of its arrays, what an iteration of each body does with given scalars, its
-- course, and its opening words.
pub record Nest : Type 0 where
  pub sizes : List ℕ
  pub turn : ℕ → List ℤ → Turn
  pub course : Course
  pub opening : List ℤ

abbrev pub nest_of : Program → List ℤ → Nest
nest_of program words = record {
  sizes = sizes_of (arrays_of program.decls);
  turn = turn_in (arrays_of program.decls) (bodies_of program);
  course = course_of program words;
  opening = words;
}

-- the events of a course that is left, from the words as far as textual order has got
abbrev pub events_left : Nest → Course → Option (List ℤ) → List Passed
events_left nest left reached = events_from nest.sizes nest.turn left reached

-- all events of the nest
abbrev pub events : Nest → List Passed
events nest = events_left nest nest.course (Some nest.opening)

-- the outcome of the nest
abbrev pub outcome : Nest → Ending
outcome nest = ending_from nest.sizes nest.turn nest.course 0 nest.opening

-- body and scalars of iteration k, none where there is no such iteration
abbrev pub iteration_at : Nest → ℕ → Option (ℕ × List ℤ)
iteration_at nest k = slice_get (iterations_among (events nest)) k

-- the words when n iterations are finished in textual order, where it gets so far
abbrev pub reached : Nest → ℕ → Option (List ℤ)
reached nest zero = Some nest.opening
reached nest (suc n) = option_and_then (λ words. option_and_then (λ (i : ℕ × List ℤ). completed (on_words nest.sizes (nest.turn i.0 i.1) words)) (iteration_at nest n)) (reached nest n)

-- the cut turn of a body with these scalars
abbrev pub cut_at : Nest → ℕ × List ℤ → Cut
cut_at nest i = cut nest.sizes 0 (nest.turn i.0 i.1)

-- The family of the nest: the plain tree of each iteration. Behind the last one there is nothing to do.
abbrev pub family_of : (ℕ → Option ℤ) → Nest → ℕ → Tree
family_of fixed nest k = option_map_or (λ (i : ℕ × List ℤ). plain fixed (cut_at nest i)) (iteration_at nest k) Finished

-- a `Failed` behind an event is its trap
abbrev pub trap_of : Course → Option Trap
trap_of (course.Failed cause line) = Some (record { cause = cause; line = line })
trap_of course.End = None
trap_of (course.Scalar purpose scalars rest) = None
trap_of (course.Drain purpose scalars rest) = None
trap_of (course.Iterate body scalars rest) = None
trap_of (course.Close scalars rest) = None

-- A cursor follows a course: it stands at the first event of it, and the cursor behind the event follows the rest, where
-- the event doesn't trap. At an iteration, `what` maps the body that the cursor gives to the number of a body of the
-- program and scalars: those of the course's iteration.
abbrev pub Follows : {B C : Type 0} → Nest → (B → ℕ × List ℤ) → (C → Event B C) → C → Course → Type 0
Follows nest what event cursor course.End = event cursor ≡ End
Follows nest what event cursor (course.Failed cause line) = ⊥
Follows {B} {C} nest what event cursor (course.Scalar purpose scalars rest) = (next : C) × (event cursor ≡ Scalar purpose (trap_of rest) next) × (trap_of rest ≡ None → Follows nest what event next rest)
Follows {B} {C} nest what event cursor (course.Drain purpose scalars rest) = (trap : List ℤ → Option Trap) × (next : List ℤ → C) × (event cursor ≡ Drain purpose trap next) × ((words : List ℤ) → (trap words ≡ trap_of (rest words)) × (trap_of (rest words) ≡ None → Follows nest what event (next words) (rest words)))
Follows {B} {C} nest what event cursor (course.Iterate body scalars rest) = (b : B) × (next : C) × (event cursor ≡ Iterate b next) × (what b ≡ (body, scalars)) × Follows nest what event next rest
Follows {B} {C} nest what event cursor (course.Close scalars rest) = (next : C) × (event cursor ≡ Close next) × Follows nest what event next rest

-- What of a nest lies behind a cursor that has passed `next` iterations: it follows a course such that the events passed
-- and those that are left are the events of the nest, and from the words that textual order reaches there, what is left
-- ends as the nest does.
pub record Behind {B C : Type 0} (nest : Nest) (what : B → ℕ × List ℤ) (event : C → Event B C) (passed : List Passed) (next : ℕ) (cursor : C) : Type 0 where
  pub left : Course
  pub follows : Follows nest what event cursor left
  pub counts : length (iterations_among passed) ≡ next
  pub all_events : passed ++ events_left nest left (reached nest next) ≡ events nest
  pub ends : (words : List ℤ) → reached nest next ≡ Some words → ending_from nest.sizes nest.turn left next words ≡ outcome nest

-- What the event at which a cursor stands says of the nest. Behind an event the next cursor has passed it too, and an
-- iteration is the nest's next one. Where textual order gets there, a trap is the outcome, and so are the words at the
-- end, behind which there is no iteration.
module _ {B C : Type 0} (nest : Nest) (what : B → ℕ × List ℤ) (event : C → Event B C) (passed : List Passed) (next : ℕ) where
  -- the scheduler traps before the next iteration, if textual order gets there
  abbrev pub TrapsThere : Trap → Type 0
  TrapsThere trap = (words : List ℤ) → reached nest next ≡ Some words → outcome nest ≡ TrappedAt (place_of_trap trap.cause trap.line next true)

  -- behind an event of the scheduler that is no iteration: its trap, or the next cursor
  abbrev pub Onward : Passed → Option Trap → C → Type 0
  Onward this None after = Behind nest what event (passed ++ this ∷ []) next after
  Onward this (Some trap) after = TrapsThere trap

  abbrev pub AtEvent : Event B C → Type 0
  AtEvent End = (events nest ≡ passed ++ Ends ∷ []) × ((k : ℕ) → next ≤ k → iteration_at nest k ≡ None) × ((words : List ℤ) → reached nest next ≡ Some words → outcome nest ≡ Done words)
  AtEvent (Scalar purpose trap after) = (scalars : List ℤ) × Onward (Computes purpose scalars) trap after
  AtEvent (Drain purpose trap after) = (scalars : List ℤ) × ((words : List ℤ) → reached nest next ≡ Some words → Onward (Drains purpose scalars) (trap words) (after words))
  AtEvent (Iterate b after) = (iteration_at nest next ≡ Some (what b)) × Behind nest what event (passed ++ Iterates (what b).0 (what b).1 ∷ []) (suc next) after
  AtEvent (Close after) = (scalars : List ℤ) × Onward (Closes scalars) None after

-- Each event of a cursor with this behind it says so. And a cursor that follows the course of the nest has all of it
-- before it.
abbrev pub EventsTell : Type 0 → Type 0 → Type 0
EventsTell B C = (nest : Nest) (what : B → ℕ × List ℤ) (event : C → Event B C) (passed : List Passed) (next : ℕ) (cursor : C) → Behind nest what event passed next cursor → AtEvent nest what event passed next (event cursor)

abbrev pub CursorsBegin : Type 0 → Type 0 → Type 0
CursorsBegin B C = (nest : Nest) (what : B → ℕ × List ℤ) (event : C → Event B C) (cursor : C) → Follows nest what event cursor nest.course → Behind nest what event [] 0 cursor

-- An iteration that textual order reaches and that traps there is the outcome.
abbrev pub TrappedIterationIsOutcome : Type 0
TrappedIterationIsOutcome = (nest : Nest) (n : ℕ) (words : List ℤ) (i : ℕ × List ℤ) (cause : Cause) (line : Line) (last : List ℤ) → reached nest n ≡ Some words → iteration_at nest n ≡ Some i → on_words nest.sizes (nest.turn i.0 i.1) words ≡ Stopped cause line last → outcome nest ≡ TrappedAt (place_of_trap cause line n false)
