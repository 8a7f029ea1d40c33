-- The outcome of a nest: its iterations one after the other in textual order, to the first trap or the final words.
use Rattle.std.specs.Prelude.{ℕ, zero, suc, ℤ, Bool, true, false, Option, Some, None, List, [], ◌∷◌, slice_get}
use Rattle.std.specs.Option.{option_map, option_and_then}
use Rattle.nest_syntax.specs.declared.names.Line.{Line}
use Rattle.nest_syntax.specs.declared.operators.Cause.{Cause}
use Rattle.nest_syntax.specs.declared.place.Place.{Place}
use Rattle.nest_syntax.specs.declared.tree.Stmt.{Stmt}
use Rattle.nest_syntax.specs.declared.tree.Program.{Program}
use Rattle.nest_syntax.specs.Arrays.{Array, arrays_of, sizes_of}
use Rattle.nest_syntax.specs.Turn.{Turn, turn_of}
use Rattle.nest_syntax.specs.Reads.{Ended, Completed, Stopped, on_words, Access, accesses_on}
use Rattle.nest_syntax.specs.Course.{Course, Purpose, End, Failed, Scalar, Drain, Iterate, Close, bodies_of, course_of}

-- how a run ends: with the final words of all arrays, or at its first trap
pub data Ending : Type 0 where
  Done : List ℤ → Ending
  TrappedAt : Place → Ending

abbrev pub place_of_trap : Cause → Line → ℕ → Bool → Place
place_of_trap cause line number by_scheduler = record { cause = cause; line = line; number = number; by_scheduler = by_scheduler }

-- the body with this number
abbrev pub body_at : List (List Stmt) → ℕ → List Stmt
body_at [] n = []
body_at (body ∷ bodies) zero = body
body_at (body ∷ bodies) (suc n) = body_at bodies n

-- what an iteration of a body with these scalars does
abbrev pub turn_in : List Array → List (List Stmt) → ℕ → List ℤ → Turn
turn_in arrays bodies body scalars = turn_of arrays (body_at bodies body) scalars

-- goes on behind iteration k, or ends at its trap
abbrev pub behind : ℕ → Ended → (List ℤ → Ending) → Ending
behind k (Completed words) go = go words
behind k (Stopped cause line words) go = TrappedAt (place_of_trap cause line k false)

-- The rest of a run: a course that is left, from iteration k on and on these words. `turn` says what the iterations do.
abbrev pub ending_from : List ℕ → (ℕ → List ℤ → Turn) → Course → ℕ → List ℤ → Ending
ending_from sizes turn End k words = Done words
ending_from sizes turn (Failed cause line) k words = TrappedAt (place_of_trap cause line k true)
ending_from sizes turn (Scalar purpose scalars rest) k words = ending_from sizes turn rest k words
ending_from sizes turn (Drain purpose scalars rest) k words = ending_from sizes turn (rest words) k words
ending_from sizes turn (Iterate body scalars rest) k words = behind k (on_words sizes (turn body scalars) words) (ending_from sizes turn rest (suc k))
ending_from sizes turn (Close scalars rest) k words = ending_from sizes turn rest k words

-- the outcome of a program on its opening words
abbrev pub ending : Program → List ℤ → Ending
ending program words = let arrays = arrays_of program.decls in ending_from (sizes_of arrays) (turn_in arrays (bodies_of program)) (course_of program words) 0 words

-- an event of the scheduler, as it is carried out: each but the last with the scalars before it
pub data Event : Type 0 where
  Computes : Purpose → List ℤ → Event
  Drains : Purpose → List ℤ → Event
  Iterates : ℕ → List ℤ → Event
  Closes : List ℤ → Event
  Ends : Event

-- the words behind a turn, where it doesn't trap
abbrev pub completed : Ended → Option (List ℤ)
completed (Completed words) = Some words
completed (Stopped cause line words) = None

-- The events of a course that is left, with the words as far as textual order has got: a drain reads them, and none is
-- carried out behind an iteration that traps. The events end at End or at the first one that traps.
abbrev pub events_from : List ℕ → (ℕ → List ℤ → Turn) → Course → Option (List ℤ) → List Event
events_from sizes turn End reached = Ends ∷ []
events_from sizes turn (Failed cause line) reached = []
events_from sizes turn (Scalar purpose scalars rest) reached = Computes purpose scalars ∷ events_from sizes turn rest reached
events_from sizes turn (Drain purpose scalars rest) None = []
events_from sizes turn (Drain purpose scalars rest) (Some words) = Drains purpose scalars ∷ events_from sizes turn (rest words) (Some words)
events_from sizes turn (Iterate body scalars rest) reached = Iterates body scalars ∷ events_from sizes turn rest (option_and_then (λ words. completed (on_words sizes (turn body scalars) words)) reached)
events_from sizes turn (Close scalars rest) reached = Closes scalars ∷ events_from sizes turn rest reached

-- the course of a program, as the list of its events
abbrev pub events_of : Program → List ℤ → List Event
events_of program words = let arrays = arrays_of program.decls in events_from (sizes_of arrays) (turn_in arrays (bodies_of program)) (course_of program words) (Some words)

-- the iterations among the events: body and scalars of each, in order
abbrev pub iterations_among : List Event → List (ℕ × List ℤ)
iterations_among [] = []
iterations_among (Iterates body scalars ∷ events) = (body, scalars) ∷ iterations_among events
iterations_among (other ∷ events) = iterations_among events

-- what iteration k of a program does, none where its course has no such iteration
abbrev pub iteration_turn : Program → List ℤ → ℕ → Option Turn
iteration_turn program words k = let arrays = arrays_of program.decls in option_map (λ (i : ℕ × List ℤ). turn_in arrays (bodies_of program) i.0 i.1) (slice_get (iterations_among (events_of program words)) k)

-- the words when n iterations are finished, where textual order gets so far
abbrev pub after : Program → List ℤ → ℕ → Option (List ℤ)
after program words zero = Some words
after program words (suc n) = option_and_then (λ reached. option_and_then (λ turn. completed (on_words (sizes_of (arrays_of program.decls)) turn reached)) (iteration_turn program words n)) (after program words n)

-- the accesses to written arrays that iteration k makes in textual order, where it gets so far
abbrev pub accesses_of : Program → List ℤ → ℕ → Option (List Access)
accesses_of program words k = option_and_then (λ reached. option_map (λ turn. accesses_on (arrays_of program.decls) turn reached) (iteration_turn program words k)) (after program words k)
