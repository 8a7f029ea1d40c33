-- The definitions on a small nest, computed: a wait that holds a worker up, a drain that waits, a trap, what is dropped
-- behind it, and the waits and facts of eight iterations in two invocations. The setup keeps the premises of the laws.
use Rattle.std.proofs.Common.{◌≡◌, ℕ, zero, suc, ◌+◌, ◌%◌, ℤ, pos, ◌+ℤ◌, Bool, true, ◌||◌, ◌==◌, false, Option, Some, None, List, [], ◌∷◌, slice_index_or, refl, arith}
use Rattle.std.proofs.lemmas.Bool.{true≢false}
use Rattle.nest_syntax.specs.declared.names.Line.{Line}
use Rattle.nest_syntax.specs.declared.operators.Cause.TheVariants as cause
use Rattle.nest_syntax.specs.Turn.{Turn}
use Rattle.nest_syntax.specs.Turn as turn
use Rattle.nest_syntax.specs.Course.{Purpose, Ordinary, Header}
use Rattle.nest_syntax.specs.Course as course
use Rattle.nest_syntax.specs.Outcome.{Done, TrappedAt, place_of_trap, Event as Passed, Computes, Iterates, Closes, Ends}
use Rattle.settle_law.specs.Traces.{Read, Write}
use Rattle.settle_law.specs.Tasks.{Stop, Loads, Stores, Finishes, Traps, System}
use Rattle.settle_law.specs.Courses.{Event, End, Scalar, Drain, Iterate, Close, Nest, outcome}
use Rattle.settle_law.specs.Runs.{run}
use Rattle.settle_law.specs.Reading.{BodiesBegin}
use Rattle.domore_machine.specs.Waits.{waits_of}
use Rattle.domore_machine.specs.Facts.{no_facts, facts_from, facts_of}
use Rattle.domore_machine.specs.Machine.{Setup, State, opening, step, waits}
use Rattle.domore_machine.specs.Runs.{trace_from, is_finished, ending_of}
use Rattle.domore_machine.specs.Theorems.{IsSetupFor, Completes}
use Rattle.domore_machine.specs.Measure.{bound, measure, Costs}
use Rattle.domore_machine.proofs.Runs.{ends_as}

-- a body writes word 0, or reads it and writes one more into word 1, or traps
data Body : Type 0 where
  Sets : ℤ → Body
  Follows : Body
  Fails : Body

data Piece : Type 0 where
  Storing : ℕ → ℤ → Piece
  Loading : Piece
  Failing : Piece
  Over : Piece

abbrev line : Line
line = record { 0 = 4 }

-- which body of the nest below it is, with which scalars
abbrev what : Body → ℕ × List ℤ
what (Sets value) = (0, value ∷ [])
what Follows = (1, [])
what Fails = (2, [])

abbrev entry_at : Body → Piece
entry_at (Sets value) = Storing 0 value
entry_at Follows = Loading
entry_at Fails = Failing

abbrev stop_at : Piece → Stop Piece
stop_at (Storing w value) = Stores w value Over
stop_at Loading = Loads 0 (λ value. Storing 1 (value +ℤ pos 1))
stop_at Failing = Traps cause.Index line
stop_at Over = Finishes

abbrev fuel_at : Piece → ℕ
fuel_at (Storing w value) = 1
fuel_at Loading = 2
fuel_at Failing = 0
fuel_at Over = 0

abbrev pieces : System Piece
pieces = record { stop = stop_at; fuel = fuel_at; fixed = λ w. None }

-- a cursor is the list of the events that are left
data Item : Type 0 where
  Compute : Purpose → Item
  Ask : Item
  Iteration : Body → Item
  Closing : Item

abbrev event_at : List Item → Event Body (List Item)
event_at [] = End
event_at (Compute purpose ∷ rest) = Scalar purpose None rest
event_at (Ask ∷ rest) = Drain Ordinary (λ words. None) (λ words. rest)
event_at (Iteration body ∷ rest) = Iterate body rest
event_at (Closing ∷ rest) = Close rest

abbrev machine : Setup Body (List Item) Piece
machine = record { system = pieces; event = event_at; entry = entry_at; clashes = λ j k. true; width = 2; room = 1 }

-- iteration 0 writes word 0, iteration 1 reads it and writes word 1, and a drain follows
abbrev turn_at : ℕ → List ℤ → Turn
turn_at zero scalars = turn.Store 0 0 (slice_index_or scalars 0 (pos 0)) turn.Finished
turn_at (suc zero) scalars = turn.Load 0 0 (λ value. turn.Store 0 1 (value +ℤ pos 1) turn.Finished)
turn_at (suc (suc body)) scalars = turn.Trapped cause.Index line

abbrev nest : Nest
nest = record {
  sizes = 2 ∷ [];
  turn = turn_at;
  course = course.Scalar Header [] (course.Iterate 0 (pos 5 ∷ []) (course.Iterate 1 [] (course.Close [] (course.Drain Ordinary [] (λ words. course.End)))));
  opening = pos 0 ∷ pos 0 ∷ [];
}

abbrev items : List Item
items = Compute Header ∷ Iteration (Sets (pos 5)) ∷ Iteration Follows ∷ Closing ∷ Ask ∷ []

-- it keeps the premises
realised : BodiesBegin pieces nest what entry_at
realised (Sets value) k at = (Over, refl, refl, omega arith, refl)
realised Follows k at = ((λ value. Storing 1 (value +ℤ pos 1)), refl, λ value can. (omega arith, (Over, refl, refl, omega arith, refl)))
realised Fails k at = refl

setup : IsSetupFor machine nest what items
setup = record {
  some_worker = omega arith;
  some_room = omega arith;
  begins = realised;
  follows = (_, refl, λ none. (_, _, refl, refl, (_, _, refl, refl, (_, refl, (_, _, refl, λ words. (refl, λ none. refl))))));
  opens_fixed = λ w value told. absurd (let no : None ≡ Some value = told in cc);
  apart = λ j k lt free. absurd (true≢false free);
}

abbrev from : List Item → List ℕ → Option (State Body (List Item) Piece)
from items history = run (step machine) (opening machine items (pos 0 ∷ pos 0 ∷ [])) history

-- worker 1 can't pass its wait before worker 0 has finished
holds_up : from items (2 ∷ 2 ∷ 2 ∷ 0 ∷ 1 ∷ 0 ∷ 1 ∷ []) ≡ None
holds_up = refl

-- the scheduler can't drain before worker 1 has finished
drain_waits : from items (2 ∷ 2 ∷ 2 ∷ 2 ∷ 0 ∷ 1 ∷ 0 ∷ 0 ∷ 1 ∷ 1 ∷ 1 ∷ 2 ∷ []) ≡ None
drain_waits = refl

-- a whole run: its last state is finished, ends with the words 5 and 6, and has counted this
abbrev history : List ℕ
history = 2 ∷ 2 ∷ 2 ∷ 2 ∷ 0 ∷ 1 ∷ 0 ∷ 0 ∷ 1 ∷ 1 ∷ 1 ∷ 1 ∷ 2 ∷ 2 ∷ 0 ∷ 1 ∷ []

whole : (s : State Body (List Item) Piece) × (from items history ≡ Some s) × (is_finished machine s ≡ true) × (ending_of s ≡ Done (pos 5 ∷ pos 6 ∷ [])) × (s.facts ≡ record { invocations = 1; iterations = 2; drains = 1; waits = 1; crossing = 0; first_waits = record { number = 1; on = 0; crossing = false } ∷ []; first = 0 })
whole = (_, refl, refl, refl, refl)

whole_trace : trace_from machine (opening machine items nest.opening) history ≡ Write 0 0 (pos 5) ∷ Read 1 0 (pos 5) ∷ Write 1 1 (pos 6) ∷ []
whole_trace = refl

-- so is the outcome of the nest in textual order, and every complete history ends so
textual : outcome nest ≡ Done (pos 5 ∷ pos 6 ∷ [])
textual = refl

every : (others : List ℕ) (complete : Completes machine nest items others) → ending_of complete.last ≡ Done (pos 5 ∷ pos 6 ∷ [])
every others complete = ends_as Body (List Item) Piece machine nest what items setup others complete

textual_facts : facts_of (waits machine) nest ≡ record { invocations = 1; iterations = 2; drains = 1; waits = 1; crossing = 0; first_waits = record { number = 1; on = 0; crossing = false } ∷ []; first = 0 }
textual_facts = refl

-- the run has 16 steps, as many as the measure of the opening says; the bound is 21 where each iteration costs 3
measured : measure machine nest (opening machine items nest.opening) ≡ 16
measured = refl

bounded : bound nest 2 (λ k. 3) ≡ 21
bounded = refl

costs : Costs machine nest 6 (λ k. 3) items 0
costs = λ none. (omega arith, (omega arith, λ words reach none. tt))

-- iteration 0 traps; iteration 1 is held and dropped, iteration 2 is queued and dropped
abbrev trapping : List Item
trapping = Compute Header ∷ Iteration Fails ∷ Iteration (Sets (pos 5)) ∷ Iteration (Sets (pos 6)) ∷ Closing ∷ []

trapped : (s : State Body (List Item) Piece) × (from trapping (2 ∷ 2 ∷ 2 ∷ 0 ∷ 1 ∷ 2 ∷ 0 ∷ 1 ∷ 0 ∷ 2 ∷ 0 ∷ 1 ∷ []) ≡ Some s) × (is_finished machine s ≡ true) × (ending_of s ≡ TrappedAt (place_of_trap cause.Index line 0 false)) × (s.words ≡ pos 0 ∷ pos 0 ∷ [])
trapped = (_, refl, refl, refl, refl)

-- Eight iterations in two invocations: number k writes word k % 4 and reads the mirrored one, with two workers.
abbrev mirrored : ℕ → ℕ → Bool
mirrored j k = (j % 4 == k % 4) || (j % 4 + k % 4 == 3)

abbrev eight : List Passed
eight = Computes Ordinary [] ∷ Computes Ordinary [] ∷ Computes Header [] ∷ Iterates 0 [] ∷ Iterates 0 [] ∷ Iterates 0 [] ∷ Iterates 0 [] ∷ Closes [] ∷ Computes Ordinary [] ∷ Computes Header [] ∷ Iterates 0 [] ∷ Iterates 0 [] ∷ Iterates 0 [] ∷ Iterates 0 [] ∷ Closes [] ∷ Computes Ordinary [] ∷ Ends ∷ []

eight_facts : facts_from (waits_of mirrored 2) 0 no_facts eight ≡ record {
  invocations = 2;
  iterations = 8;
  drains = 0;
  waits = 6;
  crossing = 2;
  first_waits = record { number = 2; on = 1; crossing = false } ∷ record { number = 3; on = 0; crossing = false } ∷ record { number = 4; on = 3; crossing = true } ∷ record { number = 5; on = 2; crossing = true } ∷ record { number = 6; on = 5; crossing = false } ∷ record { number = 7; on = 4; crossing = false } ∷ [];
  first = 4;
}
eight_facts = refl
