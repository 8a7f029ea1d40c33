-- The definitions, evaluated on small traces and turns.
use Rattle.std.proofs.Common.{◌≡◌, ℕ, zero, suc, ◌≤◌, ℤ, pos, Option, Some, None, List, [], ◌∷◌, refl, arith, true, sym, ◌∙◌, subst, inl}
use Rattle.nest_syntax.specs.declared.names.Line.{Line}
use Rattle.nest_syntax.specs.declared.operators.Cause.{Cause}
use Rattle.nest_syntax.specs.Course.{Course, Ordinary, Header}
use Rattle.nest_syntax.specs.Course as course
use Rattle.nest_syntax.specs.Outcome.{Done, TrappedAt, place_of_trap, Computes, Iterates, Closes, Ends}
use Rattle.nest_syntax.specs.Turn.{Turn}
use Rattle.nest_syntax.specs.Turn as turn
use Rattle.settle_law.specs.Trees.{Tree, Finished, Load, Store}
use Rattle.settle_law.specs.Cuts.{cut, plain}
use Rattle.settle_law.specs.Cuts as cut
use Rattle.settle_law.specs.Traces.{Access, Read, Write, settle, Replays, InOrder, part, IsFinished, Fits, Makes}
use Rattle.settle_law.specs.Courses.{Nest, Event, End, Scalar, Iterate, Close, events, reached, outcome, Follows}
use Rattle.settle_law.specs.Law.{after, accesses, Lawful, FinishedParts}
use Rattle.settle_law.proofs.Members.{part_other}
use Rattle.settle_law.proofs.Law.{settles}

-- iteration 0 writes word 0, iteration 1 reads it and writes word 1
abbrev family : ℕ → Tree
family zero = Store 0 (pos 5) Finished
family (suc k) = Load 0 (λ value. Store 1 (pos 6) Finished)

abbrev in_turn : List Access
in_turn = Write 0 0 (pos 5) ∷ Read 1 0 (pos 5) ∷ Write 1 1 (pos 6) ∷ []

abbrev two_zeros : List ℤ
two_zeros = pos 0 ∷ pos 0 ∷ []

-- in order: it replays, both parts are finished, and it settles to the words of textual order
in_turn-replays : Replays two_zeros in_turn
in_turn-replays = (tt, (refl, (tt, tt)))

in_turn-in_order : InOrder in_turn
in_turn-in_order = ((λ c. omega arith, (λ c. omega arith, tt)), ((λ c. omega arith, tt), (tt, tt)))

in_turn-settles : settle two_zeros in_turn ≡ pos 5 ∷ pos 6 ∷ []
in_turn-settles = refl

in_turn-is_textual : after family two_zeros 2 ≡ Some (settle two_zeros in_turn)
in_turn-is_textual = refl

in_turn-part : part 1 in_turn ≡ accesses 1 (family 1) (pos 5 ∷ pos 0 ∷ [])
in_turn-part = refl

in_turn-finished : IsFinished (family 1) (part 1 in_turn)
in_turn-finished = (refl, (refl, refl, refl))

-- it keeps the premises of the law, and the law gives what was evaluated
in_turn-no_other : (k : ℕ) → part (suc (suc k)) in_turn ≡ []
in_turn-no_other k = part_other (suc (suc k)) (Write 0 0 (pos 5)) (Read 1 0 (pos 5) ∷ Write 1 1 (pos 6) ∷ []) (λ same. let s : 0 ≡ suc (suc k) = same in omega arith) ∙ part_other (suc (suc k)) (Read 1 0 (pos 5)) (Write 1 1 (pos 6) ∷ []) (λ same. let s : 1 ≡ suc (suc k) = same in omega arith) ∙ part_other (suc (suc k)) (Write 1 1 (pos 6)) [] (λ same. let s : 1 ≡ suc (suc k) = same in omega arith)

in_turn-fits : (k : ℕ) → Fits (family k) (part k in_turn)
in_turn-fits zero = (Finished, (refl, refl, refl))
in_turn-fits (suc zero) = (Finished, in_turn-finished)
in_turn-fits (suc (suc k)) = (family (suc (suc k)), subst (λ made. Makes (family (suc (suc k))) made (family (suc (suc k)))) (sym (in_turn-no_other k)) refl)

in_turn-parts : FinishedParts family 0 2 in_turn
in_turn-parts zero from below = (refl, refl, refl)
in_turn-parts (suc zero) from below = in_turn-finished
in_turn-parts (suc (suc k)) from below = absurd (omega arith)

in_turn-lawful : Lawful family two_zeros 0 two_zeros in_turn
in_turn-lawful = record {
  reached = refl;
  replays = in_turn-replays;
  in_order = in_turn-in_order;
  from_m = (omega arith, (omega arith, (omega arith, tt)));
  fits = in_turn-fits;
  guarded = ((λ j from below. inl (in_turn-parts j from (omega arith))), ((λ j from below. inl (in_turn-parts j from (omega arith))), ((λ j from below. inl (in_turn-parts j from (omega arith))), tt)));
}

in_turn-settles_by_law : after family two_zeros 2 ≡ Some (settle two_zeros in_turn)
in_turn-settles_by_law = settles family two_zeros 0 two_zeros in_turn in_turn-lawful 2 (omega arith) in_turn-parts (omega arith, (omega arith, (omega arith, tt)))

-- out of order: iteration 1 reads before iteration 0 writes; the trace replays, and settles to the same words
abbrev too_early : List Access
too_early = Read 1 0 (pos 0) ∷ Write 0 0 (pos 5) ∷ Write 1 1 (pos 6) ∷ []

too_early-replays : Replays two_zeros too_early
too_early-replays = (refl, (tt, (tt, tt)))

too_early-is_not_in_order : InOrder too_early → ⊥
too_early-is_not_in_order order = let le : 1 ≤ 0 = order.0.0 refl in omega arith

-- n operations before what follows
abbrev operations : ℕ → Turn → Turn
operations zero rest = rest
operations (suc n) rest = turn.Op (operations n rest)

-- a pause comes behind the 32nd operation and not before, also where a stop stands there anyway
no_pause : cut [] 0 (operations 31 turn.Finished) ≡ cut.Finished
no_pause = refl

one_pause : cut [] 0 (operations 32 turn.Finished) ≡ cut.Pauses cut.Finished
one_pause = refl

two_pauses : cut [] 0 (operations 32 (turn.Go (operations 32 turn.Finished))) ≡ cut.Pauses (cut.Pauses (cut.Pauses cut.Finished))
two_pauses = refl

-- a read starts the count anew
count_anew : cut (4 ∷ []) 0 (operations 20 (turn.Load 0 3 (λ value. operations 20 turn.Finished))) ≡ cut.Reads 3 (λ value. cut.Finished)
count_anew = refl

-- the read of a `const` word is gone in the plain tree, and so is a pause
abbrev told : ℕ → Option ℤ
told zero = Some (pos 7)
told (suc w) = None

plain_sample : plain told (cut.Reads 0 (λ index. cut.Pauses (cut.Reads 1 (λ value. cut.Writes 1 index cut.Finished)))) ≡ Load 1 (λ value. Store 1 (pos 7) Finished)
plain_sample = refl

-- a nest with one invocation of two iterations, each of which writes word 0 with 3
abbrev small : Course → Nest
small course = record { sizes = 1 ∷ []; turn = λ body scalars. turn.Store 0 0 (pos 3) turn.Finished; course = course; opening = pos 0 ∷ [] }

abbrev two_iterations : Course
two_iterations = course.Scalar Header [] (course.Iterate 0 [] (course.Iterate 0 [] (course.Close [] course.End)))

small-events : events (small two_iterations) ≡ Computes Header [] ∷ Iterates 0 [] ∷ Iterates 0 [] ∷ Closes [] ∷ Ends ∷ []
small-events = refl

small-reaches : reached (small two_iterations) 1 ≡ Some (pos 3 ∷ [])
small-reaches = refl

small-outcome : outcome (small two_iterations) ≡ Done (pos 3 ∷ [])
small-outcome = refl

-- the cursor counts the events, and the only body is the number 0
abbrev small_event : ℕ → Event ℕ ℕ
small_event zero = Scalar Header None 1
small_event (suc zero) = Iterate 0 2
small_event (suc (suc zero)) = Iterate 0 3
small_event (suc (suc (suc zero))) = Close 4
small_event (suc (suc (suc (suc n)))) = End

small-follows : Follows (small two_iterations) (λ (b : ℕ). (b, [])) small_event 0 two_iterations
small-follows = (1, refl, λ none. (0, 2, refl, refl, (0, 3, refl, refl, (4, refl, refl))))

-- an event that traps ends the nest
trapping-outcome : (why : Cause) (line : Line) → outcome (small (course.Scalar Ordinary [] (course.Failed why line))) ≡ TrappedAt (place_of_trap why line 0 true)
trapping-outcome why line = refl
