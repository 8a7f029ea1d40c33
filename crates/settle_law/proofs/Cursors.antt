-- What the event of a cursor says: one step of a course that is followed.
use Rattle.std.proofs.Common.{◌≡◌, ℕ, zero, suc, ◌+◌, ℤ, Option, Some, None, List, [], ◌∷◌, ◌++◌, length, slice_get, refl, sym, ap, ◌∙◌, subst, arith, append_assoc, append-nil, length-append}
use Rattle.std.proofs.lemmas.Option.{slice_get_past}
use Rattle.std.specs.Option.{option_and_then, option_map_or}
use Rattle.nest_syntax.specs.Reads.{on_words}
use Rattle.nest_syntax.specs.Course.{Course}
use Rattle.nest_syntax.specs.Course as course
use Rattle.nest_syntax.specs.Outcome.{Done, Event as Passed, Computes, Drains, Iterates, Closes, Ends, completed, ending_from, iterations_among}
use Rattle.nest_syntax.specs.Outcome as outcome_of
use Rattle.settle_law.specs.Courses.{Trap, Event, End, Iterate, Nest, events_left, events, outcome, iteration_at, reached, trap_of, Follows, Behind, Onward, AtEvent, CursorsBegin}
use Rattle.settle_law.specs.Tasks.{System}
use Rattle.settle_law.specs.Reading.{KeepsFixed, NestKeepsFixed, BodiesBegin}
use Rattle.settle_law.proofs.Turns.{keeps-from_realises}
use Rattle.settle_law.proofs.Nests.{well}

iterations_append : (xs ys : List Passed) → iterations_among (xs ++ ys) ≡ iterations_among xs ++ iterations_among ys
iterations_append [] ys = refl
iterations_append (Computes purpose scalars ∷ xs) ys = iterations_append xs ys
iterations_append (Drains purpose scalars ∷ xs) ys = iterations_append xs ys
iterations_append (Iterates body scalars ∷ xs) ys = ap (λ l. (body, scalars) ∷ l) (iterations_append xs ys)
iterations_append (Closes scalars ∷ xs) ys = iterations_append xs ys
iterations_append (Ends ∷ xs) ys = iterations_append xs ys

at_seam : {A : Type 0} (xs : List A) (y : A) (ys : List A) → slice_get (xs ++ y ∷ ys) (length xs) ≡ Some y
at_seam [] y ys = refl
at_seam (x ∷ xs) y ys = at_seam xs y ys

abbrev failed_with : Trap → Course
failed_with trap = course.Failed trap.cause trap.line

failed : (left : Course) (trap : Trap) → trap_of left ≡ Some trap → left ≡ course.Failed trap.cause trap.line
failed (course.Failed cause line) trap e = from trap e
  where
    from : (trap : Trap) → trap_of (course.Failed cause line) ≡ Some trap → course.Failed cause line ≡ course.Failed trap.cause trap.line
    from trap e = let s : trap_of (course.Failed cause line) ≡ Some trap = e in ap (λ o. failed_with (option_map_or (λ (t : Trap). t) o trap)) s
failed course.End trap e = absurd (let no : None ≡ Some trap = e in cc)
failed (course.Scalar purpose scalars rest) trap e = absurd (let no : None ≡ Some trap = e in cc)
failed (course.Drain purpose scalars rest) trap e = absurd (let no : None ≡ Some trap = e in cc)
failed (course.Iterate body scalars rest) trap e = absurd (let no : None ≡ Some trap = e in cc)
failed (course.Close scalars rest) trap e = absurd (let no : None ≡ Some trap = e in cc)

module _ {B C : Type 0} (nest : Nest) (what : B → ℕ × List ℤ) (event : C → Event B C) (passed : List Passed) (next : ℕ) where
  -- one event more that is no iteration
  more_passed : (this : Passed) (rest : List Passed) → passed ++ this ∷ rest ≡ events nest → (passed ++ this ∷ []) ++ rest ≡ events nest
  more_passed this rest all = append_assoc passed (this ∷ []) rest ∙ all

  counts_same : (this : Passed) → iterations_among (this ∷ []) ≡ [] → length (iterations_among passed) ≡ next → length (iterations_among (passed ++ this ∷ [])) ≡ next
  counts_same this none counts = ap length (iterations_append passed (this ∷ []) ∙ ap (λ l. iterations_among passed ++ l) none ∙ append-nil (iterations_among passed)) ∙ counts

  -- behind an event with this course behind it, which may be its trap
  onward : (this : Passed) (rest : Course) (after : C) → iterations_among (this ∷ []) ≡ [] → length (iterations_among passed) ≡ next → passed ++ this ∷ events_left nest rest (reached nest next) ≡ events nest → ((words : List ℤ) → reached nest next ≡ Some words → ending_from nest.sizes nest.turn rest next words ≡ outcome nest) → (trap_of rest ≡ None → Follows nest what event after rest) → (o : Option Trap) → trap_of rest ≡ o → Onward nest what event passed next this o after
  onward this rest after none counts all ends follows None is = record {
    left = rest;
    follows = follows is;
    counts = counts_same this none counts;
    all_events = more_passed this (events_left nest rest (reached nest next)) all;
    ends = ends;
  }
  onward this rest after none counts all ends follows (Some trap) is = λ words e. sym (subst (λ c. ending_from nest.sizes nest.turn c next words ≡ outcome nest) (failed rest trap is) (ends words e))

  -- the end
  at_end : length (iterations_among passed) ≡ next → passed ++ Ends ∷ [] ≡ events nest → ((words : List ℤ) → reached nest next ≡ Some words → Done words ≡ outcome nest) → AtEvent nest what event passed next End
  at_end counts all ends = (sym all, (λ k le. slice_get_past (iterations_among (events nest)) k (let len : length (iterations_among (events nest)) ≡ next = ap (λ l. length (iterations_among l)) (sym all) ∙ counts_same Ends refl counts in omega (arith, len))), λ words e. sym (ends words e))

  -- an iteration
  at_iteration : (body : ℕ) (scalars : List ℤ) (rest : Course) (b : B) (after : C) → what b ≡ (body, scalars) → length (iterations_among passed) ≡ next → passed ++ events_left nest (course.Iterate body scalars rest) (reached nest next) ≡ events nest → ((words : List ℤ) → reached nest next ≡ Some words → ending_from nest.sizes nest.turn (course.Iterate body scalars rest) next words ≡ outcome nest) → Follows nest what event after rest → AtEvent nest what event passed next (Iterate b after)
  at_iteration body scalars rest b after same counts all ends follows = subst (λ (i : ℕ × List ℤ). (iteration_at nest next ≡ Some i) × Behind nest what event (passed ++ Iterates i.0 i.1 ∷ []) (suc next) after) (sym same) (
    mine,
    record {
      left = rest;
      follows = follows;
      counts = ap length (iterations_append passed (Iterates body scalars ∷ [])) ∙ length-append (iterations_among passed) ((body, scalars) ∷ []) ∙ (let more : length (iterations_among passed) + 1 ≡ suc next = omega (arith, counts) in more);
      all_events = more_passed (Iterates body scalars) (events_left nest rest (reached nest (suc next))) (subst (λ o. passed ++ Iterates body scalars ∷ events_left nest rest o ≡ events nest) (sym then) all);
      ends = λ words e. by_words (reached nest next) words refl (sym then ∙ e);
    },
  )
    where
      mine : iteration_at nest next ≡ Some (body, scalars)
      mine = ap (λ l. slice_get (iterations_among l) next) (sym all) ∙ ap (λ l. slice_get l next) (iterations_append passed (events_left nest (course.Iterate body scalars rest) (reached nest next))) ∙ subst (λ n. slice_get (iterations_among passed ++ iterations_among (events_left nest (course.Iterate body scalars rest) (reached nest next))) n ≡ Some (body, scalars)) counts (at_seam (iterations_among passed) (body, scalars) _)

      then : reached nest (suc next) ≡ option_and_then (λ words. completed (on_words nest.sizes (nest.turn body scalars) words)) (reached nest next)
      then = ap (λ o. option_and_then (λ words. option_and_then (λ (i : ℕ × List ℤ). completed (on_words nest.sizes (nest.turn i.0 i.1) words)) o) (reached nest next)) mine

      by_words : (o : Option (List ℤ)) (words : List ℤ) → reached nest next ≡ o → option_and_then (λ w. completed (on_words nest.sizes (nest.turn body scalars) w)) o ≡ Some words → ending_from nest.sizes nest.turn rest (suc next) words ≡ outcome nest
      by_words None words is e = absurd (let no : None ≡ Some words = e in cc)
      by_words (Some before) words is e = sym (ap (λ x. outcome_of.behind next x (ending_from nest.sizes nest.turn rest (suc next))) (well (on_words nest.sizes (nest.turn body scalars) before) words e)) ∙ ends before is

  at_left : (cursor : C) (left : Course) → Follows nest what event cursor left → length (iterations_among passed) ≡ next → passed ++ events_left nest left (reached nest next) ≡ events nest → ((words : List ℤ) → reached nest next ≡ Some words → ending_from nest.sizes nest.turn left next words ≡ outcome nest) → AtEvent nest what event passed next (event cursor)
  at_left cursor course.End is counts all ends = subst (AtEvent nest what event passed next) (sym is) (at_end counts all ends)
  at_left cursor (course.Failed cause line) is counts all ends = elim is [ ]
  at_left cursor (course.Scalar purpose scalars rest) (after, is, follows) counts all ends = subst (AtEvent nest what event passed next) (sym is) (scalars, onward (Computes purpose scalars) rest after refl counts all ends follows (trap_of rest) refl)
  at_left cursor (course.Drain purpose scalars rest) (trap, after, is, follows) counts all ends = subst (AtEvent nest what event passed next) (sym is) (
    scalars,
    λ words e.
        onward (Drains purpose scalars) (rest words) (after words) refl counts
        (subst (λ o. passed ++ Drains purpose scalars ∷ events_left nest (rest words) o ≡ events nest) (sym e) (subst (λ o. passed ++ events_left nest (course.Drain purpose scalars rest) o ≡ events nest) e all))
        (λ w f. let both : Some words ≡ Some w = sym e ∙ f in let same : words ≡ w = cc in subst (λ x. ending_from nest.sizes nest.turn (rest words) next x ≡ outcome nest) same (ends words e))
        (follows words).1 (trap words) (sym (follows words).0),
  )
  at_left cursor (course.Iterate body scalars rest) (b, after, is, same, follows) counts all ends = subst (AtEvent nest what event passed next) (sym is) (at_iteration body scalars rest b after same counts all ends follows)
  at_left cursor (course.Close scalars rest) (after, is, follows) counts all ends = subst (AtEvent nest what event passed next) (sym is) (
    scalars,
    record {
      left = rest;
      follows = follows;
      counts = counts_same (Closes scalars) refl counts;
      all_events = more_passed (Closes scalars) (events_left nest rest (reached nest next)) all;
      ends = ends;
    },
  )

  pub at_event : (cursor : C) → Behind nest what event passed next cursor → AtEvent nest what event passed next (event cursor)
  at_event cursor behind = at_left cursor behind.left behind.follows behind.counts behind.all_events behind.ends

pub begins : (B C : Type 0) → CursorsBegin B C
begins B C nest what event cursor follows = record {
  left = nest.course;
  follows = follows;
  counts = refl;
  all_events = refl;
  ends = λ words e. let s : Some nest.opening ≡ Some words = e in let t : nest.opening ≡ words = cc in ap (ending_from nest.sizes nest.turn nest.course 0) (sym t);
}

-- each iteration of a course that a cursor follows is that of a body which the cursor gives
module _ {B C : Type 0} (nest : Nest) (what : B → ℕ × List ℤ) (event : C → Event B C) where
  abbrev IsGiven : ℕ × List ℤ → Type 0
  IsGiven i = (b : B) × (what b ≡ i)

  abbrev AllGiven : Course → Type 0
  AllGiven left = (words : Option (List ℤ)) (k : ℕ) (i : ℕ × List ℤ) → slice_get (iterations_among (events_left nest left words)) k ≡ Some i → IsGiven i

  behind_all_given : (rest : Course) → (trap_of rest ≡ None → AllGiven rest) → AllGiven rest
  behind_all_given rest more words k i at = by_trap (trap_of rest) refl
    where
      by_trap : (o : Option Trap) → trap_of rest ≡ o → IsGiven i
      by_trap None is = more is words k i at
      by_trap (Some trap) is = absurd (let none : None ≡ Some i = subst (λ c. slice_get (iterations_among (events_left nest c words)) k ≡ Some i) (failed rest trap is) at in cc)

  all_given : (left : Course) (cursor : C) → Follows nest what event cursor left → AllGiven left
  all_given course.End cursor is words k i at = absurd (let no : None ≡ Some i = at in cc)
  all_given (course.Failed cause line) cursor is words k i at = elim is [ ]
  all_given (course.Scalar purpose scalars rest) cursor (after, is, follows) words k i at = behind_all_given rest (λ none. all_given rest after (follows none)) words k i at
  all_given (course.Drain purpose scalars rest) cursor (trap, after, is, follows) None k i at = absurd (let no : None ≡ Some i = at in cc)
  all_given (course.Drain purpose scalars rest) cursor (trap, after, is, follows) (Some words) k i at = behind_all_given (rest words) (λ none. all_given (rest words) (after words) ((follows words).1 none)) (Some words) k i at
  all_given (course.Iterate body scalars rest) cursor (b, after, is, same, follows) words zero i at = let s : Some (body, scalars) ≡ Some i = at in let t : (body, scalars) ≡ i = cc in (b, same ∙ t)
  all_given (course.Iterate body scalars rest) cursor (b, after, is, same, follows) words (suc k) i at = all_given rest after follows (option_and_then (λ w. completed (on_words nest.sizes (nest.turn body scalars) w)) words) k i at
  all_given (course.Close scalars rest) cursor (after, is, follows) words k i at = all_given rest after follows words k i at

pub followed_keeps : {B C P : Type 0} (sys : System P) (nest : Nest) (what : B → ℕ × List ℤ) (entry : B → P) (event : C → Event B C) (cursor : C) → BodiesBegin sys nest what entry → Follows nest what event cursor nest.course → NestKeepsFixed sys.fixed nest
followed_keeps sys nest what entry event cursor begins follows k i at =
    let given = all_given nest what event nest.course cursor follows (Some nest.opening) k i at in
    subst (λ (j : ℕ × List ℤ). KeepsFixed nest.sizes sys.fixed (nest.turn j.0 j.1)) given.1 (keeps-from_realises sys nest.sizes 0 (nest.turn (what given.0).0 (what given.0).1) (entry given.0) (begins given.0 k (at ∙ ap Some (sym given.1))))
