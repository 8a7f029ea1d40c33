-- The words that a nest reaches, against those of the law for its family, and its outcome at a trap.
use Rattle.std.proofs.Common.{◌≡◌, ℕ, zero, suc, ◌+◌, ◌<◌, ℤ, false, Option, Some, None, IsSome, List, ◌∷◌, map, slice_get, refl, sym, ap, ◌∙◌, subst, arith, add-zero}
use Rattle.std.proofs.lemmas.Bool.{false≢true}
use Rattle.std.specs.Option.{option_map, option_map_or, option_and_then}
use Rattle.nest_syntax.specs.declared.names.Line.{Line}
use Rattle.nest_syntax.specs.declared.operators.Cause.{Cause}
use Rattle.nest_syntax.specs.declared.tree.Program.{Program}
use Rattle.nest_syntax.specs.Arrays.{arrays_of, sizes_of}
use Rattle.nest_syntax.specs.Turn.{Turn}
use Rattle.nest_syntax.specs.Reads.{Ended, Completed, Stopped, on_words, accesses_on}
use Rattle.nest_syntax.specs.Course.{Course, End, Failed, Scalar, Drain, Iterate, Close, bodies_of}
use Rattle.nest_syntax.specs.Outcome.{TrappedAt, place_of_trap, completed, turn_in, ending_from, events_from, iterations_among, iteration_turn, accesses_of, after as program_after}
use Rattle.nest_syntax.specs.Outcome as outcome_of
use Rattle.settle_law.specs.Trees.{Finished, turn}
use Rattle.settle_law.specs.Cuts.{cut, plain, HoldsFixed}
use Rattle.settle_law.specs.Law.{accesses, after}
use Rattle.settle_law.specs.Traces.{Access}
use Rattle.settle_law.specs.Courses.{Nest, nest_of, events, iteration_at, reached, cut_at, family_of, TrappedIterationIsOutcome}
use Rattle.nest_syntax.specs.Inside.{StaysInside}
use Rattle.settle_law.specs.Reading.{NestKeepsFixed, ReachedIsAfter, AfterIsReached, ProgramIsNest, ProgramAccesses, of_iteration, fixed_in}
use Rattle.settle_law.proofs.Turns.{HoldsAtEnd, holds_at_end, turn_is, accesses_are, keeps-from_tells, tells-from_inside}

pub well : (ended : Ended) (last : List ℤ) → completed ended ≡ Some last → ended ≡ Completed last
well (Completed words) last same = let s : Some words ≡ Some last = same in let t : words ≡ last = cc in ap Completed t
well (Stopped cause line words) last same = absurd (let no : None ≡ Some last = same in cc)

-- how one more iteration is reached
module _ {A : Type 0} (step : A → List ℤ → Ended) where
  abbrev pub Reaching : Option (List ℤ) → Option A → List ℤ → Type 0
  Reaching o next last = (words : List ℤ) × (i : A) × (o ≡ Some words) × (next ≡ Some i) × (step i words ≡ Completed last)

  pub reaching : (o : Option (List ℤ)) (next : Option A) (last : List ℤ) → option_and_then (λ words. option_and_then (λ i. completed (step i words)) next) o ≡ Some last → Reaching o next last
  reaching None next last e = absurd (let no : None ≡ Some last = e in cc)
  reaching (Some words) None last e = absurd (let no : None ≡ Some last = e in cc)
  reaching (Some words) (Some i) last e = (words, i, refl, refl, well (step i words) last e)

pub family_at : (fixed : ℕ → Option ℤ) (nest : Nest) (k : ℕ) (i : ℕ × List ℤ) → iteration_at nest k ≡ Some i → family_of fixed nest k ≡ plain fixed (cut_at nest i)
family_at fixed nest k i at = ap (λ o. option_map_or (λ (j : ℕ × List ℤ). plain fixed (cut_at nest j)) o Finished) at

abbrev pub step_of : Nest → ℕ × List ℤ → List ℤ → Ended
step_of nest i words = on_words nest.sizes (nest.turn i.0 i.1) words

module _ (fixed : ℕ → Option ℤ) (nest : Nest) (opening_holds : HoldsFixed fixed nest.opening) (keeps : NestKeepsFixed fixed nest) where
  -- the turn of an iteration is the law's
  pub family_turn : (k : ℕ) (i : ℕ × List ℤ) (words : List ℤ) → iteration_at nest k ≡ Some i → HoldsFixed fixed words → turn (family_of fixed nest k) words ≡ step_of nest i words
  family_turn k i words at holds = ap (λ t. turn t words) (family_at fixed nest k i at) ∙ sym (turn_is nest.sizes fixed 0 (nest.turn i.0 i.1) words (keeps k i at) holds)

  pub reached_after : (n : ℕ) (words : List ℤ) → reached nest n ≡ Some words → (after (family_of fixed nest) nest.opening n ≡ Some words) × HoldsFixed fixed words
  reached_after zero words e = let s : Some nest.opening ≡ Some words = e in let t : nest.opening ≡ words = cc in (e, subst (HoldsFixed fixed) t opening_holds)
  reached_after (suc n) last e = go (reaching (step_of nest) (reached nest n) (iteration_at nest n) last e) (λ words at. reached_after n words at)
    where
      go : Reaching (step_of nest) (reached nest n) (iteration_at nest n) last → ((words : List ℤ) → reached nest n ≡ Some words → (after (family_of fixed nest) nest.opening n ≡ Some words) × HoldsFixed fixed words) → (after (family_of fixed nest) nest.opening (suc n) ≡ Some last) × HoldsFixed fixed last
      go (words, i, before, at, ends) more = (
        ap (λ o. option_and_then (λ w. completed (turn (family_of fixed nest n) w)) o) (more words before).0 ∙ ap completed (family_turn n i words at (more words before).1 ∙ ends),
        subst (HoldsAtEnd nest.sizes fixed) ends (holds_at_end nest.sizes fixed (nest.turn i.0 i.1) words (keeps n i at) (more words before).1),
      )

  pub after_reached : (n : ℕ) → ((k : ℕ) → k < n → IsSome (iteration_at nest k)) → after (family_of fixed nest) nest.opening n ≡ reached nest n
  after_reached zero some = refl
  after_reached (suc n) some = ap (λ o. option_and_then (λ w. completed (turn (family_of fixed nest n) w)) o) (after_reached n (λ k lt. some k (omega arith))) ∙ by_case (reached nest n) (iteration_at nest n) refl refl (some n (omega arith))
    where
      by_case : (o : Option (List ℤ)) (next : Option (ℕ × List ℤ)) → reached nest n ≡ o → iteration_at nest n ≡ next → IsSome next → option_and_then (λ w. completed (turn (family_of fixed nest n) w)) o ≡ option_and_then (λ w. option_and_then (λ (i : ℕ × List ℤ). completed (step_of nest i w)) next) o
      by_case None next before at is = refl
      by_case (Some words) None before at is = absurd (false≢true is)
      by_case (Some words) (Some i) before at is = ap completed (family_turn n i words at (reached_after n words before).1)

pub reached_is_after : ReachedIsAfter
reached_is_after fixed nest opening_holds keeps n words e = reached_after fixed nest opening_holds keeps n words e

pub after_is_reached : AfterIsReached
after_is_reached fixed nest opening_holds keeps n some = after_reached fixed nest opening_holds keeps n some

-- a program
module _ (program : Program) (words : List ℤ) where
  one_turn : (o : Option (ℕ × List ℤ)) (w : List ℤ) → option_and_then (λ (i : ℕ × List ℤ). completed (step_of (nest_of program words) i w)) o ≡ option_and_then (λ t. completed (on_words (sizes_of (arrays_of program.decls)) t w)) (option_map (λ (i : ℕ × List ℤ). turn_in (arrays_of program.decls) (bodies_of program) i.0 i.1) o)
  one_turn None w = refl
  one_turn (Some i) w = refl

  one_step : (o : Option (List ℤ)) (n : ℕ) → option_and_then (λ w. option_and_then (λ (i : ℕ × List ℤ). completed (step_of (nest_of program words) i w)) (iteration_at (nest_of program words) n)) o ≡ option_and_then (λ w. option_and_then (λ t. completed (on_words (sizes_of (arrays_of program.decls)) t w)) (iteration_turn program words n)) o
  one_step None n = refl
  one_step (Some w) n = one_turn (iteration_at (nest_of program words) n) w

  pub program_reaches : (n : ℕ) → reached (nest_of program words) n ≡ program_after program words n
  program_reaches zero = refl
  program_reaches (suc n) = one_step (reached (nest_of program words) n) n ∙ ap (λ o. option_and_then (λ w. option_and_then (λ t. completed (on_words (sizes_of (arrays_of program.decls)) t w)) (iteration_turn program words n)) o) (program_reaches n)

pub program_is_nest : ProgramIsNest
program_is_nest program words = record {
  turns = λ k. refl;
  reaches = λ n. sym (program_reaches program words n);
  all_events = refl;
  ends = refl;
}

abbrev alone : Program → ℕ → Option (List ℤ) → Option Turn → Option (List Access)
alone program k o turns = option_map (map (of_iteration k)) (option_and_then (λ r. option_map (λ x. accesses_on (arrays_of program.decls) x r) turns) o)

pub program_accesses : ProgramAccesses
program_accesses program words fixed k t before at tells reached_it holds = by_iteration (iteration_at (nest_of program words) k) refl
  where
    by_iteration : (i : Option (ℕ × List ℤ)) → iteration_at (nest_of program words) k ≡ i → option_map (map (of_iteration k)) (accesses_of program words k) ≡ Some (accesses k (family_of fixed (nest_of program words) k) before)
    by_iteration None is = absurd (let none : iteration_turn program words k ≡ None = ap (option_map (λ (i : ℕ × List ℤ). turn_in (arrays_of program.decls) (bodies_of program) i.0 i.1)) is in let no : None ≡ Some t = sym none ∙ at in cc)
    by_iteration (Some i) is =
        let mine : iteration_turn program words k ≡ Some ((nest_of program words).turn i.0 i.1) = ap (option_map (λ (i : ℕ × List ℤ). turn_in (arrays_of program.decls) (bodies_of program) i.0 i.1)) is in
        let both : Some ((nest_of program words).turn i.0 i.1) ≡ Some t = sym mine ∙ at in
        let same : (nest_of program words).turn i.0 i.1 ≡ t = cc in
        ap (λ o. alone program k o (iteration_turn program words k)) reached_it ∙ ap (alone program k (Some before)) at ∙ ap Some (accesses_are (arrays_of program.decls) fixed words k 0 t before tells holds ∙ ap (λ x. accesses k (plain fixed (cut (sizes_of (arrays_of program.decls)) 0 x)) before) (sym same) ∙ ap (λ x. accesses k x before) (sym (family_at fixed (nest_of program words) k i is)))

-- a program whose turns stay inside their arrays tells rightly of its `const` words
pub program_keeps : (program : Program) (words : List ℤ) → ((k : ℕ) (i : ℕ × List ℤ) → iteration_at (nest_of program words) k ≡ Some i → StaysInside (arrays_of program.decls) ((nest_of program words).turn i.0 i.1)) → NestKeepsFixed (fixed_in (arrays_of program.decls) words) (nest_of program words)
program_keeps program words inside k i at = keeps-from_tells (arrays_of program.decls) (fixed_in (arrays_of program.decls) words) words ((nest_of program words).turn i.0 i.1) (tells-from_inside (arrays_of program.decls) words ((nest_of program words).turn i.0 i.1) (inside k i at))

-- the words reached along a list of iterations
module _ (sizes : List ℕ) (turn_at : ℕ → List ℤ → Turn) where
  abbrev step : ℕ × List ℤ → List ℤ → Ended
  step i words = on_words sizes (turn_at i.0 i.1) words

  abbrev walked : List (ℕ × List ℤ) → Option (List ℤ) → ℕ → Option (List ℤ)
  walked all from zero = from
  walked all from (suc n) = option_and_then (λ words. option_and_then (λ (i : ℕ × List ℤ). completed (step i words)) (slice_get all n)) (walked all from n)

  -- the first one may be taken beforehand
  walked_first : (i : ℕ × List ℤ) (all : List (ℕ × List ℤ)) (from : Option (List ℤ)) (n : ℕ) → walked (i ∷ all) from (suc n) ≡ walked all (option_and_then (λ words. completed (step i words)) from) n
  walked_first i all from zero = refl
  walked_first i all from (suc n) = ap (λ o. option_and_then (λ words. option_and_then (λ (j : ℕ × List ℤ). completed (step j words)) (slice_get all n)) o) (walked_first i all from n)

  -- from no words none are reached
  walked_none : (all : List (ℕ × List ℤ)) (n : ℕ) → walked all None n ≡ None
  walked_none all zero = refl
  walked_none all (suc n) = ap (λ o. option_and_then (λ words. option_and_then (λ (i : ℕ × List ℤ). completed (step i words)) (slice_get all n)) o) (walked_none all n)

  abbrev its : Course → Option (List ℤ) → List (ℕ × List ℤ)
  its left from = iterations_among (events_from sizes turn_at left from)

  trapped_at : (left : Course) (k n : ℕ) (opening words : List ℤ) (i : ℕ × List ℤ) (cause : Cause) (line : Line) (last : List ℤ) → walked (its left (Some opening)) (Some opening) n ≡ Some words → slice_get (its left (Some opening)) n ≡ Some i → step i words ≡ Stopped cause line last → ending_from sizes turn_at left k opening ≡ TrappedAt (place_of_trap cause line (k + n) false)
  trapped_at End k n opening words i cause line last e at ends = absurd (let no : None ≡ Some i = at in cc)
  trapped_at (Failed why place) k n opening words i cause line last e at ends = absurd (let no : None ≡ Some i = at in cc)
  trapped_at (Scalar purpose scalars rest) k n opening words i cause line last e at ends = trapped_at rest k n opening words i cause line last e at ends
  trapped_at (Drain purpose scalars rest) k n opening words i cause line last e at ends = trapped_at (rest opening) k n opening words i cause line last e at ends
  trapped_at (Iterate body scalars rest) k zero opening words i cause line last e at ends =
      let here : Some opening ≡ Some words = e in
      let mine : Some (body, scalars) ≡ Some i = at in
      let same : opening ≡ words = cc in
      let which : (body, scalars) ≡ i = cc in
      let stops : step (body, scalars) opening ≡ Stopped cause line last = ap (λ j. step j opening) which ∙ ap (step i) same ∙ ends in
      ap (λ x. outcome_of.behind k x (ending_from sizes turn_at rest (suc k))) stops ∙ ap (λ m. TrappedAt (place_of_trap cause line m false)) (sym (add-zero k))
  trapped_at (Iterate body scalars rest) k (suc n) opening words i cause line last e at ends = by_end (step (body, scalars) opening) refl
      (λ behind from. trapped_at rest (suc k) n behind words i cause line last (subst (λ o. walked (its rest o) o n ≡ Some words) from later) (subst (λ o. slice_get (its rest o) n ≡ Some i) from at) ends)
    where
      later : walked (its rest (completed (step (body, scalars) opening))) (completed (step (body, scalars) opening)) n ≡ Some words
      later = sym (walked_first (body, scalars) (its rest (completed (step (body, scalars) opening))) (Some opening) n) ∙ e

      by_end : (ended : Ended) → step (body, scalars) opening ≡ ended → ((behind : List ℤ) → completed (step (body, scalars) opening) ≡ Some behind → ending_from sizes turn_at rest (suc k) behind ≡ TrappedAt (place_of_trap cause line (suc k + n) false)) → ending_from sizes turn_at (Iterate body scalars rest) k opening ≡ TrappedAt (place_of_trap cause line (k + suc n) false)
      by_end (Completed behind) is more = ap (λ x. outcome_of.behind k x (ending_from sizes turn_at rest (suc k))) is ∙ more behind (ap completed is) ∙ ap (λ m. TrappedAt (place_of_trap cause line m false)) (omega arith)
      by_end (Stopped why place behind) is more = absurd (let none : completed (step (body, scalars) opening) ≡ None = ap completed is in let gone : walked (its rest None) None n ≡ Some words = subst (λ o. walked (its rest o) o n ≡ Some words) none later in let no : None ≡ Some words = sym (walked_none (its rest None) n) ∙ gone in cc)
  trapped_at (Close scalars rest) k n opening words i cause line last e at ends = trapped_at rest k n opening words i cause line last e at ends

reached_walked : (nest : Nest) (n : ℕ) → reached nest n ≡ walked nest.sizes nest.turn (iterations_among (events nest)) (Some nest.opening) n
reached_walked nest zero = refl
reached_walked nest (suc n) = ap (λ o. option_and_then (λ words. option_and_then (λ (i : ℕ × List ℤ). completed (step_of nest i words)) (iteration_at nest n)) o) (reached_walked nest n)

pub trapped_iteration : TrappedIterationIsOutcome
trapped_iteration nest n words i cause line last e at ends = trapped_at nest.sizes nest.turn nest.course 0 n nest.opening words i cause line last (sym (reached_walked nest n) ∙ e) at ends ∙ ap (λ m. TrappedAt (place_of_trap cause line m false)) (omega arith)
