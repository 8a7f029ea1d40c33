-- How a walk stands behind each event, and where it has come to its end.
use Rattle.std.proofs.Common.{◌≡◌, ◌↔◌, ℕ, suc, ◌+◌, ◌<◌, ◌⊎◌, ℤ, Bool, true, false, if◌then◌else◌, Option, Some, None, IsSome, Result, Ok, Err, List, [], ◌∷◌, ◌++◌, length, refl, sym, ap, ◌∙◌, subst, inl, inr, arith, append_assoc, append-nil}
use Rattle.std.proofs.lemmas.Bool.{ne_eqb}
use Rattle.std.specs.Option.{option_map_or}
use Rattle.nest_syntax.specs.declared.tree.Program.{Program}
use Rattle.nest_syntax.specs.Arrays.{Array, arrays_of}
use Rattle.nest_syntax.specs.Shape.{bodies_of}
use Rattle.nest_syntax.specs.Outcome.{Computes as Computed, Drains as Drained}
use Rattle.settle_law.specs.Courses.{Nest as Textual, Trap, events, reached, iteration_at}
use Rattle.settle_law.specs.Courses as courses
use Rattle.settle_law.proofs.Cursors.{begins}
use Rattle.nest_mean.specs.Nest.{Nest}
use Rattle.sched_cursor.specs.declared.event.Event.{Event as Kind}
use Rattle.sched_cursor.specs.declared.event.Event.TheVariants as kind
use Rattle.sched_cursor.specs.declared.node.Invocation.{Invocation}
use Rattle.sched_cursor.specs.declared.node.At.TheVariants as at
use Rattle.sched_cursor.specs.Turning.{has_turn}
use Rattle.sched_cursor.specs.Cursor.{Cursor}
use Rattle.sched_cursor.specs.Events.{after_event, kind_of, kind_at, purpose_at, handed_at, handed_in, trap_in, cursor_or, event_of, event_at, behind_invocation}
use Rattle.sched_cursor.specs.Handed.{what_of, loop_of_body}
use Rattle.sched_cursor.specs.Laws.{IsCursorOf, restarted}
use Rattle.sched_cursor.proofs.Cursors.{cursors_stay}
use Rattle.sched_cursor.proofs.Inside.{bodies_inside}
use Rattle.task_frame.specs.declared.piece.Piece.{Piece}
use Rattle.progress_board.specs.declared.options.Options.{Options}
use Rattle.spec_machine.specs.Facts.{Pair}
use Rattle.spec_machine.specs.Machine.{Setup, Epoch}
use Rattle.spec_machine.specs.Invocations.{Event, End, Scalar, Drain, Invoke, Outside, single}
use Rattle.spec_machine.specs.Segments.{Coming, Computes, Drains, Invokes, behind_trap, cut_off, segments_of, opens_at, coming_from, coming}
use Rattle.spec_machine.proofs.Courses.{BehindNow, singly, Crossed, coming_is, event_says, crossed}
use Rattle.spec_machine.proofs.Segmenting.{full_whole}
use Rattle.spec_setup.specs.Signs.{Signs}
use Rattle.spec_setup.specs.Setups.{Invoked, handed, is_turn_of, what_in, invoked_at, invoking, by_invocations, invocation_at}
use Rattle.spec_setup.proofs.Follows.{Fresh, Good, Onto, onward, good_behind, follows}
use Rattle.spec_setup.proofs.Follows as follow
use Rattle.spec_core.specs.Engine.{nest_in}
use Rattle.spec_core.specs.Theorems.{claims_due, words_due}
use Rattle.nest_profile.specs.Iterations.{AreNext}
use Rattle.nest_profile.specs.Walked.{machine, comes, all_segments, Found, Stands}
use Rattle.nest_profile.proofs.Found.{none_behind, none_from, comes_from}
use Rattle.nest_profile.proofs.Turned.{handed_turned}

module _ {G : Type 0} (signs : Signs G) (job : Nest) (options : Options) where
  abbrev program : Program
  program = job.program

  abbrev arrays : List Array
  arrays = arrays_of job.program.decls

  abbrev opening : List ℤ
  opening = job.opening.words

  abbrev nest : Textual
  nest = nest_in job

  abbrev m : Setup Invoked Cursor Piece G
  m = machine signs job options

  abbrev cm : Cursor → List (Coming Invoked)
  cm = comes signs job options

  -- the event at a cursor by its kind
  event_by : (c : Cursor) (k : Kind) → kind_of arrays c ≡ k → event_at arrays opening c ≡ event_of k (purpose_at c c.at) (λ words. after_event arrays c words) (handed_at c c.at) opening c
  event_by c k is = ap (λ k. event_of k (purpose_at c c.at) (λ words. after_event arrays c words) (handed_at c c.at) opening c) is

  scalar_is : (c : Cursor) (r : Result Cursor Trap) → kind_of arrays c ≡ kind.Scalar → after_event arrays c opening ≡ r → event_at arrays opening c ≡ courses.Scalar (purpose_at c c.at) (trap_in r) (cursor_or c r)
  scalar_is c r is after = event_by c kind.Scalar is ∙ ap (λ r. courses.Scalar (purpose_at c c.at) (trap_in r) (cursor_or c r)) after

  drain_is : (c : Cursor) → kind_of arrays c ≡ kind.Drain → event_at arrays opening c ≡ courses.Drain (purpose_at c c.at) (λ words. trap_in (after_event arrays c words)) (λ words. cursor_or c (after_event arrays c words))
  drain_is c is = event_by c kind.Drain is

  invoke_is : (c : Cursor) (i : Invocation) → c.at ≡ at.Inside i → invocation_at arrays opening c ≡ Invoke (invoked_at c i) i.turning.trips (behind_invocation c (at.Inside i))
  invoke_is c i there = ap (λ k. by_invocations c (event_of k (purpose_at c c.at) (λ words. after_event arrays c words) (handed_at c c.at) opening c)) (ap (kind_at arrays c) there) ∙ by (has_turn i.turning)
    where
      by : (b : Bool) → by_invocations c (event_of (if b then kind.Iterate else kind.Close) (purpose_at c c.at) (λ words. after_event arrays c words) (handed_at c c.at) opening c) ≡ Invoke (invoked_at c i) i.turning.trips (behind_invocation c (at.Inside i))
      by true = ap (invoking c) there
      by false = ap (invoking c) there

  module _ (start c : Cursor) (looked : List (List (Epoch Invoked))) (gathered : List (Epoch Invoked)) (s : Stands signs job options start c looked gathered) where
    abbrev ahead : List (Coming Invoked) → List (List (Epoch Invoked))
    ahead = segments_of options.segment gathered

    comes_now : (event : Event Invoked Cursor) → invocation_at arrays opening c ≡ event → cm c ≡ coming_from m nest (coming m nest (length (events nest))) c.next event
    comes_now event is = coming_is m nest (what_in program) s.passed c.next c s.behind ∙ ap (coming_from m nest (coming m nest (length (events nest))) c.next) is

    says : (event : Event Invoked Cursor) → invocation_at arrays opening c ≡ event → courses.AtEvent nest (what_in program) (singly m nest (what_in program)) s.passed c.next (single event)
    says event is = event_says m nest (what_in program) s.passed c.next c event s.behind is

    -- the walk goes on from a cursor, with this looked at and gathered
    pub record GoesOn (later : Cursor) (looked' : List (List (Epoch Invoked))) (gathered' : List (Epoch Invoked)) : Type 0 where
      pub stands : Stands signs job options start later looked' gathered'
      pub less : length (cm later) < length (cm c)

    -- an event that computes
    module _ (rest : Cursor) (is : kind_of arrays c ≡ kind.Scalar) (after : after_event arrays c opening ≡ Ok rest) where
      scalar_onto : Onto program opening c (purpose_at c c.at) rest
      scalar_onto = subst (follow.Onward program opening c) (scalar_is c (Ok rest) is after) (onward program opening c s.good) refl

      pub scalar_goes : GoesOn rest looked gathered
      scalar_goes =
          let event : invocation_at arrays opening c ≡ Scalar (purpose_at c c.at) None rest = ap (by_invocations c) (scalar_is c (Ok rest) is after) in
          let said = says (Scalar (purpose_at c c.at) None rest) event in
          let same : c.next ≡ rest.next = sym scalar_onto.computes.next in
          let now : cm c ≡ Computes ∷ cm rest = comes_now (Scalar (purpose_at c c.at) None rest) event ∙ ap (λ n. Computes ∷ coming m nest (length (events nest)) rest n) same in
          record {
            stands = record {
              passed = s.passed ++ Computed (purpose_at c c.at) said.0 ∷ [];
              good = scalar_onto.good;
              behind = subst (λ n. BehindNow m nest (what_in program) (s.passed ++ Computed (purpose_at c c.at) said.0 ∷ []) n (Outside rest)) same said.1;
              opens = subst (λ n. IsSome (reached nest (opens_at gathered n))) same s.opens;
              whole = sym (ap (λ l. looked ++ ahead l) now) ∙ s.whole;
            };
            less = let l : length (cm c) ≡ suc (length (cm rest)) = ap length now in omega (arith, l);
          }

    pub scalar_ends : (trap : Trap) → kind_of arrays c ≡ kind.Scalar → after_event arrays c opening ≡ Err trap → looked ++ cut_off gathered ≡ all_segments signs job options start
    scalar_ends trap is after = sym (ap (λ l. looked ++ ahead l) (comes_now (Scalar (purpose_at c c.at) (Some trap) c) (ap (by_invocations c) (scalar_is c (Err trap) is after)))) ∙ s.whole

    pub end_ends : kind_of arrays c ≡ kind.End → looked ++ cut_off gathered ≡ all_segments signs job options start
    end_ends is = sym (ap (λ l. looked ++ ahead l) (comes_now End (ap (by_invocations c) (event_by c kind.End is)))) ∙ s.whole

    -- a drain
    module _ (is : kind_of arrays c ≡ kind.Drain) where
      drain_event : invocation_at arrays opening c ≡ Drain (purpose_at c c.at) (λ words. trap_in (after_event arrays c words)) (λ words. cursor_or c (after_event arrays c words))
      drain_event = ap (by_invocations c) (drain_is c is)

      drain_now : (o : Option (List ℤ)) → reached nest c.next ≡ o → cm c ≡ option_map_or (λ words. Drains ∷ behind_trap (trap_in (after_event arrays c words)) (coming m nest (length (events nest)) (cursor_or c (after_event arrays c words)) c.next)) o []
      drain_now o reach = comes_now _ drain_event ∙ ap (λ o. option_map_or (λ words. Drains ∷ behind_trap (trap_in (after_event arrays c words)) (coming m nest (length (events nest)) (cursor_or c (after_event arrays c words)) c.next)) o []) reach

      module _ (words : List ℤ) (rest : Cursor) (reach : reached nest c.next ≡ Some words) (after : after_event arrays c words ≡ Ok rest) where
        drain_onto : Onto program opening c (purpose_at c c.at) rest
        drain_onto = subst (λ r. Onto program opening c (purpose_at c c.at) (cursor_or c r)) after (subst (follow.Onward program opening c) (drain_is c is) (onward program opening c s.good) words (ap trap_in after))

        pub drain_goes : GoesOn rest (looked ++ cut_off gathered) []
        drain_goes =
            let said = says _ drain_event in
            let same : c.next ≡ rest.next = sym drain_onto.computes.next in
            let now : cm c ≡ Drains ∷ cm rest = drain_now (Some words) reach ∙ ap (λ r. Drains ∷ behind_trap (trap_in r) (coming m nest (length (events nest)) (cursor_or c r) c.next)) after ∙ ap (λ n. Drains ∷ coming m nest (length (events nest)) rest n) same in
            record {
              stands = record {
                passed = s.passed ++ Drained (purpose_at c c.at) said.0 ∷ [];
                good = drain_onto.good;
                behind = subst (λ n. BehindNow m nest (what_in program) (s.passed ++ Drained (purpose_at c c.at) said.0 ∷ []) n (Outside rest)) same
                    (subst (λ r. courses.Onward nest (what_in program) (singly m nest (what_in program)) s.passed c.next (Drained (purpose_at c c.at) said.0) (trap_in r) (Outside (cursor_or c r))) after (said.1 words reach));
                opens = subst IsSome (sym (ap (reached nest) (sym same) ∙ reach)) refl;
                whole = append_assoc looked (cut_off gathered) (segments_of options.segment [] (cm rest)) ∙ sym (ap (λ l. looked ++ ahead l) now) ∙ s.whole;
              };
              less = let l : length (cm c) ≡ suc (length (cm rest)) = ap length now in omega (arith, l);
            }

      pub drain_ends : (reached nest c.next ≡ None) ⊎ ((words : List ℤ) × (trap : Trap) × (reached nest c.next ≡ Some words) × (after_event arrays c words ≡ Err trap)) → looked ++ cut_off gathered ≡ all_segments signs job options start
      drain_ends (inl none) = sym (ap (λ l. looked ++ ahead l) (drain_now None none)) ∙ s.whole
      drain_ends (inr (words, trap, reach, after)) =
          let now : cm c ≡ Drains ∷ [] = drain_now (Some words) reach ∙ ap (λ r. Drains ∷ behind_trap (trap_in r) (coming m nest (length (events nest)) (cursor_or c r) c.next)) after in
          sym (append-nil (looked ++ cut_off gathered)) ∙ append_assoc looked (cut_off gathered) [] ∙ sym (ap (λ l. looked ++ ahead l) now) ∙ s.whole

    -- an invocation that was entered
    module _ (i : Invocation) (there : c.at ≡ at.Inside i) where
      abbrev x : Epoch Invoked
      x = record { first = c.next; count = i.turning.trips; body = invoked_at c i }

      abbrev behind : Cursor
      behind = behind_invocation c (at.Inside i)

      fresh : i.turning.turn ≡ 0
      fresh = subst Fresh there s.good.fresh

      behind_next : c.next + i.turning.trips ≡ behind.next
      behind_next = omega (arith, fresh)

      passes : Crossed m nest (what_in program) s.passed c.next i.turning.trips 0 (invoked_at c i) behind
      passes = crossed m nest (what_in program) i.turning.trips 0 s.passed c.next (invoked_at c i) behind (says (Invoke (invoked_at c i) i.turning.trips behind) (invoke_is c i there))

      invoke_now : cm c ≡ Invokes x ∷ cm behind
      invoke_now = comes_now (Invoke (invoked_at c i) i.turning.trips behind) (invoke_is c i there) ∙ ap (λ n. Invokes x ∷ coming m nest (length (events nest)) behind n) behind_next

      opens_same : (xs : List (Epoch Invoked)) (n : ℕ) → opens_at xs c.next ≡ opens_at (xs ++ x ∷ []) n
      opens_same [] n = refl
      opens_same (y ∷ xs) n = refl

      pub invoke_goes : length gathered < options.segment → GoesOn behind looked (gathered ++ x ∷ [])
      invoke_goes room = record {
        stands = record {
          passed = passes.after;
          good = good_behind program opening c i s.good.own there;
          behind = subst (λ n. BehindNow m nest (what_in program) passes.after n (Outside behind)) behind_next passes.behind;
          opens = subst (λ n. IsSome (reached nest n)) (opens_same gathered behind.next) s.opens;
          whole = ap (λ l. looked ++ l) (sym (ap (λ t. if t then gathered ∷ segments_of options.segment (x ∷ []) (cm behind) else segments_of options.segment (gathered ++ x ∷ []) (cm behind)) (ne_eqb (length gathered) options.segment (λ same. omega (arith, same, room)))))
              ∙ sym (ap (λ l. looked ++ ahead l) invoke_now) ∙ s.whole;
        };
        less = let l : length (cm c) ≡ suc (length (cm behind)) = ap length invoke_now in omega (arith, l);
      }

      -- its iterations are the next ones
      pub iterations_next : AreNext job c i.turning.trips
      iterations_next j below = passes.iterations j below ∙ ap Some (told ∙ ap (what_of program) (sym (handed_turned c i there fresh j)))
        where
          turn : ℕ
          turn = 0 + j

          told : what_in program (invoked_at c i, 0 + j) ≡ what_of program (handed_in c i j)
          told = by (is_turn_of (loop_of_body program i.body) (invoked_at c i) (0 + j)) refl
            where
              zeroed : 0 + j ≡ j
              zeroed = omega arith

              none : ℕ × List ℤ
              none = (length (bodies_of program), [])

              by : (t : Bool) → is_turn_of (loop_of_body program i.body) (invoked_at c i) (0 + j) ≡ t → what_in program (invoked_at c i, 0 + j) ≡ what_of program (handed_in c i j)
              by true is = ap (λ t. if t then what_of program (handed (invoked_at c i) (0 + j)) else none) is ∙ ap (λ k. what_of program (handed_in c i k)) zeroed
              by false is =
                  let at : iteration_at nest (c.next + j) ≡ Some (length (bodies_of program), []) = passes.iterations j below ∙ ap (λ t. Some (if t then what_of program (handed (invoked_at c i) (0 + j)) else none)) is in
                  let low : length (bodies_of program) < length (bodies_of program) = bodies_inside program opening c s.good.own (c.next + j) (length (bodies_of program)) [] at in
                  absurd (omega (arith, low))

    -- a full segment is looked at, and another one begins where textual order gets there
    full_first : (xs : List (Epoch Invoked)) → length xs ≡ options.segment → 0 < options.segment → segments_of options.segment xs (cm c) ≡ cut_off xs ++ segments_of options.segment [] (cm c)
    full_first [] full some = absurd (omega (arith, full, some))
    full_first (y ∷ xs) full some = full_whole options.segment y xs (cm c) full

    module _ (full : length gathered ≡ options.segment) (some : 0 < options.segment) where
      full_now : (looked ++ cut_off gathered) ++ segments_of options.segment [] (cm c) ≡ all_segments signs job options start
      full_now = append_assoc looked (cut_off gathered) (segments_of options.segment [] (cm c)) ∙ sym (ap (λ l. looked ++ l) (full_first gathered full some)) ∙ s.whole

      pub full_goes : IsSome (reached nest c.next) → Stands signs job options start c (looked ++ cut_off gathered) []
      full_goes gets = record { passed = s.passed; good = s.good; behind = s.behind; opens = gets; whole = full_now }

      pub full_ends : reached nest c.next ≡ None → (p : Pair) → Found signs job options start (all_segments signs job options start) p ↔ Found signs job options start (looked ++ cut_off gathered) p
      full_ends none p = subst (λ l. Found signs job options start l p ↔ Found signs job options start (looked ++ cut_off gathered) p) full_now
          (none_behind m nest start (claims_due job) (words_due job) (looked ++ cut_off gathered) (segments_of options.segment [] (cm c)) (none_from m nest start (claims_due job) (words_due job) c.next options.segment [] (cm c) none tt some (comes_from m nest start (claims_due job) (words_due job) (length (events nest)) c c.next)) p)

-- before the first event
pub stands_first : {G : Type 0} (signs : Signs G) (job : Nest) (options : Options) (c : Cursor) → IsCursorOf job.program c → Stands signs job options (restarted job.program c) (restarted job.program c) [] []
stands_first signs job options c own = record {
  passed = [];
  good = record { own = cursors_stay.at_start job.program c own; fresh = tt };
  behind = begins _ _ (nest_in job) (what_in job.program) (singly (machine signs job options) (nest_in job) (what_in job.program)) (Outside (restarted job.program c)) (follows job.program job.opening.words c own);
  opens = refl;
  whole = refl;
}
