-- Each row keeps the invariant: those of the scheduler and the checker, and all of them.
use Rattle.std.proofs.Common.{◌≡◌, ℕ, suc, ◌+◌, ◌-◌, ◌<◌, ◌≤◌, ◌⊎◌, ℤ, true, false, ◌==◌, Option, Some, None, IsSome, List, [], ◌∷◌, ◌++◌, length, replicate, refl, sym, ap, ◌∙◌, subst, inl, inr, ⊎_elim, arith, append_assoc, length-append}
use Rattle.std.proofs.lemmas.List.{length-replicate}
use Rattle.std.proofs.lemmas.Bool.{cases_lt, true≢false, or_cases, and_parts, eqb-true, leb-true}
use Rattle.std.specs.Option.{option_map_or}
use Rattle.nest_syntax.specs.declared.place.Place.{Place}
use Rattle.nest_syntax.specs.Course.{Purpose, Ordinary, Header}
use Rattle.nest_syntax.specs.Outcome.{Done as Ends_with, TrappedAt, place_of_trap, Event as Passed, Computes as Computed, Drains as Drained}
use Rattle.settle_law.specs.Traces.{Access, iteration, Each, settle, part}
use Rattle.settle_law.specs.Claims.{Claims}
use Rattle.settle_law.specs.Courses.{Nest, Trap, Onward, family_of, iteration_at, reached, outcome, events}
use Rattle.settle_law.specs.Reading.{NestKeepsFixed}
use Rattle.settle_law.proofs.Cursors.{followed_keeps}
use Rattle.settle_law.proofs.Nests.{reached_after}
use Rattle.settle_law.proofs.Tasks.{left_go}
use Rattle.spec_machine.specs.Invocations.{End, Scalar, Drain, Invoke, Outside, one_by_one}
use Rattle.spec_machine.specs.Facts.{Task, Pair, same_task, same_pair, Abort, Overlaps, Facts, computed, drained}
use Rattle.spec_machine.specs.Machine.{Setup, State, Stopped, Epoch, Move, DoScalar, DoDrain, DoOpen, DoClose, DoCommit, DoRestore, DoConclude, DoBegin, DoRead, DoWrite, DoGo, DoNext, DoFinish, DoFail, DoTrap, DoLetGo, DoStop, DoCheck, DoAbort, fresh_seat, seat_at, done_at, pairs, is_unordered, is_passed, due, overlap_of, scalar_after, state_after}
use Rattle.spec_machine.specs.Table.{In, IsGoing, IsFree, IsCut, Enabled}
use Rattle.spec_machine.specs.Runs.{trace_after, ending_of}
use Rattle.spec_machine.specs.Segments.{behind_trap, coming, segments_of, segments_ahead}
use Rattle.spec_machine.specs.Theorems.{IsSetupFor}
use Rattle.spec_machine.specs.Invariant.{Plan, plan, Inside, Chain, Going, EarlyTrap, AbortOk, BelowTrap, Done, IsNoted, TrapOk, Sound, Invariant}
use Rattle.spec_machine.proofs.Lists.{pairs_in}
use Rattle.spec_machine.proofs.Plans.{chain_push, chain_le, in_block}
use Rattle.spec_machine.proofs.Crew.{hand_is}
use Rattle.spec_machine.proofs.Due.{IsDue, is_due, up_to}
use Rattle.spec_machine.proofs.Opens.{sound_fresh, sound_check, sound_opens}
use Rattle.spec_machine.proofs.Orders.{lawful_calm, calm_at_0, traps_at, true_words}
use Rattle.spec_machine.proofs.Courses.{Crossed, crossed, event_says}
use Rattle.spec_machine.proofs.Segmenting.{scalar_ahead, drain_ahead, open_ahead, close_whole, Present, present}
use Rattle.spec_machine.proofs.Causes.{overlap_blamed}
use Rattle.spec_machine.proofs.WorkerRows.{none_some, quiet, others_kept, left_at, read_row, write_row, go_row, next_row, finish_row, fail_row, trap_row, let_go_row, stop_row, begin_row}

pub computed_segments : (purpose : Purpose) (facts : Facts) → (computed purpose facts).segments ≡ facts.segments
computed_segments Ordinary facts = refl
computed_segments Header facts = refl

module _ {B C P G : Type 0} (m : Setup B C P G) (nest : Nest) (what : B × ℕ → ℕ × List ℤ) (start : C) (noted : G → Claims) (setup : IsSetupFor m nest what start noted) (s : State B C P G) (trace : List Access) (i : Invariant m nest what start noted s trace) where
  abbrev pub Kept : State B C P G → List Access → Type 0
  Kept t made = Invariant m nest what start noted t made

  abbrev pub S : Plan
  S = plan m i.first s.next s.epochs

  keeps : NestKeepsFixed m.system.fixed nest
  keeps = followed_keeps m.system nest what (λ (x : B × ℕ). m.entry x.0 x.1) (one_by_one m.event) (Outside start) setup.begins setup.follows

  -- the words of a segment without an epoch are the marked ones, which textual order reaches
  pub at_mark : s.abort ≡ None → s.epochs ≡ [] → reached nest s.next ≡ Some s.words
  at_mark calm none = subst (λ n. reached nest n ≡ Some s.words) chained (i.marked ∙ ap Some (sym (no_access trace (i.sound calm).accesses) ∙ (i.sound calm).settles))
    where
      chained : i.first ≡ s.next
      chained = subst (Chain m nest what i.first s.next) none i.chain

      no_access : (made : List Access) → Each (IsNoted m nest noted S s.seats) made → settle s.mark made ≡ s.mark
      no_access [] each = refl
      no_access (a ∷ made) each = absurd (let l : i.first ≤ iteration a = each.0.inside.0 in let h : iteration a < s.next = each.0.inside.1 in omega (arith, chained))

  -- an event of the scheduler that computes
  module _ (free : IsFree m s m.width) (facts : Facts) (same_segments : facts.segments ≡ s.facts.segments) where
    abbrev pub going : Going m nest what s.next s.cursor
    going = i.course free.undisturbed

    computed_row : (this : Passed) (purpose : Purpose) (trap : Option Trap) (rest : C) → Onward nest what (one_by_one m.event) going.events s.next this trap (Outside rest) → segments_ahead m nest s.early s.cursor s.next s.epochs ≡ segments_of m.room s.epochs (behind_trap trap (coming m nest (length (events nest)) rest s.next)) → Kept (scalar_after m (record s { facts = facts }) purpose trap rest) trace
    computed_row this purpose None rest onward ahead_is = record {
      first = i.first;
      width = i.width;
      marked = i.marked;
      chain = i.chain;
      known = i.known;
      course = λ none. record { events = going.events ++ this ∷ []; behind = onward };
      early = subst (EarlyTrap m nest what s.next) (sym free.undisturbed) tt;
      segments = record {
        committed = i.segments.committed;
        are = i.segments.are ∙ ap (λ l. i.segments.committed ++ l) (ahead_is ∙ sym (ap (λ e. segments_ahead m nest e rest s.next s.epochs) free.undisturbed));
        counts = i.segments.counts ∙ sym (computed_segments purpose facts ∙ same_segments);
        whole = λ is. absurd (true≢false (sym is ∙ free.unsealed));
      };
      room = i.room;
      filled = i.filled;
      either = i.either;
      strict = i.strict;
      within = i.within;
      sound = i.sound;
      aborted = λ cause is. absurd (none_some free.going.calm is);
      over = λ over. absurd (true≢false (sym over ∙ free.going.going));
    }
    computed_row this purpose (Some trap) rest onward ahead_is = record {
      first = i.first;
      width = i.width;
      marked = i.marked;
      chain = i.chain;
      known = i.known;
      course = λ none. absurd (let no : Some (place_of_trap trap.cause trap.line s.next true) ≡ None = none in cc);
      early = (refl, refl, onward);
      segments = record {
        committed = i.segments.committed;
        are = i.segments.are ∙ ap (λ l. i.segments.committed ++ l) ahead_is;
        counts = i.segments.counts ∙ sym same_segments;
        whole = λ is. absurd (true≢false (sym is ∙ free.unsealed));
      };
      room = i.room;
      filled = i.filled;
      either = i.either;
      strict = i.strict;
      within = i.within;
      sound = i.sound;
      aborted = λ cause is. absurd (none_some free.going.calm is);
      over = λ over. absurd (true≢false (sym over ∙ free.going.going));
    }

  free_at : (u : ℕ) → IsFree m s u → IsFree m s m.width
  free_at u free = record { going = record { actor = refl; going = free.going.going; calm = free.going.calm }; unsealed = free.unsealed; untrapped = free.untrapped; undisturbed = free.undisturbed }

  scalar_row : (purpose : Purpose) (trap : Option Trap) (rest : C) → IsFree m s m.width → m.event s.cursor ≡ Scalar purpose trap rest → Kept (scalar_after m s purpose trap rest) trace
  scalar_row purpose trap rest free is =
      let now = i.course free.undisturbed in
      let says = event_says m nest what now.events s.next s.cursor (Scalar purpose trap rest) now.behind is in
      computed_row free s.facts refl (Computed purpose says.0) purpose trap rest says.1 (scalar_ahead m nest what start s free.undisturbed now purpose trap rest is s.epochs)

  drain_row : (purpose : Purpose) (traps : List ℤ → Option Trap) (rests : List ℤ → C) → IsFree m s m.width → s.epochs ≡ [] → m.event s.cursor ≡ Drain purpose traps rests → Kept (scalar_after m (record s { facts = drained s.facts }) purpose (traps s.words) (rests s.words)) trace
  drain_row purpose traps rests free none is =
      let now = i.course free.undisturbed in
      let says = event_says m nest what now.events s.next s.cursor (Drain purpose traps rests) now.behind is in
      let reach = at_mark free.going.calm none in
      computed_row free (drained s.facts) refl (Drained purpose says.0) purpose (traps s.words) (rests s.words) (says.1 s.words reach)
      (subst (λ l. segments_ahead m nest s.early s.cursor s.next l ≡ segments_of m.room l (behind_trap (traps s.words) (coming m nest (length (events nest)) (rests s.words) s.next))) (sym none) (drain_ahead m nest what start s s.words free.undisturbed now purpose traps rests is reach))

  -- an invocation becomes an epoch
  open_row : (b : B) (n : ℕ) (rest : C) → IsFree m s m.width → length s.epochs < m.room → m.event s.cursor ≡ Invoke b n rest → Kept (state_after m s m.width (DoOpen b n rest)) trace
  open_row b n rest free lt is = record {
    first = i.first;
    width = i.width;
    marked = i.marked;
    chain = chain_push m nest what i.first s.next n b s.epochs i.chain iterations;
    known = λ k l. ⊎_elim (λ old. i.known k old) (λ ge. let e : s.next + (k - s.next) ≡ k = omega arith in subst (λ x. IsSome (iteration_at nest x)) e (subst IsSome (sym (iterations (k - s.next) (omega arith))) refl)) (cases_lt k s.next);
    course = λ none. record { events = passed.after; behind = passed.behind };
    early = subst (EarlyTrap m nest what (s.next + n)) (sym free.undisturbed) tt;
    segments = record {
      committed = i.segments.committed;
      are = i.segments.are ∙ ap (λ l. i.segments.committed ++ l) (open_ahead m nest what start s free.undisturbed now b n rest is lt ∙ sym (ap (λ e. segments_ahead m nest e rest (s.next + n) (s.epochs ++ record { first = s.next; count = n; body = b } ∷ [])) free.undisturbed));
      counts = i.segments.counts;
      whole = λ sealed. absurd (true≢false (sym sealed ∙ free.unsealed));
    };
    room = let l : length (s.epochs ++ record { first = s.next; count = n; body = b } ∷ []) ≡ length s.epochs + 1 = length-append s.epochs (record { first = s.next; count = n; body = b } ∷ []) in omega arith;
    filled = λ sealed. absurd (true≢false (sym sealed ∙ free.unsealed));
    either = i.either;
    strict = i.strict;
    within = i.within;
    sound = λ calm. subst (λ o. Sound m nest noted (plan m i.first (s.next + n) (s.epochs ++ record { first = s.next; count = n; body = b } ∷ [])) s.mark s.words s.seats s.distance s.passed o trace) (sym free.untrapped)
        (sound_opens m nest what start noted setup i.first s.next n b s.epochs i.chain s.mark s.words s.seats s.distance s.passed trace i.width (subst (λ o. Sound m nest noted S s.mark s.words s.seats s.distance s.passed o trace) free.untrapped (i.sound calm)));
    aborted = λ cause at. absurd (none_some free.going.calm at);
    over = λ over. absurd (true≢false (sym over ∙ free.going.going));
  }
    where
      now : Going m nest what s.next s.cursor
      now = i.course free.undisturbed

      passed : Crossed m nest what now.events s.next n 0 b rest
      passed = crossed m nest what n 0 now.events s.next b rest (event_says m nest what now.events s.next s.cursor (Invoke b n rest) now.behind is)

      iterations : (j : ℕ) → j < n → iteration_at nest (s.next + j) ≡ Some (what (b, j))
      iterations j l = let e : 0 + j ≡ j = omega arith in subst (λ x. iteration_at nest (s.next + j) ≡ Some (what (b, x))) e (passed.iterations j l)

  close_row : (u : ℕ) → IsGoing m s u → s.sealed ≡ false → s.trap ≡ None → 0 < length s.epochs → (length s.epochs ≡ m.room) ⊎ (IsCut m s (m.event s.cursor) ⊎ IsSome s.early) → Kept (state_after m s u DoClose) trace
  close_row u going unsealed untrapped some why = record {
    first = i.first;
    width = i.width;
    marked = i.marked;
    chain = i.chain;
    known = i.known;
    course = i.course;
    early = i.early;
    segments = record { committed = i.segments.committed; are = i.segments.are; counts = i.segments.counts; whole = λ sealed. whole s.epochs refl };
    room = i.room;
    filled = λ sealed. some;
    either = i.either;
    strict = i.strict;
    within = i.within;
    sound = i.sound;
    aborted = λ cause is. absurd (none_some going.calm is);
    over = λ over. absurd (true≢false (sym over ∙ going.going));
  }
    where
      whole : (epochs : List (Epoch B)) → s.epochs ≡ epochs → segments_ahead m nest s.early s.cursor s.next s.epochs ≡ s.epochs ∷ segments_ahead m nest s.early s.cursor s.next []
      whole [] is = absurd (let l : length s.epochs ≡ 0 = ap length is in omega arith)
      whole (x ∷ epochs) is = subst (λ l. segments_ahead m nest s.early s.cursor s.next l ≡ l ∷ segments_ahead m nest s.early s.cursor s.next []) (sym is) (close_whole m nest what start s x epochs i.course (subst (λ l. (length l ≡ m.room) ⊎ (IsCut m s (m.event s.cursor) ⊎ IsSome s.early)) is why))

  commit_row : (u : ℕ) → IsGoing m s u → s.sealed ≡ true → s.trap ≡ None → ((v : ℕ) → v < m.width → done_at s.seats v ≡ length s.epochs) → ((p : Pair) → In p (pairs m.width (length s.epochs)) → is_unordered s.seats p ≡ true → In p s.passed) → Kept (state_after m s u DoCommit) []
  commit_row u going sealed untrapped all_done all_passed = record {
    first = s.next;
    width = length-replicate m.width fresh_seat;
    marked = true_words m nest what start noted setup i.first s.next s.epochs i.chain i.known s.mark s.words i.marked s.seats s.distance s.passed s.trap trace i.width (i.sound going.calm) all_done all_passed (chain_le m nest what i.first s.next s.epochs i.chain);
    chain = refl;
    known = i.known;
    course = i.course;
    early = i.early;
    segments = record {
      committed = i.segments.committed ++ s.epochs ∷ [];
      are = i.segments.are ∙ ap (λ l. i.segments.committed ++ l) (i.segments.whole sealed) ∙ sym (append_assoc i.segments.committed (s.epochs ∷ []) (segments_ahead m nest s.early s.cursor s.next []));
      counts = length-append i.segments.committed (s.epochs ∷ []) ∙ (let c : length i.segments.committed ≡ s.facts.segments = i.segments.counts in let e : length i.segments.committed + 1 ≡ suc s.facts.segments = omega arith in e);
      whole = λ is. absurd (true≢false (sym is));
    };
    room = omega arith;
    filled = λ is. absurd (true≢false (sym is));
    either = inl refl;
    strict = λ some. absurd (true≢false (sym (subst IsSome untrapped some)));
    within = omega arith;
    sound = λ calm. subst (λ o. Sound m nest noted (plan m s.next s.next []) s.words s.words (replicate m.width fresh_seat) m.far [] o []) (sym untrapped) (sound_fresh m nest what start noted setup (plan m s.next s.next []) s.words m.far (i.sound going.calm).fixed_words);
    aborted = λ cause is. absurd (let no : None ≡ Some cause = is in cc);
    over = λ over. absurd (true≢false (sym over ∙ going.going));
  }

  restore_row : (u : ℕ) (cause : Abort) → s.concluded ≡ false → s.abort ≡ Some cause → Kept (state_after m s u (DoRestore cause)) []
  restore_row u cause going is = record {
    first = i.first;
    width = length-replicate m.width fresh_seat;
    marked = i.marked;
    chain = i.chain;
    known = i.known;
    course = i.course;
    early = i.early;
    segments = record { committed = i.segments.committed; are = i.segments.are; counts = i.segments.counts; whole = i.segments.whole };
    room = i.room;
    filled = i.filled;
    either = inl refl;
    strict = λ some. refl;
    within = omega arith;
    sound = λ calm. subst (λ o. Sound m nest noted S s.mark s.mark (replicate m.width fresh_seat) 0 [] o []) (sym (untrapped i.either)) (sound_fresh m nest what start noted setup S s.mark 0 (reached_after m.system.fixed nest setup.opens_fixed keeps i.first s.mark i.marked).1);
    aborted = λ why at. absurd (let no : None ≡ Some why = at in cc);
    over = λ over. absurd (true≢false (sym over ∙ going));
  }
    where
      untrapped : (s.abort ≡ None) ⊎ (s.trap ≡ None) → s.trap ≡ None
      untrapped (inl calm) = absurd (let no : None ≡ Some cause = sym calm ∙ is in cc)
      untrapped (inr none) = none

  -- what a state is that may conclude: it ends as the nest does
  ends_trapped : s.abort ≡ None → (t : Place) → s.trap ≡ Some t → ((v : ℕ) → v < m.width → (seat_at s.seats v).hand ≡ Stopped) → outcome nest ≡ TrappedAt t
  ends_trapped calm t is all = traps_at m nest what start noted setup i.first s.next s.epochs i.chain i.known s.mark s.words i.marked s.seats s.distance s.passed s.trap trace i.width sound
      (lawful_calm m nest what start noted setup i.first s.next s.epochs i.chain i.known s.mark s.words i.marked s.seats s.distance s.passed s.trap trace i.width sound (calm_at_0 m nest what start noted setup i.first s.next s.epochs i.chain i.known s.mark s.words i.marked s.seats s.distance s.passed s.trap trace i.width sound (i.strict (subst IsSome (sym is) refl))))
      t.number t.cause t.line ok.inside.0 ok.inside.1 below ok.trapped
      ∙ ap (λ b. TrappedAt (place_of_trap t.cause t.line t.number b)) (sym ok.of_iteration)
    where
      sound : Sound m nest noted S s.mark s.words s.seats s.distance s.passed s.trap trace
      sound = i.sound calm

      ok : TrapOk m nest noted S s.seats trace t
      ok = sound.trapped t is

      below : (k : ℕ) → i.first ≤ k → k < t.number → Done m nest noted S trace k
      below k low lt =
          let h : t.number < s.next = ok.inside.1 in
          let inside : Inside S k = (low, omega arith) in
          let own : S.owner k < m.width = (in_block m nest what start noted setup i.first s.next s.epochs i.chain k inside).owner in
          let stopped = hand_is m nest what start noted setup i.first s.next s.epochs i.chain s.mark s.words s.seats s.distance s.passed s.trap trace i.width sound (S.owner k) own Stopped (all (S.owner k) own) in
          subst (λ o. BelowTrap m nest noted S trace o (S.owner k)) is stopped.1 k inside refl lt

  conclude_row : (u : ℕ) → IsGoing m s u → (IsSome s.trap × ((v : ℕ) → v < m.width → (seat_at s.seats v).hand ≡ Stopped)) ⊎ ((s.trap ≡ None) × (s.epochs ≡ []) × ((m.event s.cursor ≡ End) ⊎ IsSome s.early)) → Kept (state_after m s u DoConclude) trace
  conclude_row u going why = others_kept m nest what start noted setup s trace i _ _ _ _ _ _ _ _ refl (record {
    width = i.width;
    either = i.either;
    strict = i.strict;
    sound = i.sound;
    aborted = λ cause is. absurd (none_some going.calm is);
    over = λ over. by_trap s.trap refl why;
  })
    where
      by_early : s.trap ≡ None → s.epochs ≡ [] → (early : Option Place) → s.early ≡ early → (m.event s.cursor ≡ End) ⊎ IsSome s.early → ending_of s ≡ outcome nest
      by_early none empty (Some t) is why = ap (λ o. option_map_or TrappedAt o (option_map_or TrappedAt s.early (Ends_with s.words))) none ∙ ap (λ o. option_map_or TrappedAt o (Ends_with s.words)) is ∙ sym ((subst (EarlyTrap m nest what s.next) is i.early).2 s.words (at_mark going.calm empty))
      by_early none empty None is (inl end) = ap (λ o. option_map_or TrappedAt o (option_map_or TrappedAt s.early (Ends_with s.words))) none ∙ ap (λ o. option_map_or TrappedAt o (Ends_with s.words)) is ∙ sym ((event_says m nest what (i.course is).events s.next s.cursor End (i.course is).behind end).2 s.words (at_mark going.calm empty))
      by_early none empty None is (inr some) = absurd (true≢false (sym (subst IsSome is some)))

      by_trap : (trap : Option Place) → s.trap ≡ trap → (IsSome s.trap × ((v : ℕ) → v < m.width → (seat_at s.seats v).hand ≡ Stopped)) ⊎ ((s.trap ≡ None) × (s.epochs ≡ []) × ((m.event s.cursor ≡ End) ⊎ IsSome s.early)) → ending_of s ≡ outcome nest
      by_trap trap is (inr (none, empty, end)) = by_early none empty s.early refl end
      by_trap None is (inl (some, all)) = absurd (true≢false (sym (subst IsSome is some)))
      by_trap (Some t) is (inl (some, all)) = ap (λ o. option_map_or TrappedAt o (option_map_or TrappedAt s.early (Ends_with s.words))) is ∙ sym (ends_trapped going.calm t is all)

  -- the checker
  module _ (p : Pair) (calm : s.abort ≡ None) (untrapped : s.trap ≡ None) (is : due m.width s ≡ Some p) where
    found : IsDue m.width s p
    found = is_due m.width s p is

    finished : (v : ℕ) → v < m.width → (p.late.epoch ≤ done_at s.seats v) × (v ≤ p.late.worker → p.late.epoch < done_at s.seats v)
    finished v lt = let r = up_to p.late 0 s.seats v found.finished (omega (arith, i.width)) in (r.0, λ le. r.1 (omega arith))

    late_finished : p.late.epoch < done_at s.seats p.late.worker
    late_finished = (finished p.late.worker (pairs_in m.width (length s.epochs) p found.among).late_own).1 (omega arith)

    early_finished : p.early.epoch < done_at s.seats p.early.worker
    early_finished = let q = pairs_in m.width (length s.epochs) p found.among in let a : p.early.epoch < p.late.epoch = q.rises in let b : p.late.epoch ≤ done_at s.seats p.early.worker = (finished p.early.worker q.early_own).0 in omega arith

    check_row : (u : ℕ) → s.concluded ≡ false → overlap_of m s.seats p ≡ None → Kept (state_after m s u (DoCheck p)) trace
    check_row u going apart = others_kept m nest what start noted setup s trace i _ _ _ _ _ _ _ _ refl (record {
      width = i.width;
      either = i.either;
      strict = i.strict;
      sound = λ c. sound_check m nest what start noted setup S s.mark s.words s.seats s.distance s.passed s.trap trace p (record { early = early_finished; late = late_finished; apart = λ un. apart }) (i.sound c);
      aborted = λ cause at. absurd (none_some calm at);
      over = λ over. absurd (true≢false (sym over ∙ going));
    })

    abort_row : (u array : ℕ) → s.concluded ≡ false → overlap_of m s.seats p ≡ Some array → Kept (state_after m s u (DoAbort p array)) trace
    abort_row u array going overlaps = others_kept m nest what start noted setup s trace i _ _ _ _ _ _ _ _ refl (record {
      width = i.width;
      either = inr untrapped;
      strict = i.strict;
      sound = λ c. absurd (let no : Some (Overlaps p array) ≡ None = c in cc);
      aborted = λ why at. subst (AbortOk m nest what start (state_after m s u (DoAbort p array))) (let e : Some (Overlaps p array) ≡ Some why = at in some_is e) (record {
        given = let l : p.late.epoch < length s.epochs = (pairs_in m.width (length s.epochs) p found.among).late in omega arith;
        tells = (found.among, found.unordered, overlaps);
        caused = λ claims size held. overlap_blamed m nest what start noted setup i.first s.next s.epochs i.chain i.known s.mark s.words i.marked s.seats s.distance s.passed s.trap trace i.width (i.sound calm) claims size held now.more s.facts.segments now.segment i.within p array found.among found.unordered (leb-true _ _ found.unordered) late_finished overlaps;
      });
      over = λ over. absurd (true≢false (sym over ∙ going));
    })
      where
        some_is : {x y : Abort} → Some x ≡ Some y → x ≡ y
        some_is e = cc

        now : Present m nest what start s i.first
        now = present m nest what start s i.first (let l : p.late.epoch < length s.epochs = (pairs_in m.width (length s.epochs) p found.among).late in omega arith) i.chain (subst IsSome (sym i.marked) refl) i.segments

  -- a pair that is passed is among the passed ones
  pub passed_in : (passed : List Pair) (p : Pair) → is_passed passed p ≡ true → In p passed
  passed_in [] p is = absurd (true≢false (sym is))
  passed_in (q ∷ passed) p is = ⊎_elim (λ same. inl (sym (same_is p q same))) (λ more. inr (passed_in passed p more)) (or_cases (same_pair p q) (is_passed passed p) is)
    where
      same_task_is : (t v : Task) → same_task t v ≡ true → t ≡ v
      same_task_is t v e = let both = and_parts (t.epoch == v.epoch) (t.worker == v.worker) e in λ x. record { epoch = eqb-true t.epoch v.epoch both.0 x; worker = eqb-true t.worker v.worker both.1 x }

      same_is : (p q : Pair) → same_pair p q ≡ true → p ≡ q
      same_is p q e = let both = and_parts (same_task p.early q.early) (same_task p.late q.late) e in λ x. record { early = same_task_is p.early q.early both.0 x; late = same_task_is p.late q.late both.1 x }

  -- each row
  pub invariant_row : (u : ℕ) (move : Move B C P) → Enabled m s u move → Kept (state_after m s u move) (trace_after m trace s.words move)
  invariant_row u (DoScalar purpose trap rest) (free, lt, is) = quiet (Kept _) trace (scalar_row purpose trap rest (free_at u free) is)
  invariant_row u (DoDrain purpose trap rest) (traps, rests, free, none, is, trap_is, rest_is) = quiet (Kept _) trace (subst (λ t. Kept (state_after m s u (DoDrain purpose t rest)) trace) trap_is (subst (λ c. Kept (state_after m s u (DoDrain purpose (traps s.words) c)) trace) rest_is (drain_row purpose traps rests (free_at u free) none is)))
  invariant_row u (DoOpen b n rest) (free, lt, is) = quiet (Kept _) trace (open_row b n rest (free_at u free) lt is)
  invariant_row u DoClose (going, unsealed, untrapped, some, why) = quiet (Kept _) trace (close_row u going unsealed untrapped some why)
  invariant_row u DoCommit (going, sealed, untrapped, all_done, all_passed) = commit_row u going sealed untrapped all_done (λ p among unordered. passed_in s.passed p (all_passed p among unordered))
  invariant_row u (DoRestore cause) (own, going, is, rest) = restore_row u cause going is
  invariant_row u DoConclude (going, why) = quiet (Kept _) trace (conclude_row u going why)
  invariant_row u (DoBegin hand) (working, lt, near, below, is) = quiet (Kept _) trace (begin_row m nest what start noted setup s trace i u hand working lt near is)
  invariant_row u (DoRead k w next) at = read_row m nest what start noted setup s trace i u k w next at.piece (m.system.fixed w) at.working at.stops refl
  invariant_row u (DoWrite k w value next) at = write_row m nest what start noted setup s trace i u k w value next at.piece at.working at.stops
  invariant_row u (DoGo k next) at = quiet (Kept _) trace (go_row m nest what start noted setup s trace i u k at.piece next at.working (left_go m.system (family_of m.system.fixed nest k) (part k trace) at.piece next (left_at m nest what start noted setup s trace i u k at.piece at.working.calm at.working.own at.working.holds) at.stops).0)
  invariant_row u (DoNext k piece) (j, at, is, high, begins) = quiet (Kept _) trace (next_row m nest what start noted setup s trace i u j k piece at is high begins)
  invariant_row u DoFinish why = quiet (Kept _) trace (finish_row m nest what start noted setup s trace i u why)
  invariant_row u DoFail (k, cause, line, at, far) = quiet (Kept _) trace (fail_row m nest what start noted setup s trace i u k cause line at far)
  invariant_row u (DoTrap k cause line) (at, near) = quiet (Kept _) trace (trap_row m nest what start noted setup s trace i u k cause line at near)
  invariant_row u DoLetGo (own, going, some, runs) = quiet (Kept _) trace (let_go_row m nest what start noted setup s trace i u own going some)
  invariant_row u DoStop (hand, trap, working, moves, is, none) = quiet (Kept _) trace (stop_row m nest what start noted setup s trace i u hand trap working moves is none)
  invariant_row u (DoCheck p) (own, going, calm, untrapped, is, apart) = quiet (Kept _) trace (check_row p calm untrapped is u going apart)
  invariant_row u (DoAbort p array) (own, going, calm, untrapped, is, overlaps) = quiet (Kept _) trace (abort_row p calm untrapped is u array going overlaps)
