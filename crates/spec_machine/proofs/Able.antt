-- Each row that the table enables is the actor's move: so no state that a legal history leaves enables two of one actor.
use Rattle.std.proofs.Common.{◌≡◌, ℕ, zero, suc, ◌+◌, ◌<◌, ◌≤◌, ◌⊎◌, ℤ, Bool, true, false, ◌&&◌, not, if◌then◌else◌, ◌==◌, Option, Some, None, IsSome, List, [], ◌∷◌, length, nat_lt, nat_le, refl, sym, ap, ◌∙◌, subst, inl, inr, ⊎_elim, arith}
use Rattle.std.proofs.lemmas.Bool.{lt-ltb, le-ltb, le-leb, eq-eqb, ne_eqb, ltb-true, and_parts, and_from, not_from_true, not_from_false, false_from_ne_true, true≢false, cases_eq, and_right, and_left}
use Rattle.std.specs.Option.{option_map}
use Rattle.std.specs.List.{list_all, list_any}
use Rattle.nest_syntax.specs.declared.place.Place.{Place}
use Rattle.nest_syntax.specs.declared.names.Line.{Line}
use Rattle.nest_syntax.specs.declared.operators.Cause.{Cause}
use Rattle.settle_law.specs.Traces.{Access}
use Rattle.settle_law.specs.Tasks.{Stop, Loads, Stores, Goes, Finishes, Traps}
use Rattle.settle_law.specs.Claims.{Claims}
use Rattle.settle_law.specs.Courses.{Nest}
use Rattle.spec_machine.specs.Invocations.{Event, End, Scalar, Drain, Invoke}
use Rattle.spec_machine.specs.Facts.{Pair, Abort}
use Rattle.spec_machine.specs.Machine.{Setup, State, Seat, Hand, Idle, Empty, Running, Stopped, Epoch, Move, DoScalar, DoDrain, DoOpen, DoClose, DoCommit, DoRestore, DoConclude, DoBegin, DoRead, DoWrite, DoGo, DoNext, DoFinish, DoFail, DoTrap, DoLetGo, DoStop, DoCheck, DoAbort, fresh_seat, seat_at, done_at, is_running, is_stopped, is_open, is_unordered, is_passed, pairs, due, from, to, piece_at, first_hand, overlap_of, at_end, drain_move, event_move, early_move, is_ready, sealed_move, trap_move, scheduler_move, begin_move, idle_move, empty_move, failing_move, stop_move, running_move, hand_move, worker_move, compared_move, checker_move, going_move, move_of}
use Rattle.spec_machine.specs.Table.{In, NotAbove, IsGoing, IsFree, IsCut, IsWorking, IsAt, IsLeft, FirstIsBelow, Enabled}
use Rattle.spec_machine.specs.Theorems.{IsSetupFor}
use Rattle.spec_machine.specs.Invariant.{plan, Invariant}
use Rattle.spec_machine.proofs.Lists.{all_of, none_of, none_each}
use Rattle.spec_machine.proofs.Crew.{hand_is, block_low}

module _ {B C P G : Type 0} (m : Setup B C P G) (nest : Nest) (what : B × ℕ → ℕ × List ℤ) (start : C) (noted : G → Claims) (setup : IsSetupFor m nest what start noted) (s : State B C P G) (trace : List Access) (i : Invariant m nest what start noted s trace) where
  abbrev pub seat : ℕ → Seat P G
  seat u = seat_at s.seats u

  abbrev pub done : ℕ → ℕ
  done u = done_at s.seats u

  is_going : (u : ℕ) → s.concluded ≡ false → move_of m s u ≡ going_move m s u
  is_going u going = ap (λ t. if t then None else going_move m s u) going

  pub worker_is : (u : ℕ) → u < m.width → s.concluded ≡ false → move_of m s u ≡ worker_move m s s.abort u
  worker_is u own going = is_going u going ∙ ap (λ t. if t then worker_move m s s.abort u else if u == m.width then scheduler_move m s s.abort else if u == suc m.width then checker_move m s s.abort s.trap else None) (lt-ltb u m.width own)

  -- a worker with this hand, with no abort
  pub hand_moves : (u : ℕ) (hand : Hand P) → IsWorking m s u hand → move_of m s u ≡ hand_move m s hand (done u) u
  hand_moves u hand w = worker_is u w.own w.going ∙ ap (λ o. worker_move m s o u) w.calm ∙ ap (λ h. hand_move m s h (done u) u) w.holds

  pub scheduler_is : (u : ℕ) → u ≡ m.width → s.concluded ≡ false → move_of m s u ≡ scheduler_move m s s.abort
  scheduler_is u own going = is_going u going
      ∙ ap (λ t. if t then worker_move m s s.abort u else if u == m.width then scheduler_move m s s.abort else if u == suc m.width then checker_move m s s.abort s.trap else None) (le-ltb u m.width (omega (arith, own)))
      ∙ ap (λ t. if t then scheduler_move m s s.abort else if u == suc m.width then checker_move m s s.abort s.trap else None) (eq-eqb u m.width own)

  pub trap_is : (u : ℕ) → IsGoing m s u → move_of m s u ≡ trap_move m s s.trap
  trap_is u g = scheduler_is u g.actor g.going ∙ ap (scheduler_move m s) g.calm

  pub unsealed_is : (u : ℕ) → IsGoing m s u → s.trap ≡ None → s.sealed ≡ false → move_of m s u ≡ Some (early_move m s s.early)
  unsealed_is u g untrapped unsealed = trap_is u g ∙ ap (trap_move m s) untrapped ∙ ap (sealed_move m s) unsealed

  free_is : (u : ℕ) (event : Event B C) → IsFree m s u → m.event s.cursor ≡ event → move_of m s u ≡ Some (event_move m s event)
  free_is u event f is = unsealed_is u f.going f.untrapped f.unsealed ∙ ap (λ o. Some (early_move m s o)) f.undisturbed ∙ ap (λ e. Some (event_move m s e)) is

  pub checker_is : (u : ℕ) → u ≡ suc m.width → s.concluded ≡ false → move_of m s u ≡ checker_move m s s.abort s.trap
  checker_is u own going = is_going u going
      ∙ ap (λ t. if t then worker_move m s s.abort u else if u == m.width then scheduler_move m s s.abort else if u == suc m.width then checker_move m s s.abort s.trap else None) (le-ltb u m.width (omega (arith, own)))
      ∙ ap (λ t. if t then scheduler_move m s s.abort else if u == suc m.width then checker_move m s s.abort s.trap else None) (ne_eqb u m.width (λ same. omega (arith, own)))
      ∙ ap (λ t. if t then checker_move m s s.abort s.trap else None) (eq-eqb u (suc m.width) own)

  -- a segment that is to be closed
  close_is : (epochs : List (Epoch B)) → s.epochs ≡ epochs → 0 < length s.epochs → (length s.epochs ≡ m.room) ⊎ (IsCut m s (m.event s.cursor) ⊎ IsSome s.early) → early_move m s s.early ≡ DoClose
  close_is [] is some why = absurd (let l : length s.epochs ≡ 0 = ap length is in omega arith)
  close_is (x ∷ epochs) is some why = by_early s.early refl
    where
      ended : at_end m s.epochs ≡ DoClose
      ended = ap (at_end m) is

      cut_not : (event : Event B C) → m.event s.cursor ≡ event → (IsCut m s event → ⊥) → s.early ≡ None → (length s.epochs ≡ m.room) ⊎ (IsCut m s (m.event s.cursor) ⊎ IsSome s.early) → nat_lt (length s.epochs) m.room ≡ false
      cut_not event at none early (inl full) = le-ltb (length s.epochs) m.room (omega (arith, full))
      cut_not event at none early (inr (inl cut)) = absurd (none (subst (IsCut m s) at cut))
      cut_not event at none early (inr (inr held)) = absurd (true≢false (sym (subst IsSome early held)))

      by_event : (event : Event B C) → m.event s.cursor ≡ event → s.early ≡ None → event_move m s event ≡ DoClose
      by_event End at early = ended
      by_event (Scalar purpose trap rest) at early = ap (λ t. if t then DoScalar purpose trap rest else DoClose) (cut_not (Scalar purpose trap rest) at (λ cut. cut) early why)
      by_event (Drain purpose trap rest) at early = ap (λ l. drain_move m l purpose (trap s.words) (rest s.words)) is
      by_event (Invoke b n rest) at early = ap (λ t. if t then DoOpen b n rest else DoClose) (cut_not (Invoke b n rest) at (λ cut. cut) early why)

      by_early : (early : Option Place) → s.early ≡ early → early_move m s early ≡ DoClose
      by_early (Some t) at = ended
      by_early None at = by_event (m.event s.cursor) refl at

  pub all_seats : (test : Seat P G → Bool) → ((v : ℕ) → v < m.width → test (seat v) ≡ true) → list_all test s.seats ≡ true
  all_seats test each = all_of test fresh_seat s.seats (λ v lt. each v (omega (arith, i.width)))

  pub no_seat : (test : Seat P G → Bool) → ((v : ℕ) → v < m.width → test (seat v) ≡ false) → list_any test s.seats ≡ false
  no_seat test each = none_of test fresh_seat s.seats (λ v lt. each v (omega (arith, i.width)))

  ready : ((v : ℕ) → v < m.width → done v ≡ length s.epochs) → ((p : Pair) → In p (pairs m.width (length s.epochs)) → is_unordered s.seats p ≡ true → is_passed s.passed p ≡ true) → is_ready m s ≡ true
  ready all_done all_passed = and_from _ _ (all_seats (λ (x : Seat P G). x.done == length s.epochs) (λ v lt. eq-eqb _ _ (all_done v lt))) (not_from_false _ (none_each (is_open s.seats s.passed) (pairs m.width (length s.epochs)) (λ p among. closed p among (is_unordered s.seats p) refl)))
    where
      closed : (p : Pair) → In p (pairs m.width (length s.epochs)) → (t : Bool) → is_unordered s.seats p ≡ t → (is_unordered s.seats p && not (is_passed s.passed p)) ≡ false
      closed p among false is = and_left _ _ is
      closed p among true is = and_right _ _ (not_from_true _ (all_passed p among is))

  -- a worker that stands at an iteration goes on
  at_is : (u k : ℕ) (stop : Stop P) → IsAt m s u k stop → move_of m s u ≡ Some (stop_move m s (done u) u k stop)
  at_is u k stop a = hand_moves u (Running k a.piece) a.working ∙ ap Some (by_trap s.trap refl) ∙ ap (λ x. Some (stop_move m s (done u) u k x)) a.stops
    where
      by_trap : (trap : Option Place) → s.trap ≡ trap → running_move m s trap (done u) u k a.piece ≡ stop_move m s (done u) u k (m.system.stop a.piece)
      by_trap None is = refl
      by_trap (Some t) is = ap (λ b. if b then stop_move m s (done u) u k (m.system.stop a.piece) else DoStop) (lt-ltb k t.number (let l : k ≤ t.number = subst (λ o. NotAbove o k) is a.below in ⊎_elim (λ (same : k ≡ t.number). absurd (stopped t is same)) (λ other. omega arith) (cases_eq k t.number)))
        where
          stopped : (t : Place) → s.trap ≡ Some t → k ≡ t.number → ⊥
          stopped t is same =
              let sound = i.sound a.working.calm in
              let ok = hand_is m nest what start noted setup i.first s.next s.epochs i.chain s.mark s.words s.seats s.distance s.passed s.trap trace i.width sound u a.working.own (Running k a.piece) a.working.holds in
              let owned : (plan m i.first s.next s.epochs).owner t.number ≡ u = ap (plan m i.first s.next s.epochs).owner (sym same) ∙ ok.2.of_task.2 in
              let f : Running k a.piece ≡ Stopped = sym a.working.holds ∙ subst (λ v. (seat v).hand ≡ Stopped) owned (sound.trapped t is).stopped in
              cc

  begin_is : (u : ℕ) → done u < length s.epochs → ((v : ℕ) → v < m.width → done u ≤ done v + s.distance) → begin_move m s (done u) u ≡ Some (DoBegin (first_hand m s.epochs (done u) u))
  begin_is u lt near = ap (λ t. if t then Some (DoBegin (first_hand m s.epochs (done u) u)) else None) (and_from _ _ (lt-ltb _ _ lt) (all_seats (λ (x : Seat P G). nat_le (done u) (x.done + s.distance)) (λ v l. le-leb _ _ (near v l))))

  pub begins_is : (u : ℕ) → IsWorking m s u Idle → done u < length s.epochs → ((v : ℕ) → v < m.width → done u ≤ done v + s.distance) → FirstIsBelow m s s.trap (done u) u → move_of m s u ≡ Some (DoBegin (first_hand m s.epochs (done u) u))
  begins_is u w lt near below = hand_moves u Idle w ∙ by_trap s.trap below
    where
      by_trap : (trap : Option Place) → FirstIsBelow m s trap (done u) u → idle_move m s trap (done u) u ≡ Some (DoBegin (first_hand m s.epochs (done u) u))
      by_trap None below = begin_is u lt near
      by_trap (Some t) below = ap (λ b. if b then begin_move m s (done u) u else Some DoStop) (and_from _ _ (lt-ltb _ _ lt) (and_from _ _ (lt-ltb _ _ below.0) (lt-ltb _ _ below.1))) ∙ begin_is u lt near

  stop_is : (u : ℕ) (hand : Hand P) (t : Place) → IsWorking m s u hand → (hand ≡ Stopped → ⊥) → s.trap ≡ Some t → ((j : ℕ) → IsLeft m s hand (done u) u j → t.number ≤ j) → hand_move m s hand (done u) u ≡ Some DoStop
  stop_is u Idle t w moves is none = ap (λ o. idle_move m s o (done u) u) is ∙ ap (λ b. if b then begin_move m s (done u) u else Some DoStop) (false_from_ne_true _ (λ some. let a = and_parts _ _ some in let b = and_parts _ _ a.1 in let l : from m s.epochs (done u) u < t.number = ltb-true _ _ b.1 in let h : t.number ≤ from m s.epochs (done u) u = none (from m s.epochs (done u) u) (ltb-true _ _ a.0, omega arith, ltb-true _ _ b.0) in omega arith))
  stop_is u Empty t w moves is none = ap (λ o. Some (empty_move m o)) is
  stop_is u (Running k piece) t w moves is none = ap (λ o. Some (running_move m s o (done u) u k piece)) is ∙ ap (λ b. Some (if b then stop_move m s (done u) u k (m.system.stop piece) else DoStop)) (le-ltb k t.number (none k (omega arith, (block_low m nest what start noted setup i.first s.next s.epochs i.chain s.mark s.words s.seats s.distance s.passed s.trap trace i.width (i.sound w.calm) u w.own k piece w.holds).1)))
  stop_is u Stopped t w moves is none = absurd (moves refl)

  failing_is : (distance k : ℕ) (cause : Cause) (line : Line) → 0 < distance → failing_move m distance k cause line ≡ DoFail
  failing_is zero k cause line far = absurd (omega arith)
  failing_is (suc distance) k cause line far = refl

  finish_is : (u : ℕ) → (IsWorking m s u Empty × (s.trap ≡ None)) ⊎ ((k : ℕ) × IsAt m s u k Finishes × (to m s.epochs (done u) u ≤ suc k)) → move_of m s u ≡ Some DoFinish
  finish_is u (inl (w, none)) = hand_moves u Empty w ∙ ap (λ o. Some (empty_move m o)) none
  finish_is u (inr (k, a, last)) = at_is u k Finishes a ∙ ap (λ t. Some (if t then DoNext (suc k) (piece_at m s.epochs (done u) (suc k)) else DoFinish)) (le-ltb (suc k) (to m s.epochs (done u) u) last)

  next_is : (u j k : ℕ) (piece : P) → IsAt m s u j Finishes → k ≡ suc j → k < to m s.epochs (done u) u → piece ≡ piece_at m s.epochs (done u) k → move_of m s u ≡ Some (DoNext k piece)
  next_is u j k piece a is high begins = at_is u j Finishes a
      ∙ ap (λ t. Some (if t then DoNext (suc j) (piece_at m s.epochs (done u) (suc j)) else DoFinish)) (lt-ltb (suc j) (to m s.epochs (done u) u) (subst (λ n. n < to m s.epochs (done u) u) is high))
      ∙ ap (λ n. Some (DoNext n (piece_at m s.epochs (done u) n))) (sym is) ∙ ap (λ q. Some (DoNext k q)) (sym begins)

  conclude_is : (u : ℕ) → IsGoing m s u → (IsSome s.trap × ((v : ℕ) → v < m.width → (seat v).hand ≡ Stopped)) ⊎ ((s.trap ≡ None) × (s.epochs ≡ []) × ((m.event s.cursor ≡ End) ⊎ IsSome s.early)) → move_of m s u ≡ Some DoConclude
  conclude_is u g (inl (some, all)) = trap_is u g ∙ by_trap s.trap some
    where
      by_trap : (trap : Option Place) → IsSome trap → trap_move m s trap ≡ Some DoConclude
      by_trap None none = absurd (true≢false (sym none))
      by_trap (Some t) held = ap (λ b. if b then Some DoConclude else None) (all_seats (λ (x : Seat P G). is_stopped x.hand) (λ v lt. ap is_stopped (all v lt)))
  conclude_is u g (inr (none, empty, why)) = unsealed_is u g none (unsealed s.sealed refl) ∙ ap Some (by_early s.early refl why)
    where
      unsealed : (t : Bool) → s.sealed ≡ t → s.sealed ≡ false
      unsealed false is = is
      unsealed true is = absurd (let l : 0 < length s.epochs = i.filled is in let z : length s.epochs ≡ 0 = ap length empty in omega arith)

      by_early : (early : Option Place) → s.early ≡ early → (m.event s.cursor ≡ End) ⊎ IsSome s.early → early_move m s early ≡ DoConclude
      by_early (Some t) is why = ap (at_end m) empty
      by_early None is (inl end) = ap (event_move m s) end ∙ ap (at_end m) empty
      by_early None is (inr held) = absurd (true≢false (sym (subst IsSome is held)))

  let_go_is : (u : ℕ) → u < m.width → s.concluded ≡ false → IsSome s.abort → is_running (seat u).hand ≡ true → move_of m s u ≡ Some DoLetGo
  let_go_is u own going held runs = worker_is u own going ∙ by_abort s.abort held
    where
      by_abort : (abort : Option Abort) → IsSome abort → worker_move m s abort u ≡ Some DoLetGo
      by_abort None none = absurd (true≢false (sym none))
      by_abort (Some cause) held = ap (λ t. if t then Some DoLetGo else None) runs

  check_is : (u : ℕ) (p : Pair) (o : Option ℕ) → u ≡ suc m.width → s.concluded ≡ false → s.abort ≡ None → s.trap ≡ None → due m.width s ≡ Some p → overlap_of m s.seats p ≡ o → move_of m s u ≡ Some (compared_move m p o)
  check_is u p o own going calm untrapped is overlap = checker_is u own going ∙ ap (λ a. checker_move m s a s.trap) calm ∙ ap (checker_move m s None) untrapped ∙ ap (option_map (λ p. compared_move m p (overlap_of m s.seats p))) is ∙ ap (λ x. Some (compared_move m p x)) overlap

  -- each enabled row is the actor's move
  pub able : (u : ℕ) (move : Move B C P) → Enabled m s u move → move_of m s u ≡ Some move
  able u (DoScalar purpose trap rest) (free, lt, is) = free_is u (Scalar purpose trap rest) free is ∙ ap (λ t. Some (if t then DoScalar purpose trap rest else DoClose)) (lt-ltb _ _ lt)
  able u (DoDrain purpose trap rest) (traps, rests, free, none, is, trap_at, rest_at) = free_is u (Drain purpose traps rests) free is ∙ ap (λ l. Some (drain_move m l purpose (traps s.words) (rests s.words))) none ∙ ap (λ t. Some (DoDrain purpose t (rests s.words))) trap_at ∙ ap (λ c. Some (DoDrain purpose trap c)) rest_at
  able u (DoOpen b n rest) (free, lt, is) = free_is u (Invoke b n rest) free is ∙ ap (λ t. Some (if t then DoOpen b n rest else DoClose)) (lt-ltb _ _ lt)
  able u DoClose (going, unsealed, untrapped, held, why) = unsealed_is u going untrapped unsealed ∙ ap Some (close_is s.epochs refl held why)
  able u DoCommit (going, sealed, untrapped, all_done, all_passed) = trap_is u going ∙ ap (trap_move m s) untrapped ∙ ap (sealed_move m s) sealed ∙ ap (λ t. if t then Some DoCommit else None) (ready all_done all_passed)
  able u (DoRestore cause) (own, going, is, rest) = scheduler_is u own going ∙ ap (scheduler_move m s) is ∙ ap (λ t. if t then None else Some (DoRestore cause)) (no_seat (λ (x : Seat P G). is_running x.hand) rest)
  able u DoConclude (going, why) = conclude_is u going why
  able u (DoBegin hand) (working, lt, near, below, is) = begins_is u working lt near below ∙ ap (λ h. Some (DoBegin h)) (sym is)
  able u (DoRead k w next) a = at_is u k (Loads w next) a
  able u (DoWrite k w value next) a = at_is u k (Stores w value next) a
  able u (DoGo k next) a = at_is u k (Goes next) a
  able u (DoNext k piece) (j, a, is, high, begins) = next_is u j k piece a is high begins
  able u DoFinish why = finish_is u why
  able u DoFail (k, cause, line, a, far) = at_is u k (Traps cause line) a ∙ ap Some (failing_is s.distance k cause line far)
  able u (DoTrap k cause line) (a, near) = at_is u k (Traps cause line) a ∙ ap (λ d. Some (failing_move m d k cause line)) near
  able u DoLetGo (own, going, held, runs) = let_go_is u own going held runs
  able u DoStop (hand, trap, working, moves, is, none) = hand_moves u hand working ∙ stop_is u hand trap working moves is none
  able u (DoCheck p) (own, going, calm, untrapped, is, apart) = check_is u p None own going calm untrapped is apart
  able u (DoAbort p array) (own, going, calm, untrapped, is, overlaps) = check_is u p (Some array) own going calm untrapped is overlaps
