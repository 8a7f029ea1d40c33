-- The move of an actor is a row that the table enables.
use Rattle.std.proofs.Common.{◌≡◌, ℕ, zero, suc, ◌+◌, ◌<◌, ◌≤◌, ◌⊎◌, ℤ, Bool, true, false, ◌&&◌, not, if◌then◌else◌, ◌==◌, Option, Some, None, IsSome, List, [], ◌∷◌, length, nat_lt, nat_le, refl, sym, ap, ◌∙◌, subst, inl, inr, ⊎_elim, arith}
use Rattle.std.proofs.lemmas.Bool.{ltb-true, ltb-false, leb-true, eqb-true, and_parts, and_cases, true≢false, not-true}
use Rattle.std.specs.Option.{option_map}
use Rattle.std.specs.List.{list_all, list_any}
use Rattle.nest_syntax.specs.declared.place.Place.{Place}
use Rattle.nest_syntax.specs.declared.names.Line.{Line}
use Rattle.nest_syntax.specs.declared.operators.Cause.{Cause}
use Rattle.settle_law.specs.Tasks.{Stop, Loads, Stores, Goes, Finishes, Traps}
use Rattle.settle_law.specs.Courses.{Trap}
use Rattle.spec_machine.specs.Invocations.{Event, End, Scalar, Drain, Invoke}
use Rattle.spec_machine.specs.Facts.{Pair, Abort}
use Rattle.spec_machine.specs.Machine.{Setup, State, Seat, Hand, Idle, Empty, Running, Stopped, Epoch, Move, DoScalar, DoOpen, DoClose, DoCommit, DoRestore, DoConclude, DoBegin, DoNext, DoFinish, DoLetGo, DoStop, fresh_seat, seat_at, done_at, is_running, is_stopped, is_open, is_unordered, is_passed, pairs, due, from, to, piece_at, first_hand, overlap_of, at_end, drain_move, event_move, early_move, is_ready, sealed_move, trap_move, scheduler_move, is_near, begin_move, has_below, idle_move, empty_move, end_move, failing_move, stop_move, running_move, hand_move, worker_move, compared_move, checker_move, going_move, move_of}
use Rattle.spec_machine.specs.Table.{NotAbove, IsGoing, IsFree, IsCut, IsWorking, IsAt, IsLeft, FirstIsBelow, Enabled}
use Rattle.spec_machine.proofs.Lists.{all_at, any_at, none_in}

pub stopped_is : {P : Type 0} (hand : Hand P) → is_stopped hand ≡ true → hand ≡ Stopped
stopped_is Idle is = cc
stopped_is Empty is = cc
stopped_is (Running k piece) is = cc
stopped_is Stopped is = refl

pub not_stopped : {P : Type 0} (hand : Hand P) → is_stopped hand ≡ false → hand ≡ Stopped → ⊥
not_stopped hand is stops = true≢false (sym (ap is_stopped stops) ∙ is)

module _ {B C P G : Type 0} (m : Setup B C P G) (s : State B C P G) (some_worker : 0 < m.width) (some_room : 0 < m.room) (width : length s.seats ≡ m.width) (room : length s.epochs ≤ m.room) where
  abbrev pub EnabledMove : ℕ → Option (Move B C P) → Type 0
  EnabledMove u None = Unit {0}
  EnabledMove u (Some move) = Enabled m s u move

  -- the scheduler
  at_end_row : (u : ℕ) (epochs : List (Epoch B)) → IsGoing m s u → s.sealed ≡ false → s.trap ≡ None → s.epochs ≡ epochs → ((m.event s.cursor ≡ End) ⊎ IsSome s.early) → Enabled m s u (at_end m epochs)
  at_end_row u [] going unsealed untrapped is why = (going, inr (untrapped, is, why))
  at_end_row u (x ∷ epochs) going unsealed untrapped is why = (going, unsealed, untrapped, (let l : length s.epochs ≡ suc (length epochs) = ap length is in omega arith), inr (cut why))
    where
      cut : ((m.event s.cursor ≡ End) ⊎ IsSome s.early) → IsCut m s (m.event s.cursor) ⊎ IsSome s.early
      cut (inl at) = inl (subst (IsCut m s) (sym at) tt)
      cut (inr some) = inr some

  full_row : (u : ℕ) → IsGoing m s u → s.sealed ≡ false → s.trap ≡ None → nat_lt (length s.epochs) m.room ≡ false → Enabled m s u DoClose
  full_row u going unsealed untrapped full = let l : m.room ≤ length s.epochs = ltb-false _ _ full in (going, unsealed, untrapped, omega arith, inl (let e : length s.epochs ≡ m.room = omega arith in e))

  drain_row : (u : ℕ) (epochs : List (Epoch B)) (purpose : _) (traps : List ℤ → Option Trap) (rests : List ℤ → C) → IsFree m s u → s.epochs ≡ epochs → m.event s.cursor ≡ Drain purpose traps rests → Enabled m s u (drain_move m epochs purpose (traps s.words) (rests s.words))
  drain_row u [] purpose traps rests free is at = (traps, rests, free, is, at, refl, refl)
  drain_row u (x ∷ epochs) purpose traps rests free is at = (free.going, free.unsealed, free.untrapped, (let l : length s.epochs ≡ suc (length epochs) = ap length is in omega arith), inr (inl (subst (IsCut m s) (sym at) tt)))

  event_row : (u : ℕ) (event : Event B C) → IsFree m s u → m.event s.cursor ≡ event → Enabled m s u (event_move m s event)
  event_row u End free at = at_end_row u s.epochs free.going free.unsealed free.untrapped refl (inl at)
  event_row u (Scalar purpose trap rest) free at = go (nat_lt (length s.epochs) m.room) refl
    where
      go : (t : Bool) → nat_lt (length s.epochs) m.room ≡ t → Enabled m s u (if t then DoScalar purpose trap rest else DoClose)
      go true is = (free, ltb-true _ _ is, at)
      go false is = full_row u free.going free.unsealed free.untrapped is
  event_row u (Drain purpose trap rest) free at = drain_row u s.epochs purpose trap rest free refl at
  event_row u (Invoke b n rest) free at = go (nat_lt (length s.epochs) m.room) refl
    where
      go : (t : Bool) → nat_lt (length s.epochs) m.room ≡ t → Enabled m s u (if t then DoOpen b n rest else DoClose)
      go true is = (free, ltb-true _ _ is, at)
      go false is = full_row u free.going free.unsealed free.untrapped is

  early_row : (u : ℕ) (early : Option Place) → IsGoing m s u → s.sealed ≡ false → s.trap ≡ None → s.early ≡ early → Enabled m s u (early_move m s early)
  early_row u None going unsealed untrapped is = event_row u (m.event s.cursor) (record { going = going; unsealed = unsealed; untrapped = untrapped; undisturbed = is }) refl
  early_row u (Some trap) going unsealed untrapped is = at_end_row u s.epochs going unsealed untrapped refl (inr (subst IsSome (sym is) refl))

  commit_row : (u : ℕ) → IsGoing m s u → s.sealed ≡ true → s.trap ≡ None → is_ready m s ≡ true → Enabled m s u DoCommit
  commit_row u going is_sealed untrapped ready = (
    going,
    is_sealed,
    untrapped,
    (λ v lt. eqb-true _ _ (all_at (λ (x : Seat P G). x.done == length s.epochs) fresh_seat s.seats v (and_parts _ _ ready).0 (omega (arith, width)))),
    λ p among unordered. passed p unordered (is_passed s.passed p) refl (none_in (is_open s.seats s.passed) (pairs m.width (length s.epochs)) p (not-true _ (and_parts _ _ ready).1) among),
  )
    where
      passed : (p : Pair) → is_unordered s.seats p ≡ true → (t : Bool) → is_passed s.passed p ≡ t → (is_unordered s.seats p && not (is_passed s.passed p)) ≡ false → is_passed s.passed p ≡ true
      passed p unordered true is closed = is
      passed p unordered false is closed = absurd (true≢false (sym (ap (λ x. x && true) unordered) ∙ ap (λ x. is_unordered s.seats p && not x) (sym is) ∙ closed))

  sealed_row : (u : ℕ) (sealed : Bool) → IsGoing m s u → s.trap ≡ None → s.sealed ≡ sealed → EnabledMove u (sealed_move m s sealed)
  sealed_row u false going untrapped is = early_row u s.early going is untrapped refl
  sealed_row u true going untrapped is = go (is_ready m s) refl
    where
      go : (t : Bool) → is_ready m s ≡ t → EnabledMove u (if t then Some DoCommit else None)
      go true ready = commit_row u going is untrapped ready
      go false ready = tt

  trap_row : (u : ℕ) (trap : Option Place) → IsGoing m s u → s.trap ≡ trap → EnabledMove u (trap_move m s trap)
  trap_row u None going is = sealed_row u s.sealed going is refl
  trap_row u (Some trap) going is = go (list_all (λ (x : Seat P G). is_stopped x.hand) s.seats) refl
    where
      go : (t : Bool) → list_all (λ (x : Seat P G). is_stopped x.hand) s.seats ≡ t → EnabledMove u (if t then Some DoConclude else None)
      go true all = (going, inl (subst IsSome (sym is) refl, λ v lt. stopped_is _ (all_at (λ (x : Seat P G). is_stopped x.hand) fresh_seat s.seats v all (omega (arith, width)))))
      go false all = tt

  scheduler_row : (u : ℕ) (abort : Option Abort) → u ≡ m.width → s.concluded ≡ false → s.abort ≡ abort → EnabledMove u (scheduler_move m s abort)
  scheduler_row u None own going is = trap_row u s.trap (record { actor = own; going = going; calm = is }) refl
  scheduler_row u (Some cause) own going is = go (list_any (λ (x : Seat P G). is_running x.hand) s.seats) refl
    where
      go : (t : Bool) → list_any (λ (x : Seat P G). is_running x.hand) s.seats ≡ t → EnabledMove u (if t then None else Some (DoRestore cause))
      go true some = tt
      go false none = (own, going, is, λ v lt. any_at (λ (x : Seat P G). is_running x.hand) fresh_seat s.seats v none (omega (arith, width)))

  -- a worker
  abbrev done : ℕ → ℕ
  done u = done_at s.seats u

  begin_row : (u : ℕ) → IsWorking m s u Idle → FirstIsBelow m s s.trap (done u) u → EnabledMove u (begin_move m s (done u) u)
  begin_row u working below = go (nat_lt (done u) (length s.epochs) && is_near m s (done u)) refl
    where
      go : (t : Bool) → (nat_lt (done u) (length s.epochs) && is_near m s (done u)) ≡ t → EnabledMove u (if t then Some (DoBegin (first_hand m s.epochs (done u) u)) else None)
      go true both = (working, ltb-true _ _ (and_parts _ _ both).0, (λ v lt. leb-true _ _ (all_at (λ (x : Seat P G). nat_le (done u) (x.done + s.distance)) fresh_seat s.seats v (and_parts _ _ both).1 (omega (arith, width)))), below, refl)
      go false both = tt

  -- a worker with no iteration of its next task below the trap
  none_left : (u j : ℕ) (trap : Place) → has_below m s.epochs (done u) u trap.number ≡ false → IsLeft m s Idle (done u) u j → trap.number ≤ j
  none_left u j trap none (lt, low, high) = ⊎_elim
      (λ e. absurd (let l : length s.epochs ≤ done u = ltb-false _ _ e in omega arith))
      (λ e. ⊎_elim
      (λ f. absurd (let l : to m s.epochs (done u) u ≤ from m s.epochs (done u) u = ltb-false _ _ f in omega arith))
      (λ f. let l : trap.number ≤ from m s.epochs (done u) u = ltb-false _ _ f in omega arith)
      (and_cases (nat_lt (from m s.epochs (done u) u) (to m s.epochs (done u) u)) (nat_lt (from m s.epochs (done u) u) trap.number) e))
      (and_cases (nat_lt (done u) (length s.epochs)) (nat_lt (from m s.epochs (done u) u) (to m s.epochs (done u) u) && nat_lt (from m s.epochs (done u) u) trap.number) none)

  stop_row : (u : ℕ) (hand : Hand P) (trap : Place) → IsWorking m s u hand → (hand ≡ Stopped → ⊥) → s.trap ≡ Some trap → ((j : ℕ) → IsLeft m s hand (done u) u j → trap.number ≤ j) → Enabled m s u DoStop
  stop_row u hand trap working other is none = (hand, trap, working, other, is, none)

  idle_row : (u : ℕ) (trap : Option Place) → IsWorking m s u Idle → s.trap ≡ trap → EnabledMove u (idle_move m s trap (done u) u)
  idle_row u None working is = begin_row u working (subst (λ t. FirstIsBelow m s t (done u) u) (sym is) tt)
  idle_row u (Some trap) working is = go (has_below m s.epochs (done u) u trap.number) refl
    where
      go : (t : Bool) → has_below m s.epochs (done u) u trap.number ≡ t → EnabledMove u (if t then begin_move m s (done u) u else Some DoStop)
      go true some = let both = and_parts _ _ (and_parts _ _ some).1 in begin_row u working (subst (λ t. FirstIsBelow m s t (done u) u) (sym is) (ltb-true _ _ both.0, ltb-true _ _ both.1))
      go false none = stop_row u Idle trap working (not_stopped Idle refl) is (λ j left. none_left u j trap none left)

  end_row : (u k : ℕ) → IsAt m s u k Finishes → Enabled m s u (end_move m s (done u) u k)
  end_row u k at = go (nat_lt (suc k) (to m s.epochs (done u) u)) refl
    where
      go : (t : Bool) → nat_lt (suc k) (to m s.epochs (done u) u) ≡ t → Enabled m s u (if t then DoNext (suc k) (piece_at m s.epochs (done u) (suc k)) else DoFinish)
      go true more = (k, at, refl, ltb-true _ _ more, refl)
      go false last = inr (k, at, ltb-false _ _ last)

  failing_row : (u k : ℕ) (cause : Cause) (line : Line) (distance : ℕ) → s.distance ≡ distance → IsAt m s u k (Traps cause line) → Enabled m s u (failing_move m distance k cause line)
  failing_row u k cause line zero is at = (at, is)
  failing_row u k cause line (suc distance) is at = (k, cause, line, at, omega (arith, is))

  at_row : (u k : ℕ) (stop : Stop P) → IsAt m s u k stop → Enabled m s u (stop_move m s (done u) u k stop)
  at_row u k (Loads w next) at = at
  at_row u k (Stores w value next) at = at
  at_row u k (Goes next) at = at
  at_row u k Finishes at = end_row u k at
  at_row u k (Traps cause line) at = failing_row u k cause line s.distance refl at

  running_row : (u k : ℕ) (piece : P) (trap : Option Place) → IsWorking m s u (Running k piece) → s.trap ≡ trap → Enabled m s u (running_move m s trap (done u) u k piece)
  running_row u k piece None working is = at_row u k (m.system.stop piece) (record { piece = piece; working = working; below = subst (λ t. NotAbove t k) (sym is) tt; stops = refl })
  running_row u k piece (Some trap) working is = go (nat_lt k trap.number) refl
    where
      go : (t : Bool) → nat_lt k trap.number ≡ t → Enabled m s u (if t then stop_move m s (done u) u k (m.system.stop piece) else DoStop)
      go true lt = at_row u k (m.system.stop piece) (record { piece = piece; working = working; below = subst (λ t. NotAbove t k) (sym is) (let l : k < trap.number = ltb-true _ _ lt in omega arith); stops = refl })
      go false ge = stop_row u (Running k piece) trap working (not_stopped (Running k piece) refl) is (λ j left. let l : trap.number ≤ k = ltb-false _ _ ge in let r : k ≤ j = left.0 in omega arith)

  hand_row : (u : ℕ) (hand : Hand P) → IsWorking m s u hand → EnabledMove u (hand_move m s hand (done u) u)
  hand_row u Idle working = idle_row u s.trap working refl
  hand_row u Empty working = go s.trap refl
    where
      go : (trap : Option Place) → s.trap ≡ trap → Enabled m s u (empty_move m trap)
      go None is = inl (working, is)
      go (Some trap) is = stop_row u Empty trap working (not_stopped Empty refl) is (λ j left. absurd left)
  hand_row u (Running k piece) working = running_row u k piece s.trap working refl
  hand_row u Stopped working = tt

  worker_row : (u : ℕ) (abort : Option Abort) → u < m.width → s.concluded ≡ false → s.abort ≡ abort → EnabledMove u (worker_move m s abort u)
  worker_row u None own going is = hand_row u (seat_at s.seats u).hand (record { own = own; going = going; calm = is; holds = refl })
  worker_row u (Some cause) own going is = go (is_running (seat_at s.seats u).hand) refl
    where
      go : (t : Bool) → is_running (seat_at s.seats u).hand ≡ t → EnabledMove u (if t then Some DoLetGo else None)
      go true runs = (own, going, subst IsSome (sym is) refl, runs)
      go false rests = tt

  -- the checker
  checker_row : (u : ℕ) (abort : Option Abort) (trap : Option Place) → u ≡ suc m.width → s.concluded ≡ false → s.abort ≡ abort → s.trap ≡ trap → EnabledMove u (checker_move m s abort trap)
  checker_row u (Some cause) trap own going calm untrapped = tt
  checker_row u None (Some trap) own going calm untrapped = tt
  checker_row u None None own going calm untrapped = go (due m.width s) refl
    where
      compared : (p : Pair) (o : Option ℕ) → due m.width s ≡ Some p → overlap_of m s.seats p ≡ o → Enabled m s u (compared_move m p o)
      compared p None is apart = (own, going, calm, untrapped, is, apart)
      compared p (Some array) is overlaps = (own, going, calm, untrapped, is, overlaps)

      go : (o : Option Pair) → due m.width s ≡ o → EnabledMove u (option_map (λ p. compared_move m p (overlap_of m s.seats p)) o)
      go None is = tt
      go (Some p) is = compared p (overlap_of m s.seats p) is refl

  going_row : (u : ℕ) → s.concluded ≡ false → EnabledMove u (going_move m s u)
  going_row u going = go (nat_lt u m.width) refl
    where
      check : (t : Bool) → (u == suc m.width) ≡ t → EnabledMove u (if t then checker_move m s s.abort s.trap else None)
      check true is = checker_row u s.abort s.trap (eqb-true _ _ is) going refl refl
      check false is = tt

      schedule : (t : Bool) → (u == m.width) ≡ t → EnabledMove u (if t then scheduler_move m s s.abort else if u == suc m.width then checker_move m s s.abort s.trap else None)
      schedule true is = scheduler_row u s.abort (eqb-true _ _ is) going refl
      schedule false is = check (u == suc m.width) refl

      go : (t : Bool) → nat_lt u m.width ≡ t → EnabledMove u (if t then worker_move m s s.abort u else if u == m.width then scheduler_move m s s.abort else if u == suc m.width then checker_move m s s.abort s.trap else None)
      go true is = worker_row u s.abort (ltb-true _ _ is) going refl
      go false is = schedule (u == m.width) refl

  enabled_all : (u : ℕ) → EnabledMove u (move_of m s u)
  enabled_all u = go s.concluded refl
    where
      go : (t : Bool) → s.concluded ≡ t → EnabledMove u (if t then None else going_move m s u)
      go true is = tt
      go false is = going_row u is

  -- the move of an actor is enabled
  pub enabled : (u : ℕ) (move : Move B C P) → move_of m s u ≡ Some move → Enabled m s u move
  enabled u move is = subst (EnabledMove u) is (enabled_all u)
