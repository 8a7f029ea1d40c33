-- In any state, a move that changes the cursor is of the event at which it stands.
use Rattle.std.proofs.Common.{◌≡◌, ℕ, zero, suc, ℤ, Bool, true, false, ◌&&◌, if◌then◌else◌, ◌==◌, Option, Some, None, List, [], ◌∷◌, length, nat_lt, refl, subst}
use Rattle.std.specs.List.{list_all, list_any}
use Rattle.std.specs.Option.{option_map}
use Rattle.nest_syntax.specs.declared.names.Line.{Line}
use Rattle.nest_syntax.specs.declared.operators.Cause.{Cause}
use Rattle.nest_syntax.specs.declared.place.Place.{Place}
use Rattle.nest_syntax.specs.Course.{Purpose}
use Rattle.settle_law.specs.Tasks.{Stop, Loads, Stores, Goes, Finishes, Traps}
use Rattle.settle_law.specs.Courses.{Trap}
use Rattle.spec_machine.specs.Invocations.{Event, End, Scalar, Drain, Invoke}
use Rattle.spec_machine.specs.Facts.{Pair, Abort}
use Rattle.spec_machine.specs.Machine.{Setup, State, Seat, Hand, Idle, Empty, Running, Stopped, Epoch, Move, DoScalar, DoDrain, DoOpen, DoClose, DoCommit, DoRestore, DoConclude, DoBegin, DoNext, DoFinish, DoLetGo, DoStop, seat_at, is_running, is_stopped, due, to, piece_at, first_hand, at_end, drain_move, event_move, early_move, is_ready, sealed_move, trap_move, scheduler_move, is_near, begin_move, has_below, idle_move, empty_move, failing_move, stop_move, running_move, hand_move, worker_move, overlap_of, compared_move, checker_move, going_move, move_of}

module _ {B C P G : Type 0} (m : Setup B C P G) (s : State B C P G) where
  abbrev pub FromEvent : Move B C P → Type 0
  FromEvent (DoScalar purpose trap rest) = m.event s.cursor ≡ Scalar purpose trap rest
  FromEvent (DoDrain purpose trap rest) = (traps : List ℤ → Option Trap) × (rests : List ℤ → C) × (m.event s.cursor ≡ Drain purpose traps rests) × (rests s.words ≡ rest)
  FromEvent (DoOpen b n rest) = m.event s.cursor ≡ Invoke b n rest
  FromEvent move = Unit {0}

  abbrev FromMove : Option (Move B C P) → Type 0
  FromMove None = Unit {0}
  FromMove (Some move) = FromEvent move

  one_of : (t : Bool) (x y : Move B C P) → FromEvent x → FromEvent y → FromEvent (if t then x else y)
  one_of true x y first second = first
  one_of false x y first second = second

  either : (t : Bool) (x y : Option (Move B C P)) → FromMove x → FromMove y → FromMove (if t then x else y)
  either true x y first second = first
  either false x y first second = second

  -- the scheduler
  end_from : (epochs : List (Epoch B)) → FromEvent (at_end m epochs)
  end_from [] = tt
  end_from (x ∷ epochs) = tt

  drain_from : (epochs : List (Epoch B)) (purpose : Purpose) (traps : List ℤ → Option Trap) (rests : List ℤ → C) → m.event s.cursor ≡ Drain purpose traps rests → FromEvent (drain_move m epochs purpose (traps s.words) (rests s.words))
  drain_from [] purpose traps rests is = (traps, rests, is, refl)
  drain_from (x ∷ epochs) purpose traps rests is = tt

  event_from : (event : Event B C) → m.event s.cursor ≡ event → FromEvent (event_move m s event)
  event_from End is = end_from s.epochs
  event_from (Scalar purpose trap rest) is = one_of (nat_lt (length s.epochs) m.room) (DoScalar purpose trap rest) DoClose is tt
  event_from (Drain purpose traps rests) is = drain_from s.epochs purpose traps rests is
  event_from (Invoke b n rest) is = one_of (nat_lt (length s.epochs) m.room) (DoOpen b n rest) DoClose is tt

  early_from : (early : Option Place) → FromEvent (early_move m s early)
  early_from None = event_from (m.event s.cursor) refl
  early_from (Some trap) = end_from s.epochs

  sealed_from : (sealed : Bool) → FromMove (sealed_move m s sealed)
  sealed_from true = either (is_ready m s) (Some DoCommit) None tt tt
  sealed_from false = early_from s.early

  trap_from : (trap : Option Place) → FromMove (trap_move m s trap)
  trap_from None = sealed_from s.sealed
  trap_from (Some trap) = either (list_all (λ (x : Seat P G). is_stopped x.hand) s.seats) (Some DoConclude) None tt tt

  scheduler_from : (abort : Option Abort) → FromMove (scheduler_move m s abort)
  scheduler_from None = trap_from s.trap
  scheduler_from (Some cause) = either (list_any (λ (x : Seat P G). is_running x.hand) s.seats) None (Some (DoRestore cause)) tt tt

  -- a worker
  begin_from : (e u : ℕ) → FromMove (begin_move m s e u)
  begin_from e u = either (nat_lt e (length s.epochs) && is_near m s e) (Some (DoBegin (first_hand m s.epochs e u))) None tt tt

  idle_from : (trap : Option Place) (e u : ℕ) → FromMove (idle_move m s trap e u)
  idle_from None e u = begin_from e u
  idle_from (Some trap) e u = either (has_below m s.epochs e u trap.number) (begin_move m s e u) (Some DoStop) (begin_from e u) tt

  empty_from : (trap : Option Place) → FromEvent (empty_move m trap)
  empty_from None = tt
  empty_from (Some trap) = tt

  failing_from : (distance k : ℕ) (cause : Cause) (line : Line) → FromEvent (failing_move m distance k cause line)
  failing_from zero k cause line = tt
  failing_from (suc distance) k cause line = tt

  stop_from : (e u k : ℕ) (stop : Stop P) → FromEvent (stop_move m s e u k stop)
  stop_from e u k (Loads w next) = tt
  stop_from e u k (Stores w value next) = tt
  stop_from e u k (Goes next) = tt
  stop_from e u k Finishes = one_of (nat_lt (suc k) (to m s.epochs e u)) (DoNext (suc k) (piece_at m s.epochs e (suc k))) DoFinish tt tt
  stop_from e u k (Traps cause line) = failing_from s.distance k cause line

  running_from : (trap : Option Place) (e u k : ℕ) (piece : P) → FromEvent (running_move m s trap e u k piece)
  running_from None e u k piece = stop_from e u k (m.system.stop piece)
  running_from (Some trap) e u k piece = one_of (nat_lt k trap.number) (stop_move m s e u k (m.system.stop piece)) DoStop (stop_from e u k (m.system.stop piece)) tt

  hand_from : (hand : Hand P) (e u : ℕ) → FromMove (hand_move m s hand e u)
  hand_from Idle e u = idle_from s.trap e u
  hand_from Empty e u = empty_from s.trap
  hand_from (Running k piece) e u = running_from s.trap e u k piece
  hand_from Stopped e u = tt

  worker_from : (abort : Option Abort) (u : ℕ) → FromMove (worker_move m s abort u)
  worker_from None u = hand_from (seat_at s.seats u).hand (seat_at s.seats u).done u
  worker_from (Some cause) u = either (is_running (seat_at s.seats u).hand) (Some DoLetGo) None tt tt

  -- the checker
  compared_from : (p : Pair) (overlap : Option ℕ) → FromEvent (compared_move m p overlap)
  compared_from p None = tt
  compared_from p (Some array) = tt

  due_from : (o : Option Pair) → FromMove (option_map (λ p. compared_move m p (overlap_of m s.seats p)) o)
  due_from None = tt
  due_from (Some p) = compared_from p (overlap_of m s.seats p)

  checker_from : (abort : Option Abort) (trap : Option Place) → FromMove (checker_move m s abort trap)
  checker_from None None = due_from (due m.width s)
  checker_from None (Some trap) = tt
  checker_from (Some cause) trap = tt

  going_from : (u : ℕ) → FromMove (going_move m s u)
  going_from u =
      either (nat_lt u m.width) (worker_move m s s.abort u) (if u == m.width then scheduler_move m s s.abort else if u == suc m.width then checker_move m s s.abort s.trap else None) (worker_from s.abort u)
      (either (u == m.width) (scheduler_move m s s.abort) (if u == suc m.width then checker_move m s s.abort s.trap else None) (scheduler_from s.abort)
      (either (u == suc m.width) (checker_move m s s.abort s.trap) None (checker_from s.abort s.trap) tt))

  pub from_event : (u : ℕ) (move : Move B C P) → move_of m s u ≡ Some move → FromEvent move
  from_event u move is = subst FromMove is (either s.concluded None (going_move m s u) tt (going_from u))
