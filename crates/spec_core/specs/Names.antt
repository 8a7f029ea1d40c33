-- What is made is a row of the work that was asked for.
use Rattle.std.specs.Prelude.{◌≡◌, ℕ, zero, suc, Bool, true, false, if◌then◌else◌, nat_lt, ◌==◌, ◌&&◌, Option, None, Some, List, [], ◌∷◌, length, refl}
use Rattle.std.specs.Option.{option_map}
use Rattle.std.specs.List.{list_all, list_any}
use Rattle.std.proofs.Common.{sym, subst, inl, inr}
use Rattle.nest_syntax.specs.declared.place.Place.{Place}
use Rattle.task_hop.specs.declared.frame.Frame.{Frame}
use Rattle.task_hop.specs.declared.stop.Stop.{Stop}
use Rattle.task_hop.specs.declared.stop.Stop.TheVariants as stop
use Rattle.task_code.specs.Code.{Code}
use Rattle.task_frame.specs.declared.piece.Piece.{Piece}
use Rattle.task_frame.specs.Pieces.{reached}
use Rattle.sched_cursor.specs.Cursor.{Cursor}
use Rattle.progress_board.specs.declared.actors.Row.{Row}
use Rattle.progress_board.specs.Actors.{IsRowAt, IsRowOf}
use Rattle.nest_setup.specs.Pieces.{stop_told, stop_of}
use Rattle.spec_machine.specs.Invocations.{Event, End, Scalar, Drain, Invoke}
use Rattle.spec_machine.specs.Facts.{Pair, Abort}
use Rattle.spec_machine.specs.Rows as rows
use Rattle.spec_machine.specs.Machine.{Setup, State, Hand, Idle, Empty, Running, Stopped, Epoch, to}
use Rattle.spec_machine.specs.Machine as machine
use Rattle.spec_setup.specs.Setups.{Invoked}
use Rattle.spec_core.specs.declared.moves.Move.TheVariants.{Hop}
use Rattle.spec_core.specs.Moves.{told}
use Rattle.spec_core.specs.Engine.{Stand, Move, work_of_move, board_row}

abbrev pub row_of : Move → Row
row_of move = board_row (rows.row_of move)

-- a move of an actor with this hand is named rightly
abbrev pub IsNamed : Hand Piece → Option Move → Type 0
IsNamed hand None = Unit {0}
IsNamed hand (Some move) = IsRowOf (work_of_move (told hand move) hand) (row_of move)

abbrev Kind : Type 0 → Type 0
Kind G = Setup Invoked Cursor Piece G

-- at a stop
abbrev IsAtStop : ℕ → Piece → Stop → Move → Type 0
IsAtStop k piece st move = (told (Running k piece) move ≡ Hop) × IsRowAt st (row_of move)

at_stop : {G : Type 0} (m : Kind G) (s : Stand G) (e u k : ℕ) (piece : Piece) (sizes : List ℕ) (code : Code) (frame : Frame) (st : Stop) → IsAtStop k piece st (machine.stop_move m s e u k (stop_told sizes code frame st))
at_stop m s e u k piece sizes code frame (stop.Load array place into next) = (refl, refl)
at_stop m s e u k piece sizes code frame (stop.Store array place value next) = (refl, refl)
at_stop m s e u k piece sizes code frame (stop.Go next) = (refl, refl)
at_stop m s e u k piece sizes code frame stop.Finish = by (nat_lt (suc k) (to m s.epochs e u))
  where
    by : (t : Bool) → IsAtStop k piece stop.Finish (if t then machine.DoNext (suc k) (machine.piece_at m s.epochs e (suc k)) else machine.DoFinish)
    by true = (refl, inr refl)
    by false = (refl, inl refl)
at_stop m s e u k piece sizes code frame (stop.Trap cause line) = by s.distance
  where
    by : (distance : ℕ) → IsAtStop k piece (stop.Trap cause line) (machine.failing_move m distance k cause line)
    by zero = (refl, refl)
    by (suc distance) = (refl, refl)

named_at : (k : ℕ) (piece : Piece) (move : Move) → IsAtStop k piece (reached piece).stop move → IsNamed (Running k piece) (Some move)
named_at k piece move (is, row) = subst (λ t. IsRowOf (work_of_move t (Running k piece)) (row_of move)) (sym is) row

if_some : (hand : Hand Piece) (t : Bool) (move : Move) → IsNamed hand (Some move) → IsNamed hand (if t then Some move else None)
if_some hand true move is = is
if_some hand false move is = tt

either : (hand : Hand Piece) (t : Bool) (one other : Option Move) → IsNamed hand one → IsNamed hand other → IsNamed hand (if t then one else other)
either hand true one other is also = is
either hand false one other is also = also

module _ {G : Type 0} (m : Kind G) (sizes : List ℕ) (code : Code) (stops : (p : Piece) → m.system.stop p ≡ stop_of sizes code p) (s : Stand G) where
  begins : (e u : ℕ) → IsNamed Idle (machine.begin_move m s e u)
  begins e u = if_some Idle (nat_lt e (length s.epochs) && machine.is_near m s e) (machine.DoBegin (machine.first_hand m s.epochs e u)) refl

  idle : (trap : Option Place) (e u : ℕ) → IsNamed Idle (machine.idle_move m s trap e u)
  idle None e u = begins e u
  idle (Some trap) e u = either Idle (machine.has_below m s.epochs e u trap.number) (machine.begin_move m s e u) (Some machine.DoStop) (begins e u) refl

  stands : (k : ℕ) (piece : Piece) (e u : ℕ) → IsNamed (Running k piece) (Some (machine.stop_move m s e u k (m.system.stop piece)))
  stands k piece e u = subst (λ st. IsNamed (Running k piece) (Some (machine.stop_move m s e u k st))) (sym (stops piece)) (named_at k piece _ (at_stop m s e u k piece sizes code (reached piece).frame (reached piece).stop))

  running : (trap : Option Place) (k : ℕ) (piece : Piece) (e u : ℕ) → IsNamed (Running k piece) (Some (machine.running_move m s trap e u k piece))
  running None k piece e u = stands k piece e u
  running (Some trap) k piece e u = by (nat_lt k trap.number)
    where
      by : (t : Bool) → IsNamed (Running k piece) (Some (if t then machine.stop_move m s e u k (m.system.stop piece) else machine.DoStop))
      by true = stands k piece e u
      by false = refl

  empty : (trap : Option Place) → IsNamed Empty (Some (machine.empty_move m trap))
  empty None = refl
  empty (Some trap) = refl

  holds : (hand : Hand Piece) (e u : ℕ) → IsNamed hand (machine.hand_move m s hand e u)
  holds Idle e u = idle s.trap e u
  holds Empty e u = empty s.trap
  holds (Running k piece) e u = running s.trap k piece e u
  holds Stopped e u = tt

  lets_go : (hand : Hand Piece) → IsNamed hand (if machine.is_running hand then Some machine.DoLetGo else None)
  lets_go Idle = tt
  lets_go Empty = refl
  lets_go (Running k piece) = refl
  lets_go Stopped = tt

  worker : (abort : Option Abort) (u : ℕ) → IsNamed (machine.seat_at s.seats u).hand (machine.worker_move m s abort u)
  worker None u = holds (machine.seat_at s.seats u).hand (machine.seat_at s.seats u).done u
  worker (Some cause) u = lets_go (machine.seat_at s.seats u).hand

  at_end : (hand : Hand Piece) (epochs : List (Epoch Invoked)) → IsNamed hand (Some (machine.at_end m epochs))
  at_end hand [] = refl
  at_end hand (x ∷ epochs) = refl

  room : (hand : Hand Piece) (t : Bool) (move : Move) → IsNamed hand (Some move) → IsNamed hand (Some (if t then move else machine.DoClose))
  room hand true move is = is
  room hand false move is = refl

  event : (hand : Hand Piece) (ev : Event Invoked Cursor) → IsNamed hand (Some (machine.event_move m s ev))
  event hand End = at_end hand s.epochs
  event hand (Scalar purpose trap rest) = room hand (nat_lt (length s.epochs) m.room) (machine.DoScalar purpose trap rest) refl
  event hand (Drain purpose trap rest) = by s.epochs
    where
      by : (epochs : List (Epoch Invoked)) → IsNamed hand (Some (machine.drain_move m epochs purpose (trap s.words) (rest s.words)))
      by [] = refl
      by (x ∷ epochs) = refl
  event hand (Invoke b n rest) = room hand (nat_lt (length s.epochs) m.room) (machine.DoOpen b n rest) refl

  early : (hand : Hand Piece) (trap : Option Place) → IsNamed hand (Some (machine.early_move m s trap))
  early hand None = event hand (m.event s.cursor)
  early hand (Some trap) = at_end hand s.epochs

  sealed : (hand : Hand Piece) (t : Bool) → IsNamed hand (machine.sealed_move m s t)
  sealed hand true = if_some hand (machine.is_ready m s) machine.DoCommit refl
  sealed hand false = early hand s.early

  trapped : (hand : Hand Piece) (trap : Option Place) → IsNamed hand (machine.trap_move m s trap)
  trapped hand None = sealed hand s.sealed
  trapped hand (Some trap) = if_some hand (list_all (λ (x : machine.Seat Piece G). machine.is_stopped x.hand) s.seats) machine.DoConclude refl

  scheduler : (hand : Hand Piece) (abort : Option Abort) → IsNamed hand (machine.scheduler_move m s abort)
  scheduler hand None = trapped hand s.trap
  scheduler hand (Some cause) = by (list_any (λ (x : machine.Seat Piece G). machine.is_running x.hand) s.seats)
    where
      by : (t : Bool) → IsNamed hand (if t then None else Some (machine.DoRestore cause))
      by true = tt
      by false = refl

  checker : (hand : Hand Piece) (abort : Option Abort) (trap : Option Place) → IsNamed hand (machine.checker_move m s abort trap)
  checker hand (Some cause) trap = tt
  checker hand None (Some trap) = tt
  checker hand None None = by (machine.due m.width s)
    where
      one : (p : Pair) (o : Option ℕ) → IsNamed hand (Some (machine.compared_move m p o))
      one p None = refl
      one p (Some array) = refl

      by : (o : Option Pair) → IsNamed hand (option_map (λ p. machine.compared_move m p (machine.overlap_of m s.seats p)) o)
      by None = tt
      by (Some p) = one p (machine.overlap_of m s.seats p)

  going : (actor : ℕ) → IsNamed (machine.seat_at s.seats actor).hand (machine.going_move m s actor)
  going actor = either hand (nat_lt actor m.width) _ _ (worker s.abort actor) (either hand (actor == m.width) _ _ (scheduler hand s.abort) (either hand (actor == suc m.width) _ None (checker hand s.abort s.trap) tt))
    where
      hand : Hand Piece
      hand = (machine.seat_at s.seats actor).hand

  pub named : (actor : ℕ) → IsNamed (machine.seat_at s.seats actor).hand (machine.move_of m s actor)
  named actor = either (machine.seat_at s.seats actor).hand s.concluded None (machine.going_move m s actor) tt (going actor)
