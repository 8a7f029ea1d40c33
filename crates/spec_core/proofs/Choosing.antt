-- The move of a worker by what it holds, and the scheduler's by its event, as they are told.
use Rattle.std.proofs.Common.{◌≡◌, ℕ, zero, suc, ◌+◌, Bool, true, false, ◌&&◌, if◌then◌else◌, nat_lt, nat_le, Option, Some, None, List, [], ◌∷◌, length, refl, ap, ◌∙◌}
use Rattle.std.specs.Option.{option_map}
use Rattle.std.specs.List.{list_all}
use Rattle.nest_syntax.specs.declared.place.Place.{Place}
use Rattle.settle_law.specs.Tasks.{Stop, Loads, Stores, Goes, Finishes, Traps}
use Rattle.task_frame.specs.declared.piece.Piece.{Piece}
use Rattle.epoch_plan.specs.declared.blocks.Epoch.{Epoch as Planned}
use Rattle.epoch_plan.specs.declared.tasks.Seen.{Seen}
use Rattle.sched_cursor.specs.Cursor.{Cursor}
use Rattle.spec_machine.specs.Invocations.{Event, End, Scalar, Drain, Invoke}
use Rattle.spec_machine.specs.Machine.{Setup, Seat, Epoch, Hand, Idle, Empty, Running, Stopped, to}
use Rattle.spec_machine.specs.Machine as machine
use Rattle.spec_setup.specs.Setups.{Invoked}
use Rattle.spec_core.specs.declared.moves.Move.TheVariants.{Turn, Hop}
use Rattle.spec_core.specs.declared.moves.Turn.{Turn as OwnMove}
use Rattle.spec_core.specs.declared.moves.Turn.TheVariants as turn
use Rattle.spec_core.specs.Moves.{told}
use Rattle.spec_core.specs.Hands.{Bench, seats_of}
use Rattle.spec_core.specs.Blocks.{epochs_in}
use Rattle.spec_core.specs.Stages.{standing_move, empty_move, turn_at_end, drain_turn, event_turn, early_turn}
use Rattle.spec_core.specs.Engine.{Stand, Move}
use Rattle.spec_core.proofs.Seating.{all_done}
use Rattle.spec_core.proofs.Blocks.{many_epochs}

pub map-if : {A B : Type 0} (f : A → B) (b : Bool) (x y : Option A) → option_map f (if b then x else y) ≡ (if b then option_map f x else option_map f y)
map-if f true x y = refl
map-if f false x y = refl

module _ {G : Type 0} (m : Setup Invoked Cursor Piece G) (s : Stand G) where
  pub hops : (e u k : ℕ) (piece : Piece) (stop : Stop Piece) → told (Running k piece) (machine.stop_move m s e u k stop) ≡ Hop
  hops e u k piece (Loads w next) = refl
  hops e u k piece (Stores w value next) = refl
  hops e u k piece (Goes next) = refl
  hops e u k piece Finishes = by (nat_lt (suc k) (to m s.epochs e u))
    where
      by : (t : Bool) → told {B = Invoked} {C = Cursor} {P = Piece} (Running k piece) (if t then machine.DoNext (suc k) (machine.piece_at m s.epochs e (suc k)) else machine.DoFinish) ≡ Hop
      by true = refl
      by false = refl
  hops e u k piece (Traps cause line) = by s.distance
    where
      by : (distance : ℕ) → told (Running k piece) (machine.failing_move m distance k cause line) ≡ Hop
      by zero = refl
      by (suc distance) = refl

  pub stands : (trap : Option Place) (e u k : ℕ) (piece : Piece) → told (Running k piece) (machine.running_move m s trap e u k piece) ≡ standing_move trap k
  stands None e u k piece = hops e u k piece (m.system.stop piece)
  stands (Some trap) e u k piece = by (nat_lt k trap.number)
    where
      by : (t : Bool) → told (Running k piece) (if t then machine.stop_move m s e u k (m.system.stop piece) else machine.DoStop) ≡ (if t then Hop else Turn turn.Stop)
      by true = hops e u k piece (m.system.stop piece)
      by false = refl

  pub is_empty : (trap : Option Place) → told Empty (machine.empty_move m trap) ≡ empty_move trap
  is_empty None = refl
  is_empty (Some trap) = refl

  -- a task begins where its epoch is open and near
  pub begins : (seen : List Seen) (benches : List (Bench G)) (xs : List Planned) → s.seats ≡ seats_of seen benches → s.epochs ≡ epochs_in xs → (e u : ℕ)
      → option_map (told Idle) (machine.begin_move m s e u) ≡ (if nat_lt e (length xs) && list_all (λ (b : Bench G). nat_le e (b.done + s.distance)) benches then Some (Turn turn.Begin) else None)
  begins seen benches xs seats epochs e u =
      map-if (told Idle) (nat_lt e (length s.epochs) && machine.is_near m s e) (Some (machine.DoBegin (machine.first_hand m s.epochs e u))) None
      ∙ ap (λ t. if nat_lt e t && machine.is_near m s e then Some (Turn turn.Begin) else None) (ap length epochs ∙ many_epochs xs)
      ∙ ap (λ t. if nat_lt e (length xs) && t then Some (Turn turn.Begin) else None)
      (ap (list_all (λ (x : Seat Piece G). nat_le e (x.done + s.distance))) seats ∙ all_done (length benches) seen (λ n. nat_le e (n + s.distance)) 0 benches)

  -- the scheduler
  pub ends : (epochs : List (Epoch Invoked)) → told Idle (machine.at_end m epochs) ≡ Turn (turn_at_end (length epochs))
  ends [] = refl
  ends (x ∷ epochs) = refl

  with_room : (t : Bool) (move : Move) (own : OwnMove) → told Idle move ≡ Turn own → told Idle (if t then move else machine.DoClose) ≡ Turn (if t then own else turn.Close)
  with_room true move own is = is
  with_room false move own is = refl

  pub event_told : (ev : Event Invoked Cursor) → told Idle (machine.event_move m s ev) ≡ Turn (event_turn m.room (length s.epochs) ev)
  event_told End = ends s.epochs
  event_told (Scalar purpose trap rest) = with_room (nat_lt (length s.epochs) m.room) (machine.DoScalar purpose trap rest) turn.Scalar refl
  event_told (Drain purpose trap rest) = by s.epochs
    where
      by : (epochs : List (Epoch Invoked)) → told Idle (machine.drain_move m epochs purpose (trap s.words) (rest s.words)) ≡ Turn (drain_turn (length epochs))
      by [] = refl
      by (x ∷ epochs) = refl
  event_told (Invoke b n rest) = with_room (nat_lt (length s.epochs) m.room) (machine.DoOpen b n rest) turn.Open refl

  pub early_told : (early : Option Place) → told Idle (machine.early_move m s early) ≡ Turn (early_turn m.room (length s.epochs) (m.event s.cursor) early)
  early_told None = event_told (m.event s.cursor)
  early_told (Some trap) = ends s.epochs
