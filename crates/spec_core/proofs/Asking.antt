-- What an actor is asked, and what is made of it.
use Rattle.std.proofs.Common.{◌≡◌, ℕ, zero, suc, ◌<◌, ◌≤◌, Bool, true, false, nat_lt, if◌then◌else◌, Option, Some, None, length, inl, inr, refl, sym, ap, ◌∙◌, subst}
use Rattle.std.specs.Option.{option_map}
use Rattle.std.proofs.lemmas.Bool.{cond-true, cond-false, lt-ltb}
use Rattle.nest_syntax.specs.declared.place.Place.{Place}
use Rattle.settle_law.specs.Tasks.{Stop, Loads, Stores, Goes, Finishes, Traps}
use Rattle.sched_cursor.specs.Cursor.{Cursor}
use Rattle.task_frame.specs.declared.piece.Piece.{Piece}
use Rattle.progress_board.specs.declared.actors.Row.{Row}
use Rattle.progress_board.specs.declared.actors.Work.{Work}
use Rattle.progress_board.specs.declared.actors.Work.TheVariants as work
use Rattle.progress_board.specs.declared.actors.Ask.TheVariants.{Ready}
use Rattle.spec_machine.specs.Machine as machine
use Rattle.spec_machine.specs.Machine.{Setup, Hand, Idle, Empty, Running, Stopped, DoScalar, DoDrain, DoOpen, DoClose, DoCommit, DoRestore, DoConclude, DoBegin, DoRead, DoWrite, DoGo, DoNext, DoFinish, DoFail, DoTrap, DoLetGo, DoStop, DoCheck, DoAbort, seat_at, done_at}
use Rattle.spec_machine.specs.Table.{Enabled, IsAt}
use Rattle.spec_machine.proofs.Guards.{enabled}
use Rattle.spec_setup.specs.Setups.{Invoked}
use Rattle.spec_setup.specs.Signs.{Signs}
use Rattle.spec_core.specs.declared.moves.Move.{Move as Told}
use Rattle.spec_core.specs.declared.moves.Move.TheVariants.{Turn, Hop}
use Rattle.spec_core.specs.declared.moves.Turn.{Turn as OwnMove}
use Rattle.spec_core.specs.declared.moves.Turn.TheVariants as turn
use Rattle.spec_core.specs.Moves.{told, row_of_turn}
use Rattle.spec_core.specs.Engine.{Engine, Stand, Move, hand_at, has_ended, told_in, told_of, answer, asked, work_of_move}

-- a worker that hops stands at a piece, and its move is that of the piece's stop
module _ {G : Type 0} (m : Setup Invoked Cursor Piece G) (s : Stand G) (u : ℕ) where
  abbrev hand : Hand Piece
  hand = (seat_at s.seats u).hand

  record Held : Type 0 where
    pub number : ℕ
    pub piece : Piece
    pub own : u < m.width
    pub going : s.concluded ≡ false
    pub calm : s.abort ≡ None
    pub holds : hand ≡ Running number piece

  stands : (k : ℕ) (stop : Stop Piece) → IsAt m s u k stop → Held
  stands k stop is = record { number = k; piece = is.piece; own = is.working.own; going = is.working.going; calm = is.working.calm; holds = is.working.holds }

  held : (move : Move) → Enabled m s u move → told hand move ≡ Hop → Held
  held (DoScalar purpose trap rest) is hop = absurd (cc)
  held (DoDrain purpose trap rest) is hop = absurd (cc)
  held (DoOpen b n rest) is hop = absurd (cc)
  held DoClose is hop = absurd (cc)
  held DoCommit is hop = absurd (cc)
  held (DoRestore cause) is hop = absurd (cc)
  held DoConclude is hop = absurd (cc)
  held (DoBegin first) is hop = absurd (cc)
  held (DoRead k w next) is hop = stands k _ is
  held (DoWrite k w value next) is hop = stands k _ is
  held (DoGo k next) is hop = stands k _ is
  held (DoNext k piece) is hop = stands is.0 _ is.1
  held DoFinish (inl is) hop = absurd (let no : Turn turn.Finish ≡ Hop = subst (λ (h : Hand Piece). told {B = Invoked} {C = Cursor} h DoFinish ≡ Hop) is.0.holds hop in cc)
  held DoFinish (inr is) hop = stands is.0 _ is.1
  held DoFail is hop = stands is.0 _ is.3
  held (DoTrap k cause line) is hop = stands k _ is.0
  held DoLetGo is hop = absurd (cc)
  held DoStop is hop = absurd (cc)
  held (DoCheck p) is hop = absurd (cc)
  held (DoAbort p array) is hop = absurd (cc)

  moves : (h : Held) → machine.move_of m s u ≡ Some (machine.running_move m s s.trap (done_at s.seats u) u h.number h.piece)
  moves h =
      cond-false s.concluded None (machine.going_move m s u) h.going
      ∙ cond-true (nat_lt u m.width) (machine.worker_move m s s.abort u) _ (lt-ltb u m.width h.own)
      ∙ ap (λ a. machine.worker_move m s a u) h.calm
      ∙ ap (λ (x : Hand Piece). machine.hand_move m s x (done_at s.seats u) u) h.holds

  stops : (trap : Option Place) (e k : ℕ) (piece : Piece) → told (Running k piece) (machine.running_move m s trap e u k piece) ≡ Hop → machine.running_move m s trap e u k piece ≡ machine.stop_move m s e u k (m.system.stop piece)
  stops None e k piece hop = refl
  stops (Some trap) e k piece hop = by (nat_lt k trap.number) hop
    where
      by : (t : Bool) → told (Running k piece) (if t then machine.stop_move m s e u k (m.system.stop piece) else machine.DoStop) ≡ Hop → (if t then machine.stop_move m s e u k (m.system.stop piece) else machine.DoStop) ≡ machine.stop_move m s e u k (m.system.stop piece)
      by true is = refl
      by false is = absurd (cc)

  pub record Hopping : Type 0 where
    pub number : ℕ
    pub piece : Piece
    pub own : u < m.width
    pub calm : s.abort ≡ None
    pub holds : hand ≡ Running number piece
    pub moves : machine.move_of m s u ≡ Some (machine.stop_move m s (done_at s.seats u) u number (m.system.stop piece))

  module _ (some_worker : 0 < m.width) (some_room : 0 < m.room) (width : length s.seats ≡ m.width) (room : length s.epochs ≤ m.room) where
    held_of : (o : Option Move) → machine.move_of m s u ≡ o → option_map (told hand) o ≡ Some Hop → Held
    held_of None is hop = absurd (let no : None ≡ Some Hop = hop in cc)
    held_of (Some move) is hop = held move (enabled m s some_worker some_room width room u move is) (cc)

    pub hopping : told_in m s u ≡ Some Hop → Hopping
    hopping is =
        let h = held_of (machine.move_of m s u) refl is in
        let some : Some (told (Running h.number h.piece) (machine.running_move m s s.trap (done_at s.seats u) u h.number h.piece)) ≡ Some Hop =
        sym (ap (option_map (told hand)) (moves h) ∙ ap (λ (x : Hand Piece). Some (told x (machine.running_move m s s.trap (done_at s.seats u) u h.number h.piece))) h.holds) ∙ is in
        let hop : told (Running h.number h.piece) (machine.running_move m s s.trap (done_at s.seats u) u h.number h.piece) ≡ Hop = cc in
        record { number = h.number; piece = h.piece; own = h.own; calm = h.calm; holds = h.holds; moves = moves h ∙ ap Some (stops s.trap (done_at s.seats u) h.number h.piece hop) }

  -- a worker's step at a stop
  pub stop_after : (e k : ℕ) (stop : Stop Piece) → machine.state_after m s u (machine.stop_move m s e u k stop) ≡ machine.worker_after m s u (machine.stop_move m s e u k stop)
  stop_after e k (Loads w next) = refl
  stop_after e k (Stores w value next) = refl
  stop_after e k (Goes next) = refl
  stop_after e k Finishes = by (nat_lt (suc k) (machine.to m s.epochs e u))
    where
      by : (t : Bool) → machine.state_after m s u (if t then machine.DoNext (suc k) (machine.piece_at m s.epochs e (suc k)) else machine.DoFinish) ≡ machine.worker_after m s u (if t then machine.DoNext (suc k) (machine.piece_at m s.epochs e (suc k)) else machine.DoFinish)
      by true = refl
      by false = refl
  stop_after e k (Traps cause line) = by s.distance
    where
      by : (distance : ℕ) → machine.state_after m s u (machine.failing_move m distance k cause line) ≡ machine.worker_after m s u (machine.failing_move m distance k cause line)
      by zero = refl
      by (suc distance) = refl

module _ {G : Type 0} (signs : Signs G) (e : Engine G) (u : ℕ) where
  -- asked by a move
  pub asked_by : (t : Told) → told_of signs e u ≡ Some t → asked signs e u ≡ Ready (work_of_move t (hand_at e u))
  asked_by t is = ap (answer (has_ended signs e u) (hand_at e u)) is

  hop_only : (over : Bool) (hand : Hand Piece) (o : Option Told) (piece : Piece) → answer over hand o ≡ Ready (work.Hop piece) → o ≡ Some Hop
  hop_only over hand (Some (Turn turn)) piece is = absurd (cc)
  hop_only over hand (Some Hop) piece is = refl
  hop_only true hand None piece is = absurd (cc)
  hop_only false hand None piece is = absurd (cc)

  pub hop_asked : (piece : Piece) → asked signs e u ≡ Ready (work.Hop piece) → told_of signs e u ≡ Some Hop
  hop_asked piece is = hop_only (has_ended signs e u) (hand_at e u) (told_of signs e u) piece is

  none_only : (over : Bool) (hand : Hand Piece) (w : Work) → answer over hand None ≡ Ready w → ⊥
  none_only true hand w is = cc
  none_only false hand w is = cc

  pub not_none : (w : Work) → told_of signs e u ≡ None → asked signs e u ≡ Ready w → ⊥
  not_none w is asks = none_only (has_ended signs e u) (hand_at e u) w (sym (ap (answer (has_ended signs e u) (hand_at e u)) is) ∙ asks)

  pub not_turn : (turn : OwnMove) (row : Row) → told_of signs e u ≡ Some (Turn turn) → (row_of_turn turn ≡ row → ⊥) → asked signs e u ≡ Ready (work.Turn row) → ⊥
  not_turn turn row is other asks = let same : Ready (work.Turn (row_of_turn turn)) ≡ Ready (work.Turn row) = sym (asked_by (Turn turn) is) ∙ asks in other (cc)

  pub asks_piece : (k : ℕ) (piece : Piece) → told_of signs e u ≡ Some Hop → hand_at e u ≡ Running k piece → asked signs e u ≡ Ready (work.Hop piece)
  asks_piece k piece is holds = asked_by Hop is ∙ ap (λ (h : Hand Piece). Ready (work_of_move Hop h)) holds
