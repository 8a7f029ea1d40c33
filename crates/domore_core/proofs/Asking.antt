-- What an actor is asked, and what is made of it.
use Rattle.std.proofs.Common.{◌≡◌, ℕ, ◌<◌, ◌≤◌, ◌^◌, Bool, true, false, is_some, Option, Some, None, IsSome, List, [], ◌∷◌, refl, sym, ap, ◌∙◌, subst, arith}
use Rattle.std.specs.Option.{option_map, option_map_or}
use Rattle.nest_syntax.specs.Arrays.{arrays_of, sizes_of}
use Rattle.sched_cursor.specs.declared.event.Iteration.{Iteration}
use Rattle.sched_cursor.specs.Cursor.{Cursor}
use Rattle.task_code.specs.Code.{Code}
use Rattle.task_hop.specs.declared.frame.Frame.{Frame}
use Rattle.task_frame.specs.declared.piece.Piece.{Piece}
use Rattle.task_frame.specs.Pieces.{reached}
use Rattle.task_frame.specs.Stops.{IsInside}
use Rattle.task_hop.specs.declared.stop.Stop.{Stop as Stopped}
use Rattle.task_hop.specs.declared.stop.Stop.TheVariants as stopped
use Rattle.settle_law.specs.Tasks.{Stop, Loads, Stores, Goes, Finishes, Traps}
use Rattle.progress_board.specs.declared.actors.Row.{Row}
use Rattle.progress_board.specs.declared.actors.Row.TheVariants as board
use Rattle.progress_board.specs.declared.actors.Made.{Made}
use Rattle.progress_board.specs.declared.actors.Work.{Work}
use Rattle.progress_board.specs.declared.actors.Ask.TheVariants.{Ready}
use Rattle.progress_board.specs.declared.actors.Work.TheVariants as work
use Rattle.domore_machine.specs.Waits.{Wait}
use Rattle.domore_machine.specs.Machine as machine
use Rattle.domore_machine.specs.Machine.{Seat, Hand, Idle, Holding, Ticket, DoScalar, DoClose, DoDrain, DoDispatch, DoHalt, DoTake, DoPass, DoRead, DoWrite, DoGo, DoFinish, DoTrap, DoDropHeld, DoDropQueued, DoEnd, seat_at}
use Rattle.domore_machine.proofs.Guards.{Guard, guarded}
use Rattle.nest_setup.specs.Pieces.{stop_of, stop_told}
use Rattle.domore_core.specs.declared.moves.Move.{Move as Told}
use Rattle.domore_core.specs.declared.moves.Move.TheVariants.{Turn, Hop}
use Rattle.domore_core.specs.declared.moves.Turn.{Turn as OwnMove}
use Rattle.domore_core.specs.Moves.{told, row_of_turn, row_of_stop}
use Rattle.domore_core.specs.Stages.{number_in, number_at}
use Rattle.nest_setup.specs.Ahead.{HandGoesOn}
use Rattle.domore_core.specs.Ahead.{GoesOn}
use Rattle.domore_core.specs.Engine.{Engine, Stand, Move, setup_in, move_of, made_by, made_of, number_of, row_of, has_ended, hand_at, answer, asked, work_of_move}
use Rattle.domore_core.specs.Laws.{hop_of, row_told}
use Rattle.domore_core.proofs.Applying.{told_move}

module _ (e : Engine) (u : ℕ) where
  -- asked by a move
  pub asked_by : (t : Told) → option_map told (move_of e u) ≡ Some t → asked e u ≡ Ready (work_of_move t (hand_at e u))
  asked_by t is = ap (answer (has_ended e u) (hand_at e u)) is

  -- a piece that is asked for is held
  pub record AsksHop : Type 0 where
    pub number : ℕ
    pub piece : Piece
    pub own : u < e.options.workers
    pub hand : hand_at e u ≡ Holding number [] piece
    pub asks : asked e u ≡ Ready (work.Hop piece)
    pub moves : move_of e u ≡ Some (machine.stop_move (setup_in e) number (stop_of (sizes_of (arrays_of e.job.program.decls)) e.code piece))

  pub asks_hop : option_map told (move_of e u) ≡ Some Hop → AsksHop
  asks_hop is =
      let there = told_move (setup_in e) e.state u Hop is in
      let held = hop_of e u there.move there.is there.told_so in
      record {
        number = held.number;
        piece = held.piece;
        own = held.own;
        hand = held.hand;
        asks = asked_by Hop is ∙ ap (λ (h : Hand Piece). Ready (work_of_move Hop h)) held.hand;
        moves = there.is ∙ ap Some held.made;
      }

  hop_only : (over : Bool) (hand : Hand Piece) (o : Option Told) (piece : Piece) → answer over hand o ≡ Ready (work.Hop piece) → o ≡ Some Hop
  hop_only over hand (Some (Turn turn)) piece is = absurd (cc)
  hop_only over hand (Some Hop) piece is = refl
  hop_only true hand None piece is = absurd (cc)
  hop_only false hand None piece is = absurd (cc)

  pub hop_asked : (piece : Piece) → asked e u ≡ Ready (work.Hop piece) → option_map told (move_of e u) ≡ Some Hop
  hop_asked piece is = hop_only (has_ended e u) (hand_at e u) (option_map told (move_of e u)) piece is

  none_only : (over : Bool) (hand : Hand Piece) (w : Work) → answer over hand None ≡ Ready w → ⊥
  none_only true hand w is = cc
  none_only false hand w is = cc

  -- a row isn't asked for where another is, or a piece, or nothing
  pub not_turn : (turn : OwnMove) (row : Row) → option_map told (move_of e u) ≡ Some (Turn turn) → (row_of_turn turn ≡ row → ⊥) → asked e u ≡ Ready (work.Turn row) → ⊥
  not_turn turn row is other asks = let same : Ready (work.Turn (row_of_turn turn)) ≡ Ready (work.Turn row) = sym (asked_by (Turn turn) is) ∙ asks in other (cc)

  pub not_hop : (row : Row) → option_map told (move_of e u) ≡ Some Hop → asked e u ≡ Ready (work.Turn row) → ⊥
  not_hop row is asks = let there = asks_hop is in let no : Ready (work.Hop there.piece) ≡ Ready (work.Turn row) = sym there.asks ∙ asks in cc

  pub not_none : (w : Work) → option_map told (move_of e u) ≡ None → asked e u ≡ Ready w → ⊥
  not_none w is asks = none_only (has_ended e u) (hand_at e u) w (sym (ap (answer (has_ended e u) (hand_at e u)) is) ∙ asks)

  pub not_piece : (turn : OwnMove) (piece : Piece) → option_map told (move_of e u) ≡ Some (Turn turn) → asked e u ≡ Ready (work.Hop piece) → ⊥
  not_piece turn piece is asks = let no : Ready (work.Turn (row_of_turn turn)) ≡ Ready (work.Hop piece) = sym (asked_by (Turn turn) is) ∙ asks in cc

  -- the number of a step
  abbrev seat : Seat Iteration Piece
  seat = seat_at e.state.seats u

  numbered : (hand : Hand Piece) (queue : List (Ticket Iteration)) → seat.hand ≡ hand → seat.queue ≡ queue → number_in hand queue ≡ number_at seat
  numbered hand queue h q = sym (ap (λ x. number_in x seat.queue) h ∙ ap (λ x. number_in hand x) q)

  held : (k : ℕ) (left : List Wait) (piece : Piece) → seat.hand ≡ Holding k left piece → k ≡ number_at seat
  held k left piece h = numbered (Holding k left piece) seat.queue h refl

  of_worker : (move : Move) → u < e.options.workers → Guard (setup_in e) e.state u move → number_of e.state move ≡ number_at seat
  of_worker (DoScalar purpose trap rest) own g = let same : u ≡ e.options.workers = g.0.actor in absurd (omega arith)
  of_worker (DoClose rest) own g = let same : u ≡ e.options.workers = g.0.actor in absurd (omega arith)
  of_worker (DoDrain purpose trap rest) own g = let same : u ≡ e.options.workers = g.2.actor in absurd (omega arith)
  of_worker (DoDispatch b rest) own g = let same : u ≡ e.options.workers = g.0.actor in absurd (omega arith)
  of_worker DoHalt own g = let same : u ≡ e.options.workers = g.0 in absurd (omega arith)
  of_worker (DoTake ticket queue) own g = numbered Idle (ticket ∷ queue) g.0.hand g.0.queued
  of_worker (DoPass k w left piece) own g = held k (w ∷ left) piece g.0.hand
  of_worker (DoRead k w next) own g = held k [] g.0 g.1.hand
  of_worker (DoWrite k w value next) own g = held k [] g.0 g.1.hand
  of_worker (DoGo k next) own g = held k [] g.0 g.1.hand
  of_worker (DoFinish k) own g = held k [] g.0 g.1.hand
  of_worker (DoTrap k cause line) own g = held k [] g.0 g.1.hand
  of_worker (DoDropHeld k) own g = held k g.0 g.1 g.3
  of_worker (DoDropQueued ticket queue) own g = numbered Idle (ticket ∷ queue) g.0.hand g.0.queued
  of_worker DoEnd own g = numbered Idle [] g.0.hand g.0.queued

  of_scheduler : (move : Move) → e.options.workers ≤ u → Guard (setup_in e) e.state u move → number_of e.state move ≡ e.state.next
  of_scheduler (DoScalar purpose trap rest) past g = refl
  of_scheduler (DoClose rest) past g = refl
  of_scheduler (DoDrain purpose trap rest) past g = refl
  of_scheduler (DoDispatch b rest) past g = refl
  of_scheduler DoHalt past g = refl
  of_scheduler (DoTake ticket queue) past g = let own : u < e.options.workers = g.0.own in absurd (omega arith)
  of_scheduler (DoPass k w left piece) past g = let own : u < e.options.workers = g.0.own in absurd (omega arith)
  of_scheduler (DoRead k w next) past g = let own : u < e.options.workers = g.1.own in absurd (omega arith)
  of_scheduler (DoWrite k w value next) past g = let own : u < e.options.workers = g.1.own in absurd (omega arith)
  of_scheduler (DoGo k next) past g = let own : u < e.options.workers = g.1.own in absurd (omega arith)
  of_scheduler (DoFinish k) past g = let own : u < e.options.workers = g.1.own in absurd (omega arith)
  of_scheduler (DoTrap k cause line) past g = let own : u < e.options.workers = g.1.own in absurd (omega arith)
  of_scheduler (DoDropHeld k) past g = let own : u < e.options.workers = g.2 in absurd (omega arith)
  of_scheduler (DoDropQueued ticket queue) past g = let own : u < e.options.workers = g.0.own in absurd (omega arith)
  of_scheduler DoEnd past g = let own : u < e.options.workers = g.0.own in absurd (omega arith)

  made_is : (o : Option Move) (n : ℕ) → is_some o ≡ true → ((move : Move) → o ≡ Some move → number_of e.state move ≡ n) → (option_map_or (made_of e) o (let none : Made = record { row = board.End; number = 0 } in none)).number ≡ n
  made_is None n some each = absurd (cc)
  made_is (Some move) n some each = each move refl

  pub number-worker : u < e.options.workers → IsSome (move_of e u) → (made_by e u).number ≡ number_at seat
  number-worker own some = made_is (move_of e u) (number_at seat) some (λ move is. of_worker move own (guarded (setup_in e) e.state u move is))

  pub number-scheduler : e.options.workers ≤ u → IsSome (move_of e u) → (made_by e u).number ≡ e.state.next
  number-scheduler past some = made_is (move_of e u) e.state.next some (λ move is. of_scheduler move past (guarded (setup_in e) e.state u move is))

  -- what is made: its row and its number
  made_as : (o : Option Move) (row : Row) (n : ℕ) → ((move : Move) → o ≡ Some move → row_of move ≡ row) → is_some o ≡ true → (option_map_or (made_of e) o (let none : Made = record { row = board.End; number = 0 } in none)).number ≡ n → (let m : Made = record { row = row; number = n } in m) ≡ option_map_or (made_of e) o (let none : Made = record { row = board.End; number = 0 } in none)
  made_as None row n each some number = absurd (cc)
  made_as (Some move) row n each some number =
      ap (λ (r : Row). let m : Made = record { row = r; number = n } in m) (sym (each move refl)) ∙ ap (λ (k : ℕ). let m : Made = record { row = row_of move; number = k } in m) (sym number)

  told_some : (o : Option Move) (t : Told) → option_map told o ≡ Some t → is_some o ≡ true
  told_some None t is = absurd (let no : None ≡ Some t = is in cc)
  told_some (Some move) t is = refl

  pub some_move : (t : Told) → option_map told (move_of e u) ≡ Some t → IsSome (move_of e u)
  some_move t is = told_some (move_of e u) t is

  told_of : (o : Option Move) (t : Told) → option_map told o ≡ Some t → (move : Move) → o ≡ Some move → told move ≡ t
  told_of o t is move same = let all : Some (told move) ≡ Some t = ap (option_map told) (sym same) ∙ is in cc

  pub made_turn : (turn : OwnMove) (row : Row) (n : ℕ) → option_map told (move_of e u) ≡ Some (Turn turn) → row_of_turn turn ≡ row → (made_by e u).number ≡ n → (let m : Made = record { row = row; number = n } in m) ≡ made_by e u
  made_turn turn row n is same number = made_as (move_of e u) row n (λ move here. row_told move turn (told_of (move_of e u) (Turn turn) is move here) ∙ same) (some_move (Turn turn) is) number

  stop_row : (sizes : List ℕ) (code : Code) (frame : Frame) (k : ℕ) (m : machine.Setup Iteration Cursor Piece) (stop : Stopped) → row_of (machine.stop_move m k (stop_told sizes code frame stop)) ≡ row_of_stop stop
  stop_row sizes code frame k m (stopped.Load array place into next) = refl
  stop_row sizes code frame k m (stopped.Store array place value next) = refl
  stop_row sizes code frame k m (stopped.Go next) = refl
  stop_row sizes code frame k m stopped.Finish = refl
  stop_row sizes code frame k m (stopped.Trap cause line) = refl

  pub made_hop : (piece : Piece) (n : ℕ) → asked e u ≡ Ready (work.Hop piece) → (made_by e u).number ≡ n → (let m : Made = record { row = row_of_stop (reached piece).stop; number = n } in m) ≡ made_by e u
  made_hop piece n asks number =
      let is = hop_asked piece asks in
      let there = asks_hop is in
      let sizes = sizes_of (arrays_of e.job.program.decls) in
      let same : there.piece ≡ piece = (let both : Ready (work.Hop there.piece) ≡ Ready (work.Hop piece) = sym there.asks ∙ asks in cc) in
      made_as (move_of e u) (row_of_stop (reached piece).stop) n
      (λ move here. (let moved : move ≡ machine.stop_move (setup_in e) there.number (stop_of sizes e.code there.piece) = (let both : Some move ≡ Some (machine.stop_move (setup_in e) there.number (stop_of sizes e.code there.piece)) = sym here ∙ there.moves in cc) in
      ap row_of moved ∙ stop_row sizes e.code (reached there.piece).frame there.number (setup_in e) (reached there.piece).stop ∙ ap (λ (p : Piece). row_of_stop (reached p).stop) same))
      (some_move Hop is) number

  -- a worker's step at a stop
  stop_after : (k : ℕ) (stop : Stop Piece) → machine.state_after (setup_in e) e.state u (machine.stop_move (setup_in e) k stop) ≡ machine.worker_after (setup_in e) e.state u (machine.stop_move (setup_in e) k stop)
  stop_after k (Loads w next) = refl
  stop_after k (Stores w value next) = refl
  stop_after k (Goes next) = refl
  stop_after k Finishes = refl
  stop_after k (Traps cause line) = refl

  -- the iteration that stands at a piece that is asked for
  pub record StandsAt (piece : Piece) : Type 0 where
    pub number : ℕ
    pub own : u < e.options.workers
    pub hand : hand_at e u ≡ Holding number [] piece
    pub moves : move_of e u ≡ Some (machine.stop_move (setup_in e) number (stop_of (sizes_of (arrays_of e.job.program.decls)) e.code piece))

  pub stands_at : (piece : Piece) → asked e u ≡ Ready (work.Hop piece) → StandsAt piece
  stands_at piece asks =
      let there = asks_hop (hop_asked piece asks) in
      let same : there.piece ≡ piece = (let both : Ready (work.Hop there.piece) ≡ Ready (work.Hop piece) = sym there.asks ∙ asks in cc) in
      subst StandsAt same (record { number = there.number; own = there.own; hand = there.hand; moves = there.moves })

  pub hop_steps : (piece : Piece) (new : Stand) → asked e u ≡ Ready (work.Hop piece)
      → ((k : ℕ) → hand_at e u ≡ Holding k [] piece → new ≡ machine.worker_after (setup_in e) e.state u (machine.stop_move (setup_in e) k (stop_of (sizes_of (arrays_of e.job.program.decls)) e.code piece)))
      → machine.step (setup_in e) e.state u ≡ Some new
  hop_steps piece new asks after =
      let there = stands_at piece asks in
      let stop = stop_of (sizes_of (arrays_of e.job.program.decls)) e.code piece in
      ap (option_map (machine.state_after (setup_in e) e.state u)) there.moves ∙ ap Some (stop_after there.number stop ∙ sym (after there.number there.hand))

  -- what is held goes on
  goes_with : (sizes : List ℕ) (hand : Hand Piece) (k : ℕ) (left : List Wait) (piece : Piece) → hand ≡ Holding k left piece → HandGoesOn sizes hand → IsInside sizes (reached piece).stop × (k < 2 ^ 63)
  goes_with sizes hand k left piece is goes = subst (HandGoesOn sizes) is goes

  pub held_goes : GoesOn e → (k : ℕ) (left : List Wait) (piece : Piece) → hand_at e u ≡ Holding k left piece → IsInside (sizes_of (arrays_of e.job.program.decls)) (reached piece).stop × (k < 2 ^ 63)
  held_goes goes k left piece is = goes_with (sizes_of (arrays_of e.job.program.decls)) (hand_at e u) k left piece is (goes.seats u).hand
