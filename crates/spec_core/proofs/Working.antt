-- What an engine makes of a move.
use Rattle.std.proofs.Common.{◌≡◌, ℕ, zero, suc, ◌<◌, ◌≤◌, Bool, true, false, if◌then◌else◌, nat_lt, Some, None, List, length, refl, sym, ap, ◌∙◌, subst, arith}
use Rattle.std.specs.Option.{option_map, option_map_or}
use Rattle.std.proofs.lemmas.Bool.{lt-ltb}
use Rattle.task_hop.specs.declared.frame.Frame.{Frame}
use Rattle.task_hop.specs.declared.stop.Stop.{Stop}
use Rattle.task_hop.specs.declared.stop.Stop.TheVariants as stop
use Rattle.task_frame.specs.declared.piece.Piece.{Piece}
use Rattle.task_frame.specs.Pieces.{reached}
use Rattle.nest_setup.specs.Pieces.{stop_told, stop_of}
use Rattle.sched_cursor.specs.Cursor.{Cursor}
use Rattle.progress_board.specs.declared.actors.Row.{Row}
use Rattle.progress_board.specs.declared.actors.Row.TheVariants as board
use Rattle.progress_board.specs.declared.actors.Made.{Made}
use Rattle.progress_board.specs.declared.actors.Work.TheVariants as work
use Rattle.progress_board.specs.declared.actors.Ask.TheVariants.{Ready}
use Rattle.spec_machine.specs.Facts.{Pair}
use Rattle.spec_machine.specs.Rows as rows
use Rattle.spec_machine.specs.Machine as machine
use Rattle.spec_machine.specs.Machine.{Setup, Seat, Hand, Running, seat_at, done_at, to, DoCheck, DoAbort}
use Rattle.spec_machine.specs.Table.{Enabled}
use Rattle.spec_setup.specs.Signs.{Signs}
use Rattle.spec_setup.specs.Setups.{Invoked}
use Rattle.spec_core.specs.declared.plan.Plan.{Plan}
use Rattle.spec_core.specs.declared.table.Table.{Table}
use Rattle.spec_core.specs.declared.moves.Move.TheVariants.{Turn, Hop}
use Rattle.spec_core.specs.declared.moves.Turn.{Turn as OwnMove}
use Rattle.spec_core.specs.declared.moves.Turn.TheVariants as turn
use Rattle.spec_core.specs.Moves.{told, row_of_turn}
use Rattle.spec_core.specs.Hands.{Bench, bench_at}
use Rattle.spec_core.specs.Engine.{Engine, Stand, Move, told_in, asked, made_by, made_of, number_by, number_of, board_row, row_at, check_made}
use Rattle.spec_core.specs.Tables.{state_of, setup_by, sizes_by, GoesOn}
use Rattle.spec_core.specs.Kept.{engine_of, IsKept}
use Rattle.spec_core.proofs.Seating.{many, seats_there}
use Rattle.spec_core.proofs.Blocks.{many_epochs}
use Rattle.spec_core.proofs.Applying.{calm_is, finish_is, told_move}
use Rattle.spec_core.proofs.Asking.{hopping, stop_after, hop_asked, asks_piece}

-- the number of a step that isn't the checker's
pub number_there : {G : Type 0} (plan : Plan) (table : Table G) (u done : ℕ) → length table.seats.items ≡ plan.options.workers → u < plan.options.workers → done ≡ (bench_at table.seats.items u).done → done ≡ number_by (state_of table) plan.options.workers u
number_there {G} plan table u done many own is =
    is ∙ sym (ap (λ b. if b then done_at (state_of table).seats u else length (state_of table).epochs) (lt-ltb u plan.options.workers own)
    ∙ ap (λ (x : Seat Piece G). x.done) (seats_there table.seen.items table.seats.items u (subst (λ n. u < n) (sym many) own)))

module _ {G : Type 0} (s : Signs G) (sizes_in : G → List ℕ) (plan : Plan) (table : Table G) (kept : IsKept s sizes_in plan table) (u : ℕ) where
  abbrev m : Setup Invoked Cursor Piece G
  m = setup_by s plan

  abbrev st : Stand G
  st = state_of table

  abbrev e : Engine G
  e = engine_of plan table

  abbrev bench : Bench G
  bench = bench_at table.seats.items u

  width : length st.seats ≡ m.width
  width = many (length table.seats.items) table.seen.items 0 table.seats.items ∙ kept.sound.seats

  room : length st.epochs ≤ m.room
  room = let is : length st.epochs ≡ length table.desk.epochs = many_epochs table.desk.epochs in omega (arith, is, kept.sound.desk.few)

  -- a worker that hops
  pub record HopAt (piece : Piece) : Type 0 where
    pub number : ℕ
    pub own : u < plan.options.workers
    pub calm : table.abort ≡ None
    pub bench_is : bench.hand ≡ Running number piece
    pub hand : (seat_at st.seats u).hand ≡ Running number piece
    pub moves : machine.move_of m st u ≡ Some (machine.stop_move m st bench.done u number (stop_of (sizes_by plan) plan.code piece))

  pub record Hops : Type 0 where
    pub piece : Piece
    pub there : HopAt piece

  pub hops : told_in m st u ≡ Some Hop → Hops
  hops is =
      let h = hopping m st u kept.plan_is.some_worker kept.plan_is.some_epoch width room is in
      let x = seats_there table.seen.items table.seats.items u (subst (λ n. u < n) (sym kept.sound.seats) h.own) in
      record {
        piece = h.piece;
        there = record {
          number = h.number;
          own = h.own;
          calm = calm_is table.abort h.calm;
          bench_is = sym (ap (λ (y : Seat Piece G). y.hand) x) ∙ h.holds;
          hand = h.holds;
          moves = h.moves ∙ ap (λ d. Some (machine.stop_move m st d u h.number (stop_of (sizes_by plan) plan.code h.piece))) (ap (λ (y : Seat Piece G). y.done) x);
        };
      }

  pub asks_hop : (h : Hops) → told_in m st u ≡ Some Hop → asked s e u ≡ Ready (work.Hop h.piece)
  asks_hop h is = asks_piece s e u h.there.number h.piece is h.there.hand

  pub hop_for : (piece : Piece) → asked s e u ≡ Ready (work.Hop piece) → HopAt piece
  hop_for piece asks =
      let is = hop_asked s e u piece asks in
      let h = hops is in
      let same : h.piece ≡ piece = (let both : Ready (work.Hop h.piece) ≡ Ready (work.Hop piece) = sym (asks_hop h is) ∙ asks in cc) in
      subst HopAt same h.there

  pub hop_steps : (piece : Piece) (h : HopAt piece) (new : Stand G) → new ≡ machine.worker_after m st u (machine.stop_move m st bench.done u h.number (stop_of (sizes_by plan) plan.code piece)) → machine.step m st u ≡ Some new
  hop_steps piece h new is =
      ap (option_map (machine.state_after m st u)) h.moves ∙ ap Some (stop_after m st u bench.done h.number (stop_of (sizes_by plan) plan.code piece) ∙ sym is)

  -- what is made at a stop
  stop_row : (stop : Stop) (frame : Frame) (d k : ℕ) → board_row (rows.row_of (machine.stop_move m st d u k (stop_told (sizes_by plan) plan.code frame stop))) ≡ row_at stop (nat_lt (suc k) (to m st.epochs d u))
  stop_row (stop.Load array place into next) frame d k = refl
  stop_row (stop.Store array place value next) frame d k = refl
  stop_row (stop.Go next) frame d k = refl
  stop_row stop.Finish frame d k = by (nat_lt (suc k) (to m st.epochs d u))
    where
      by : (t : Bool) → board_row (rows.row_of {B = Invoked} {C = Cursor} (if t then machine.DoNext (suc k) (machine.piece_at m st.epochs d (suc k)) else machine.DoFinish)) ≡ row_at stop.Finish t
      by true = refl
      by false = refl
  stop_row (stop.Trap cause line) frame d k = by st.distance
    where
      by : (distance : ℕ) → board_row (rows.row_of {B = Invoked} {C = Cursor} (machine.failing_move m distance k cause line)) ≡ row_at (stop.Trap cause line) (nat_lt (suc k) (to m st.epochs d u))
      by zero = refl
      by (suc distance) = refl

  stop_number : (stop : Stop) (frame : Frame) (d k : ℕ) → number_of st plan.options.workers u (machine.stop_move m st d u k (stop_told (sizes_by plan) plan.code frame stop)) ≡ number_by st plan.options.workers u
  stop_number (stop.Load array place into next) frame d k = refl
  stop_number (stop.Store array place value next) frame d k = refl
  stop_number (stop.Go next) frame d k = refl
  stop_number stop.Finish frame d k = by (nat_lt (suc k) (to m st.epochs d u))
    where
      by : (t : Bool) → number_of st plan.options.workers u (if t then machine.DoNext (suc k) (machine.piece_at m st.epochs d (suc k)) else machine.DoFinish) ≡ number_by st plan.options.workers u
      by true = refl
      by false = refl
  stop_number (stop.Trap cause line) frame d k = by st.distance
    where
      by : (distance : ℕ) → number_of st plan.options.workers u (machine.failing_move m distance k cause line) ≡ number_by st plan.options.workers u
      by zero = refl
      by (suc distance) = refl

  pub hop_made : (piece : Piece) (h : HopAt piece) (row : Row) (number : ℕ) → row ≡ row_at (reached piece).stop (nat_lt (suc h.number) (to m st.epochs bench.done u)) → number ≡ number_by st plan.options.workers u
      → (let made : Made = record { row = row; number = number } in made) ≡ made_by s e u
  hop_made piece h row number row_is number_is =
      (λ i. let made : Made = record { row = (row_is ∙ sym (stop_row (reached piece).stop (reached piece).frame bench.done h.number)) i; number = (number_is ∙ sym (stop_number (reached piece).stop (reached piece).frame bench.done h.number)) i } in made)
      ∙ sym (ap (λ o. option_map_or (made_of e u) o (record { row = board.Conclude; number = 0 })) h.moves)

  -- what a move makes that needs no work
  row_told : (hand : Hand Piece) (move : Move) (own : OwnMove) → told hand move ≡ Turn own → (own ≡ turn.Check → ⊥) → (row_of_turn own ≡ board_row (rows.row_of move)) × (number_of st plan.options.workers u move ≡ number_by st plan.options.workers u)
  row_told hand (machine.DoScalar p t r) own is other = let same : turn.Scalar ≡ own = cc in (ap row_of_turn (sym same), refl)
  row_told hand (machine.DoDrain p t r) own is other = let same : turn.Drain ≡ own = cc in (ap row_of_turn (sym same), refl)
  row_told hand (machine.DoOpen b n r) own is other = let same : turn.Open ≡ own = cc in (ap row_of_turn (sym same), refl)
  row_told hand machine.DoClose own is other = let same : turn.Close ≡ own = cc in (ap row_of_turn (sym same), refl)
  row_told hand machine.DoCommit own is other = let same : turn.Commit ≡ own = cc in (ap row_of_turn (sym same), refl)
  row_told hand (machine.DoRestore cause) own is other = let same : turn.Restore ≡ own = cc in (ap row_of_turn (sym same), refl)
  row_told hand machine.DoConclude own is other = let same : turn.Conclude ≡ own = cc in (ap row_of_turn (sym same), refl)
  row_told hand (machine.DoBegin first) own is other = let same : turn.Begin ≡ own = cc in (ap row_of_turn (sym same), refl)
  row_told hand (machine.DoRead k w n) own is other = absurd (cc)
  row_told hand (machine.DoWrite k w v n) own is other = absurd (cc)
  row_told hand (machine.DoGo k n) own is other = absurd (cc)
  row_told hand (machine.DoNext k p) own is other = absurd (cc)
  row_told hand machine.DoFinish own is other = let same : turn.Finish ≡ own = finish_is hand own is in (ap row_of_turn (sym same), refl)
  row_told hand machine.DoFail own is other = absurd (cc)
  row_told hand (machine.DoTrap k cause line) own is other = absurd (cc)
  row_told hand machine.DoLetGo own is other = let same : turn.LetGo ≡ own = cc in (ap row_of_turn (sym same), refl)
  row_told hand machine.DoStop own is other = let same : turn.Stop ≡ own = cc in (ap row_of_turn (sym same), refl)
  row_told hand (DoCheck p) own is other = absurd (other (let same : turn.Check ≡ own = cc in sym same))
  row_told hand (DoAbort p array) own is other = absurd (other (let same : turn.Check ≡ own = cc in sym same))

  module _ (goes : GoesOn m (sizes_by plan) st) where
    pub turn_made : (own : OwnMove) (row : Row) (number : ℕ) → told_in m st u ≡ Some (Turn own) → (own ≡ turn.Check → ⊥) → row ≡ row_of_turn own → number ≡ number_by st plan.options.workers u → (let made : Made = record { row = row; number = number } in made) ≡ made_by s e u
    turn_made own row number is other row_is number_is =
        let there = told_move s sizes_in plan table kept.plan_is kept.sound goes u (Turn own) is in
        let both = row_told (seat_at st.seats u).hand there.move own there.told_so other in
        (λ i. let made : Made = record { row = (row_is ∙ both.0) i; number = (number_is ∙ sym both.1) i } in made)
        ∙ sym (ap (λ o. option_map_or (made_of e u) o (record { row = board.Conclude; number = 0 })) there.is)

    pub check_is_made : (made : Made) → told_in m st u ≡ Some (Turn turn.Check) → ((p : Pair) → machine.due m.width st ≡ Some p → made ≡ check_made p (machine.overlap_of m st.seats p)) → made ≡ made_by s e u
    check_is_made made is checks =
        let there = told_move s sizes_in plan table kept.plan_is kept.sound goes u (Turn turn.Check) is in
        by there.move there.told_so there.guard ∙ sym (ap (λ o. option_map_or (made_of e u) o (record { row = board.Conclude; number = 0 })) there.is)
      where
        by : (move : Move) → told (seat_at st.seats u).hand move ≡ Turn turn.Check → Enabled m st u move → made ≡ made_of e u move
        by (DoCheck p) same g = checks p g.4 ∙ ap (check_made p) g.5
        by (DoAbort p array) same g = checks p g.4 ∙ ap (check_made p) g.5
        by machine.DoFinish same g = absurd (let no_one : turn.Finish ≡ turn.Check = finish_is (seat_at st.seats u).hand turn.Check same in cc)
        by _ same g = absurd (cc)
