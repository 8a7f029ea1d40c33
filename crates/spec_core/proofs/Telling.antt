-- The moves of a table's actors, as they are told.
use Rattle.std.proofs.Common.{◌≡◌, ℕ, suc, ◌+◌, ◌<◌, ◌≤◌, Bool, true, false, ◌&&◌, not, is_some, if◌then◌else◌, nat_lt, nat_le, ◌==◌, Option, Some, None, List, [], ◌∷◌, length, refl, sym, ap, ◌∙◌, subst, arith}
use Rattle.std.proofs.lemmas.Bool.{and_parts, eqb-true, eq-eqb, lt-ltb, le-ltb}
use Rattle.std.proofs.lemmas.List.{get_or_past}
use Rattle.std.specs.Option.{option_map}
use Rattle.std.specs.List.{list_all, list_any}
use Rattle.nest_syntax.specs.Among.{Each}
use Rattle.nest_syntax.specs.declared.place.Place.{Place}
use Rattle.progress_board.specs.declared.facts.RollCause.{RollCause}
use Rattle.task_frame.specs.declared.piece.Piece.{Piece}
use Rattle.sched_cursor.specs.Cursor.{Cursor}
use Rattle.spec_machine.specs.Facts.{Abort}
use Rattle.spec_machine.specs.Machine.{Setup, Seat, Hand, Idle, Empty, Running, Stopped, seat_at, fresh_seat}
use Rattle.spec_machine.specs.Machine as machine
use Rattle.spec_setup.specs.Signs.{Signs}
use Rattle.spec_setup.specs.Setups.{Invoked}
use Rattle.spec_core.specs.declared.plan.Plan.{Plan}
use Rattle.spec_core.specs.declared.table.Table.{Table}
use Rattle.spec_core.specs.declared.stage.Stage.TheVariants as stage
use Rattle.spec_core.specs.declared.moves.Move.{Move as Told}
use Rattle.spec_core.specs.declared.moves.Move.TheVariants.{Turn}
use Rattle.spec_core.specs.declared.moves.Turn.{Turn as OwnMove}
use Rattle.spec_core.specs.declared.moves.Turn.TheVariants as turn
use Rattle.spec_core.specs.Moves.{told}
use Rattle.spec_core.specs.Hands.{Bench, bench_at}
use Rattle.spec_core.specs.Reports.{abort_in}
use Rattle.spec_core.specs.Blocks.{has_below_in}
use Rattle.spec_core.specs.Stages.{stage_of, standing_move, empty_move, early_turn}
use Rattle.spec_core.specs.Engine.{Stand, told_in}
use Rattle.spec_core.specs.Tables.{state_of, setup_by, IsSound}
use Rattle.spec_core.proofs.Seating.{many, all_hands, any_hands, all_done, seats_there}
use Rattle.spec_core.proofs.Blocks.{many_epochs, has_below_is}
use Rattle.spec_core.proofs.Choosing.{map-if, stands, is_empty, begins, early_told}

-- what a stage says of the hand
pub is_idle : (h : Hand Piece) → stage_of h ≡ stage.Idle → h ≡ Idle
is_idle Idle is = refl
is_idle Empty is = absurd (cc)
is_idle (Running k p) is = absurd (cc)
is_idle Stopped is = absurd (cc)

pub is_empty_hand : (h : Hand Piece) → stage_of h ≡ stage.Empty → h ≡ Empty
is_empty_hand Idle is = absurd (cc)
is_empty_hand Empty is = refl
is_empty_hand (Running k p) is = absurd (cc)
is_empty_hand Stopped is = absurd (cc)

pub is_standing : (h : Hand Piece) (k : ℕ) → stage_of h ≡ stage.Standing k → (p : Piece) × (h ≡ Running k p)
is_standing Idle k is = absurd (cc)
is_standing Empty k is = absurd (cc)
is_standing (Running j p) k is = let same : j ≡ k = cc in (p, ap (λ n. Running n p) same)
is_standing Stopped k is = absurd (cc)

pub is_stopped_hand : (h : Hand Piece) → stage_of h ≡ stage.Stopped → h ≡ Stopped
is_stopped_hand Idle is = absurd (cc)
is_stopped_hand Empty is = absurd (cc)
is_stopped_hand (Running k p) is = absurd (cc)
is_stopped_hand Stopped is = refl

module _ {G : Type 0} (s : Signs G) (sizes_in : G → List ℕ) (plan : Plan) (old : Table G) (sound : IsSound sizes_in plan old) where
  abbrev m : Setup Invoked Cursor Piece G
  m = setup_by s plan

  abbrev st : Stand G
  st = state_of old

  abbrev near : ℕ → Option Told
  near e = if nat_lt e (length old.desk.epochs) && list_all (λ (b : Bench G). nat_le e (b.done + old.distance)) old.seats.items then Some (Turn turn.Begin) else None

  begin_told : (e u : ℕ) → option_map (told {B = Invoked} {C = Cursor} {P = Piece} Idle) (machine.begin_move m st e u) ≡ near e
  begin_told e u = begins m st old.seen.items old.seats.items old.desk.epochs refl refl e u

  -- an idle worker
  pub idle_free : (e u : ℕ) → old.trap ≡ None → near e ≡ option_map (told {B = Invoked} {C = Cursor} {P = Piece} Idle) (machine.idle_move m st old.trap e u)
  idle_free e u none = sym (ap (λ t. option_map (told {B = Invoked} {C = Cursor} {P = Piece} Idle) (machine.idle_move m st t e u)) none ∙ begin_told e u)

  idle_by : (e u : ℕ) (trap : Place) (t : Bool) → t ≡ has_below_in plan.options.workers old.desk.epochs e u trap.number → old.trap ≡ Some trap
      → option_map (told {B = Invoked} {C = Cursor} {P = Piece} Idle) (machine.idle_move m st old.trap e u) ≡ (if t then near e else Some (Turn turn.Stop))
  idle_by e u trap t below is =
      ap (λ o. option_map (told {B = Invoked} {C = Cursor} {P = Piece} Idle) (machine.idle_move m st o e u)) is
      ∙ map-if (told Idle) (machine.has_below m st.epochs e u trap.number) (machine.begin_move m st e u) (Some machine.DoStop)
      ∙ ap (λ b. if b then option_map (told {B = Invoked} {C = Cursor} {P = Piece} Idle) (machine.begin_move m st e u) else Some (Turn turn.Stop)) (sym (below ∙ has_below_is s plan old.desk.epochs sound.desk.epochs e u trap.number))
      ∙ ap (λ o. if t then o else Some (Turn turn.Stop)) (begin_told e u)

  pub idle_on : (e u : ℕ) (trap : Place) (t : Bool) → t ≡ has_below_in plan.options.workers old.desk.epochs e u trap.number → t ≡ true → old.trap ≡ Some trap → near e ≡ option_map (told {B = Invoked} {C = Cursor} {P = Piece} Idle) (machine.idle_move m st old.trap e u)
  idle_on e u trap t below some is = sym (idle_by e u trap t below is ∙ ap (λ b. if b then near e else Some (Turn turn.Stop)) some)

  pub idle_off : (e u : ℕ) (trap : Place) (t : Bool) → t ≡ has_below_in plan.options.workers old.desk.epochs e u trap.number → t ≡ false → old.trap ≡ Some trap → Some (Turn turn.Stop) ≡ option_map (told {B = Invoked} {C = Cursor} {P = Piece} Idle) (machine.idle_move m st old.trap e u)
  idle_off e u trap t below none is = sym (idle_by e u trap t below is ∙ ap (λ b. if b then near e else Some (Turn turn.Stop)) none)

  -- a worker
  module _ (u : ℕ) (own : u < length old.seats.items) where
    abbrev bench : Bench G
    bench = bench_at old.seats.items u

    abbrev Moves : Option Told → Type 0
    Moves r = r ≡ option_map (told {B = Invoked} {C = Cursor} {P = Piece} bench.hand) (machine.worker_move m st st.abort u)

    hand_is : (seat_at st.seats u).hand ≡ bench.hand
    hand_is = ap (λ (x : Seat Piece G). x.hand) (seats_there old.seen.items old.seats.items u own)

    done_is : (seat_at st.seats u).done ≡ bench.done
    done_is = ap (λ (x : Seat Piece G). x.done) (seats_there old.seen.items old.seats.items u own)

    pub gives_up : is_some old.abort ≡ true → Moves (if machine.is_running bench.hand then Some (Turn turn.LetGo) else None)
    gives_up some = sym (by old.abort some)
      where
        by : (o : Option RollCause) → is_some o ≡ true → option_map (told {B = Invoked} {C = Cursor} {P = Piece} bench.hand) (machine.worker_move m st (option_map abort_in o) u) ≡ (if machine.is_running bench.hand then Some (Turn turn.LetGo) else None)
        by None none = absurd (let no_one : false ≡ true = none in cc)
        by (Some cause) some = ap (λ h. option_map (told {B = Invoked} {C = Cursor} {P = Piece} bench.hand) (if machine.is_running h then Some machine.DoLetGo else None)) hand_is ∙ map-if (told bench.hand) (machine.is_running bench.hand) (Some machine.DoLetGo) None

    holds : (h : Hand Piece) → is_some old.abort ≡ false → bench.hand ≡ h → option_map (told {B = Invoked} {C = Cursor} {P = Piece} bench.hand) (machine.worker_move m st st.abort u) ≡ option_map (told {B = Invoked} {C = Cursor} {P = Piece} h) (machine.hand_move m st h bench.done u)
    holds h calm held = by old.abort calm
      where
        by : (o : Option RollCause) → is_some o ≡ false → option_map (told {B = Invoked} {C = Cursor} {P = Piece} bench.hand) (machine.worker_move m st (option_map abort_in o) u) ≡ option_map (told {B = Invoked} {C = Cursor} {P = Piece} h) (machine.hand_move m st h bench.done u)
        by None none = λ i. option_map (told {B = Invoked} {C = Cursor} {P = Piece} (held i)) (machine.hand_move m st ((hand_is ∙ held) i) (done_is i) u)
        by (Some cause) some = absurd (let no_one : true ≡ false = some in cc)

    pub moves_idle : is_some old.abort ≡ false → bench.hand ≡ Idle → Moves (option_map (told {B = Invoked} {C = Cursor} {P = Piece} Idle) (machine.idle_move m st old.trap bench.done u))
    moves_idle calm held = sym (holds Idle calm held)

    pub moves_empty : is_some old.abort ≡ false → bench.hand ≡ Empty → Moves (Some (empty_move old.trap))
    moves_empty calm held = sym (holds Empty calm held ∙ ap Some (is_empty m st old.trap))

    pub moves_standing : is_some old.abort ≡ false → (k : ℕ) (p : Piece) → bench.hand ≡ Running k p → Moves (Some (standing_move old.trap k))
    moves_standing calm k p held = sym (holds (Running k p) calm held ∙ ap Some (stands m st old.trap bench.done u k p))

    pub moves_stopped : is_some old.abort ≡ false → bench.hand ≡ Stopped → Moves None
    moves_stopped calm held = sym (holds Stopped calm held)

  -- the scheduler
  abbrev Schedules : Option Told → Type 0
  Schedules r = r ≡ option_map (told {B = Invoked} {C = Cursor} {P = Piece} Idle) (machine.scheduler_move m st st.abort)

  pub restores : (t : Bool) → t ≡ list_any (λ (b : Bench G). machine.is_running b.hand) old.seats.items → is_some old.abort ≡ true → Schedules (if not t then Some (Turn turn.Restore) else None)
  restores t is some = sym (by old.abort some)
    where
      no_one : (b : Bool) (cause : Abort) → option_map (told {B = Invoked} {C = Cursor} {P = Piece} Idle) (if b then None else Some (machine.DoRestore cause)) ≡ (if not b then Some (Turn turn.Restore) else None)
      no_one true cause = refl
      no_one false cause = refl

      by : (o : Option RollCause) → is_some o ≡ true → option_map (told {B = Invoked} {C = Cursor} {P = Piece} Idle) (machine.scheduler_move m st (option_map abort_in o)) ≡ (if not t then Some (Turn turn.Restore) else None)
      by None none = absurd (let absent : false ≡ true = none in cc)
      by (Some cause) some =
          no_one (list_any (λ (x : Seat Piece G). machine.is_running x.hand) st.seats) (abort_in cause)
          ∙ ap (λ b. if not b then Some (Turn turn.Restore) else None) (any_hands (length old.seats.items) old.seen.items machine.is_running 0 old.seats.items ∙ sym is)

  calm_is : is_some old.abort ≡ false → option_map (told {B = Invoked} {C = Cursor} {P = Piece} Idle) (machine.scheduler_move m st st.abort) ≡ option_map (told {B = Invoked} {C = Cursor} {P = Piece} Idle) (machine.trap_move m st old.trap)
  calm_is calm = by old.abort calm
    where
      by : (o : Option RollCause) → is_some o ≡ false → option_map (told {B = Invoked} {C = Cursor} {P = Piece} Idle) (machine.scheduler_move m st (option_map abort_in o)) ≡ option_map (told {B = Invoked} {C = Cursor} {P = Piece} Idle) (machine.trap_move m st old.trap)
      by None none = refl
      by (Some cause) some = absurd (let absent : true ≡ false = some in cc)

  pub concludes : (t : Bool) → t ≡ list_all (λ (b : Bench G). machine.is_stopped b.hand) old.seats.items → is_some old.abort ≡ false → is_some old.trap ≡ true → Schedules (if t then Some (Turn turn.Conclude) else None)
  concludes t is calm some = sym (calm_is calm ∙ by old.trap some)
    where
      by : (o : Option Place) → is_some o ≡ true → option_map (told {B = Invoked} {C = Cursor} {P = Piece} Idle) (machine.trap_move m st o) ≡ (if t then Some (Turn turn.Conclude) else None)
      by None none = absurd (let absent : false ≡ true = none in cc)
      by (Some trap) some =
          map-if (told Idle) (list_all (λ (x : Seat Piece G). machine.is_stopped x.hand) st.seats) (Some machine.DoConclude) None
          ∙ ap (λ b. if b then Some (Turn turn.Conclude) else None) (all_hands (length old.seats.items) old.seen.items machine.is_stopped 0 old.seats.items ∙ sym is)

  untrapped_is : is_some old.abort ≡ false → is_some old.trap ≡ false → option_map (told {B = Invoked} {C = Cursor} {P = Piece} Idle) (machine.scheduler_move m st st.abort) ≡ option_map (told {B = Invoked} {C = Cursor} {P = Piece} Idle) (machine.sealed_move m st old.desk.sealed)
  untrapped_is calm free = calm_is calm ∙ by old.trap free
    where
      by : (o : Option Place) → is_some o ≡ false → option_map (told {B = Invoked} {C = Cursor} {P = Piece} Idle) (machine.trap_move m st o) ≡ option_map (told {B = Invoked} {C = Cursor} {P = Piece} Idle) (machine.sealed_move m st old.desk.sealed)
      by None none = refl
      by (Some trap) some = absurd (let absent : true ≡ false = some in cc)

  pub commits : (t : Bool) → t ≡ machine.is_ready m st → is_some old.abort ≡ false → is_some old.trap ≡ false → old.desk.sealed ≡ true → Schedules (if t then Some (Turn turn.Commit) else None)
  commits t is calm free shut =
      sym (untrapped_is calm free ∙ ap (λ b. option_map (told {B = Invoked} {C = Cursor} {P = Piece} Idle) (machine.sealed_move m st b)) shut ∙ map-if (told Idle) (machine.is_ready m st) (Some machine.DoCommit) None ∙ ap (λ b. if b then Some (Turn turn.Commit) else None) (sym is))

  pub goes_on : (own : OwnMove) → own ≡ early_turn plan.options.segment (length old.desk.epochs) (m.event st.cursor) old.desk.early → is_some old.abort ≡ false → is_some old.trap ≡ false → old.desk.sealed ≡ false → Schedules (Some (Turn own))
  goes_on own is calm free open_still =
      sym (untrapped_is calm free ∙ ap (λ b. option_map (told {B = Invoked} {C = Cursor} {P = Piece} Idle) (machine.sealed_move m st b)) open_still ∙ ap Some (early_told m st old.desk.early)
      ∙ ap (λ n. Some (Turn (early_turn plan.options.segment n (m.event st.cursor) old.desk.early))) (many_epochs old.desk.epochs) ∙ ap (λ o. Some (Turn o)) (sym is))

  -- whether a segment is ready
  pub each_done : (epochs : ℕ) (benches : List (Bench G)) → list_all (λ (b : Bench G). b.done == epochs) benches ≡ true → Each (λ (b : Bench G). b.done ≡ epochs) benches
  each_done epochs [] all = tt
  each_done epochs (b ∷ benches) all = let both = and_parts (b.done == epochs) (list_all (λ (x : Bench G). x.done == epochs) benches) all in (eqb-true b.done epochs both.0, each_done epochs benches both.1)

  pub all_done_is : (epochs : ℕ) → epochs ≡ length old.desk.epochs → list_all (λ (b : Bench G). b.done == epochs) old.seats.items ≡ list_all (λ (x : Seat Piece G). x.done == length st.epochs) st.seats
  all_done_is epochs is =
      sym (all_done (length old.seats.items) old.seen.items (λ n. n == epochs) 0 old.seats.items) ∙ ap (λ e. list_all (λ (x : Seat Piece G). x.done == e) st.seats) (is ∙ sym (many_epochs old.desk.epochs))

  -- what no worker holds
  pub no_hand : (actor : ℕ) → length old.seats.items ≤ actor → (seat_at st.seats actor).hand ≡ Idle
  no_hand actor past = ap (λ (x : Seat Piece G). x.hand) (get_or_past st.seats actor fresh_seat (let e : length st.seats ≡ length old.seats.items = many (length old.seats.items) old.seen.items 0 old.seats.items in omega (arith, e, past)))

  pub ready_on : (epochs : ℕ) → epochs ≡ length old.desk.epochs → (t : Bool) → list_all (λ (b : Bench G). b.done == epochs) old.seats.items ≡ true → t ≡ not (list_any (machine.is_open st.seats st.passed) (machine.pairs plan.options.workers (length old.desk.epochs))) → t ≡ machine.is_ready m st
  ready_on epochs is t all passed =
      passed ∙ ap (λ n. not (list_any (machine.is_open st.seats st.passed) (machine.pairs plan.options.workers n))) (sym (many_epochs old.desk.epochs))
      ∙ ap (λ b. b && not (list_any (machine.is_open st.seats st.passed) (machine.pairs plan.options.workers (length st.epochs)))) (sym (sym (all_done_is epochs is) ∙ all))

  pub ready_off : (epochs : ℕ) → epochs ≡ length old.desk.epochs → (t : Bool) → t ≡ list_all (λ (b : Bench G). b.done == epochs) old.seats.items → t ≡ false → t ≡ machine.is_ready m st
  ready_off epochs is t all none = none ∙ ap (λ b. b && not (list_any (machine.is_open st.seats st.passed) (machine.pairs plan.options.workers (length st.epochs)))) (sym (sym (all_done_is epochs is) ∙ sym all ∙ none))

  -- by the number of the actor
  pub tells_worker : (u : ℕ) (own : u < length old.seats.items) (r : Option Told) → old.concluded ≡ false → r ≡ option_map (told {B = Invoked} {C = Cursor} {P = Piece} (bench_at old.seats.items u).hand) (machine.worker_move m st st.abort u) → r ≡ told_in m st u
  tells_worker u own r going is =
      is ∙ sym (ap (λ b. option_map (told {B = Invoked} {C = Cursor} {P = Piece} (seat_at st.seats u).hand) (if b then None else machine.going_move m st u)) going
      ∙ ap (λ b. option_map (told {B = Invoked} {C = Cursor} {P = Piece} (seat_at st.seats u).hand) (if b then machine.worker_move m st st.abort u else if u == m.width then machine.scheduler_move m st st.abort else if u == suc m.width then machine.checker_move m st st.abort st.trap else None)) (lt-ltb u m.width (subst (λ n. u < n) sound.seats own))
      ∙ ap (λ h. option_map (told {B = Invoked} {C = Cursor} {P = Piece} h) (machine.worker_move m st st.abort u)) (hand_is u own))

  pub tells_scheduler : (u : ℕ) (r : Option Told) → old.concluded ≡ false → u ≡ plan.options.workers → Schedules r → r ≡ told_in m st u
  tells_scheduler u r going same is =
      is ∙ sym (ap (λ b. option_map (told {B = Invoked} {C = Cursor} {P = Piece} (seat_at st.seats u).hand) (if b then None else machine.going_move m st u)) going
      ∙ ap (λ b. option_map (told {B = Invoked} {C = Cursor} {P = Piece} (seat_at st.seats u).hand) (if b then machine.worker_move m st st.abort u else if u == m.width then machine.scheduler_move m st st.abort else if u == suc m.width then machine.checker_move m st st.abort st.trap else None)) (le-ltb u m.width (omega (arith, same)))
      ∙ ap (λ b. option_map (told {B = Invoked} {C = Cursor} {P = Piece} (seat_at st.seats u).hand) (if b then machine.scheduler_move m st st.abort else if u == suc m.width then machine.checker_move m st st.abort st.trap else None)) (eq-eqb u m.width same)
      ∙ ap (λ h. option_map (told {B = Invoked} {C = Cursor} {P = Piece} h) (machine.scheduler_move m st st.abort)) (no_hand u (let n : length old.seats.items ≡ plan.options.workers = sound.seats in omega (arith, n, same))))
