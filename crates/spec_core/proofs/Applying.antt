-- What the method of each row needs, and that it leaves the state behind the move.
use Rattle.std.proofs.Common.{◌≡◌, ℕ, suc, ◌<◌, ◌≤◌, ◌⊎◌, ℤ, Bool, true, false, if◌then◌else◌, Option, Some, None, List, length, slice_get, refl, sym, ap, ◌∙◌, subst, inl, inr, arith}
use Rattle.std.specs.Option.{option_map}
use Rattle.std.specs.List.{list_any}
use Rattle.nest_syntax.specs.Arrays.{Array, arrays_of}
use Rattle.nest_syntax.specs.Value.{names_written}
use Rattle.nest_syntax.specs.Course.{Purpose}
use Rattle.settle_law.specs.Tasks.{Finishes}
use Rattle.settle_law.specs.Courses.{Trap}
use Rattle.progress_board.specs.declared.facts.RollCause.{RollCause}
use Rattle.task_frame.specs.declared.piece.Piece.{Piece}
use Rattle.sched_cursor.specs.declared.event.Event.TheVariants as kind
use Rattle.sched_cursor.specs.declared.node.Next.TheVariants as next
use Rattle.sched_cursor.specs.declared.node.Node.{Node}
use Rattle.sched_cursor.specs.declared.node.At.{At}
use Rattle.sched_cursor.specs.declared.node.At.TheVariants as at
use Rattle.sched_cursor.specs.Turning.{has_turn}
use Rattle.sched_cursor.specs.Steps.{exprs_of}
use Rattle.sched_cursor.specs.Cursor.{Cursor}
use Rattle.sched_cursor.specs.Events.{event_of, event_when, kind_found, purpose_at, purpose_found, after_at, handed_at, is_inside}
use Rattle.spec_machine.specs.Invocations.{Event, Scalar, Drain, Invoke, End}
use Rattle.spec_machine.specs.Facts.{Pair, Abort}
use Rattle.spec_machine.specs.Machine.{Setup, Seat, Hand, Idle, Empty, Running, Stopped, Move, DoScalar, DoDrain, DoOpen, DoClose, DoCommit, DoRestore, DoConclude, DoBegin, DoRead, DoWrite, DoGo, DoNext, DoFinish, DoFail, DoTrap, DoLetGo, DoStop, DoCheck, DoAbort, seat_at, done_at, first_hand, due, overlap_of, to, move_of, scalar_after, worker_after, state_after, step}
use Rattle.spec_machine.specs.Table.{IsWorking, IsAt, Enabled}
use Rattle.spec_machine.proofs.Guards.{enabled}
use Rattle.spec_setup.specs.Signs.{Signs}
use Rattle.spec_setup.specs.Setups.{Invoked, by_invocations, invoking, invocation_at}
use Rattle.spec_core.specs.declared.plan.Plan.{Plan}
use Rattle.spec_core.specs.declared.table.Table.{Table}
use Rattle.spec_core.specs.declared.moves.Move.{Move as Told}
use Rattle.spec_core.specs.declared.moves.Move.TheVariants.{Turn, Hop}
use Rattle.spec_core.specs.declared.moves.Turn.{Turn as OwnMove}
use Rattle.spec_core.specs.declared.moves.Turn.TheVariants as turn
use Rattle.spec_core.specs.Moves.{told, finish_told}
use Rattle.spec_core.specs.Hands.{Bench, bench_at}
use Rattle.spec_core.specs.Reports.{abort_in}
use Rattle.spec_core.specs.Blocks.{epochs_in}
use Rattle.spec_core.specs.Engine.{Stand, told_in}
use Rattle.spec_core.specs.Tables.{state_of, setup_by, sizes_by, IsPlan, IsSound, HandGoesOn, GoesOn}
use Rattle.spec_core.proofs.Seating.{many, seats_there}
use Rattle.spec_core.proofs.Blocks.{many_epochs}
use Rattle.spec_core.proofs.Standing.{hand_goes}

abbrev OwnStep : Type 0
OwnStep = Move Invoked Cursor Piece

-- whether a cursor stands in an invocation is told by its event
abbrev Stands : Bool → Event Invoked Cursor → Type 0
Stands inside (Scalar p t r) = inside ≡ false
Stands inside (Drain p t r) = inside ≡ false
Stands inside (Invoke b n r) = inside ≡ true
Stands inside End = Unit {0}

module _ (arrays : List Array) (opening : List ℤ) (c : Cursor) where
  at_place : (a : At) → c.at ≡ a → Stands (is_inside a) (by_invocations c (event_when arrays opening c a))
  at_place (at.Before (next.Node n)) here = found (slice_get c.nodes n)
    where
      found : (o : Option Node) → Stands false (by_invocations c (event_of (kind_found arrays o) (purpose_found o) (λ words. after_at arrays c words (at.Before (next.Node n))) (handed_at c (at.Before (next.Node n))) opening c))
      found None = tt
      found (Some this) = by (list_any (names_written arrays) (exprs_of this))
        where
          by : (t : Bool) → Stands false (by_invocations c (event_of (if t then kind.Drain else kind.Scalar) (purpose_found (Some this)) (λ words. after_at arrays c words (at.Before (next.Node n))) (handed_at c (at.Before (next.Node n))) opening c))
          by true = refl
          by false = refl
  at_place (at.Before next.Turn) here = refl
  at_place (at.Before next.End) here = tt
  at_place (at.Inside i) here = by (has_turn i.turning)
    where
      there : Stands true (invoking c c.at)
      there = subst (λ a. Stands true (invoking c a)) (sym here) refl

      by : (t : Bool) → Stands true (by_invocations c (event_of (if t then kind.Iterate else kind.Close) (purpose_at c (at.Inside i)) (λ words. after_at arrays c words (at.Inside i)) (handed_at c (at.Inside i)) opening c))
      by true = there
      by false = there

  pub stands_by : (ev : Event Invoked Cursor) → invocation_at arrays opening c ≡ ev → Stands (is_inside c.at) ev
  stands_by ev is = subst (Stands (is_inside c.at)) is (at_place c.at refl)

-- no abort is kept
pub calm_is : (o : Option RollCause) → option_map abort_in o ≡ None → o ≡ None
calm_is None is = refl
calm_is (Some cause) is = absurd (let no_one : Some (abort_in cause) ≡ None = is in cc)

pub finish_is : (h : Hand Piece) (own : OwnMove) → finish_told h ≡ Turn own → turn.Finish ≡ own
finish_is Idle own is = cc
finish_is Empty own is = cc
finish_is (Running k p) own is = absurd (cc)
finish_is Stopped own is = cc

module _ {G : Type 0} (s : Signs G) (sizes_in : G → List ℕ) (plan : Plan) (old : Table G) (ready : IsPlan plan) (sound : IsSound sizes_in plan old) (goes : GoesOn (setup_by s plan) (sizes_by plan) (state_of old)) (u : ℕ) where
  abbrev m : Setup Invoked Cursor Piece G
  m = setup_by s plan

  abbrev st : Stand G
  st = state_of old

  abbrev hand : Hand Piece
  hand = (seat_at st.seats u).hand

  -- the move that is told so
  pub record IsTold (t : Told) : Type 0 where
    pub move : OwnStep
    pub is : move_of m st u ≡ Some move
    pub told_so : told hand move ≡ t
    pub guard : Enabled m st u move

  pub told_move : (t : Told) → told_in m st u ≡ Some t → IsTold t
  told_move t is = go (move_of m st u) refl is
    where
      width : length st.seats ≡ m.width
      width = many (length old.seats.items) old.seen.items 0 old.seats.items ∙ sound.seats

      room : length st.epochs ≤ m.room
      room = let e : length st.epochs ≡ length old.desk.epochs = many_epochs old.desk.epochs in omega (arith, e, sound.desk.few)

      go : (o : Option OwnStep) → move_of m st u ≡ o → option_map (told {B = Invoked} {C = Cursor} {P = Piece} hand) o ≡ Some t → IsTold t
      go None known e = absurd (let no_one : None ≡ Some t = e in cc)
      go (Some move) known e = record { move = move; is = known; told_so = (let same : told hand move ≡ t = cc in same); guard = enabled m st ready.some_worker ready.some_epoch width room u move known }

  pub steps : (t : Told) (there : IsTold t) (new : Stand G) → new ≡ state_after m st u there.move → step m st u ≡ Some new
  steps t there new is = ap (option_map (state_after m st u)) there.is ∙ ap Some (sym is)

  abbrev bench : Bench G
  bench = bench_at old.seats.items u

  here : u < plan.options.workers → u < length old.seats.items
  here own = subst (λ n. u < n) (sym sound.seats) own

  seat_is : (own : u < plan.options.workers) → (hand ≡ bench.hand) × (done_at st.seats u ≡ bench.done)
  seat_is own = let x = seats_there old.seen.items old.seats.items u (here own) in (ap (λ (y : Seat Piece G). y.hand) x, ap (λ (y : Seat Piece G). y.done) x)

  -- what a row needs
  abbrev pub Needs : OwnMove → Type 0
  Needs turn.Scalar = is_inside old.desk.cursor.at ≡ false
  Needs turn.Drain = is_inside old.desk.cursor.at ≡ false
  Needs turn.Open = (old.abort ≡ None) × (is_inside old.desk.cursor.at ≡ true) × (length old.desk.epochs < plan.options.segment)
  Needs turn.Begin = (u < plan.options.workers) × (old.abort ≡ None) × (bench.hand ≡ Idle) × (bench.done < length old.desk.epochs)
  Needs turn.Finish = (u < plan.options.workers) × (bench.done < bench.begun)
  Needs turn.LetGo = u < plan.options.workers
  Needs turn.Stop = u < plan.options.workers
  Needs turn.Check = old.abort ≡ None
  Needs turn.Commit = old.abort ≡ None
  Needs _ = Unit {0}

  outside_by : (ev : Event Invoked Cursor) → m.event st.cursor ≡ ev → Stands (is_inside old.desk.cursor.at) ev
  outside_by ev is = stands_by (arrays_of plan.job.program.decls) plan.job.opening.words old.desk.cursor ev is

  finish_needs : ((IsWorking m st u Empty × (st.trap ≡ None)) ⊎ ((k : ℕ) × IsAt m st u k Finishes × (to m st.epochs (done_at st.seats u) u ≤ suc k))) → finish_told hand ≡ Turn turn.Finish → (u < plan.options.workers) × (bench.done < bench.begun)
  finish_needs (inl (working, free)) is =
      let held : bench.hand ≡ Empty = sym (seat_is working.own).0 ∙ working.holds in
      let goes_on = subst (HandGoesOn m (sizes_by plan) (epochs_in old.desk.epochs) u bench.done bench.begun) held (hand_goes s sizes_in plan old u ready sound goes (calm_is old.abort working.calm) working.own) in
      (working.own, omega (arith, goes_on.0))
  finish_needs (inr (k, at_end, last)) is = absurd (let no_one : Hop ≡ Turn turn.Finish = sym (ap finish_told at_end.working.holds) ∙ is in cc)

  needs_of : (move : OwnStep) → Enabled m st u move → (own : OwnMove) → told hand move ≡ Turn own → Needs own
  needs_of (DoScalar p t r) g own is = let same : turn.Scalar ≡ own = cc in subst Needs same (outside_by (Scalar p t r) g.2)
  needs_of (DoDrain p t r) (traps, rests, free, none, event, a, b) own is = let same : turn.Drain ≡ own = cc in subst Needs same (outside_by (Drain p traps rests) event)
  needs_of (DoOpen b n r) g own is = let same : turn.Open ≡ own = cc in subst Needs same (calm_is old.abort g.0.going.calm, outside_by (Invoke b n r) g.2, (let e : length st.epochs ≡ length old.desk.epochs = many_epochs old.desk.epochs in omega (arith, e, g.1)))
  needs_of DoClose g own is = let same : turn.Close ≡ own = cc in subst Needs same tt
  needs_of DoCommit g own is = let same : turn.Commit ≡ own = cc in subst Needs same (calm_is old.abort g.0.calm)
  needs_of (DoRestore cause) g own is = let same : turn.Restore ≡ own = cc in subst Needs same tt
  needs_of DoConclude g own is = let same : turn.Conclude ≡ own = cc in subst Needs same tt
  needs_of (DoBegin first) g own is =
      let same : turn.Begin ≡ own = cc in
      let seat = seat_is g.0.own in
      subst Needs same (g.0.own, calm_is old.abort g.0.calm, sym seat.0 ∙ g.0.holds, (let e : length st.epochs ≡ length old.desk.epochs = many_epochs old.desk.epochs in omega (arith, e, seat.1, g.1)))
  needs_of (DoRead k w n) g own is = absurd (cc)
  needs_of (DoWrite k w v n) g own is = absurd (cc)
  needs_of (DoGo k n) g own is = absurd (cc)
  needs_of (DoNext k p) g own is = absurd (cc)
  needs_of DoFinish g own is = let same : turn.Finish ≡ own = finish_is hand own is in subst Needs same (finish_needs g (is ∙ ap Turn (sym same)))
  needs_of DoFail g own is = absurd (cc)
  needs_of (DoTrap k cause line) g own is = absurd (cc)
  needs_of DoLetGo g own is = let same : turn.LetGo ≡ own = cc in subst Needs same g.0
  needs_of DoStop g own is = let same : turn.Stop ≡ own = cc in subst Needs same g.2.own
  needs_of (DoCheck p) g own is = let same : turn.Check ≡ own = cc in subst Needs same (calm_is old.abort g.2)
  needs_of (DoAbort p array) g own is = let same : turn.Check ≡ own = cc in subst Needs same (calm_is old.abort g.2)

  pub needs : (own : OwnMove) → told_in m st u ≡ Some (Turn own) → Needs own
  needs own is = let there = told_move (Turn own) is in needs_of there.move there.guard own there.told_so

  -- what each row leaves
  module _ (new : Stand G) where
    not_finish : {A : Type 0} (own : OwnMove) → (turn.Finish ≡ own → ⊥) → finish_told hand ≡ Turn own → A
    not_finish own other is = absurd (other (finish_is hand own is))

    pub scalar_case : (move : OwnStep) → told hand move ≡ Turn turn.Scalar → Enabled m st u move
        → ((p : Purpose) (t : Option Trap) (r : Cursor) → m.event st.cursor ≡ Scalar p t r → new ≡ scalar_after m st p t r) → new ≡ state_after m st u move
    scalar_case (DoScalar p t r) is g computes = computes p t r g.2
    scalar_case DoFinish is g computes = not_finish turn.Scalar (λ e. cc) is
    scalar_case _ is g computes = absurd (cc)

    pub drain_case : (move : OwnStep) → told hand move ≡ Turn turn.Drain → Enabled m st u move
        → ((p : Purpose) (ts : List ℤ → Option Trap) (rs : List ℤ → Cursor) → m.event st.cursor ≡ Drain p ts rs → new ≡ state_after m st plan.options.workers (DoDrain p (ts st.words) (rs st.words))) → new ≡ state_after m st u move
    drain_case (DoDrain p t r) is (ts, rs, free, none, event, a, b) drains = drains p ts rs event ∙ (λ i. state_after m st u (DoDrain p (a i) (b i)))
    drain_case DoFinish is g drains = not_finish turn.Drain (λ e. cc) is
    drain_case _ is g drains = absurd (cc)

    pub open_case : (move : OwnStep) → told hand move ≡ Turn turn.Open → Enabled m st u move
        → ((b : Invoked) (n : ℕ) (r : Cursor) → m.event st.cursor ≡ Invoke b n r → new ≡ state_after m st plan.options.workers (DoOpen b n r)) → new ≡ state_after m st u move
    open_case (DoOpen b n r) is g opens = opens b n r g.2
    open_case DoFinish is g opens = not_finish turn.Open (λ e. cc) is
    open_case _ is g opens = absurd (cc)

    pub close_case : (move : OwnStep) → told hand move ≡ Turn turn.Close → new ≡ state_after m st plan.options.workers DoClose → new ≡ state_after m st u move
    close_case DoClose is closes = closes
    close_case DoFinish is closes = not_finish turn.Close (λ e. cc) is
    close_case _ is closes = absurd (cc)

    pub commit_case : (move : OwnStep) → told hand move ≡ Turn turn.Commit → new ≡ state_after m st plan.options.workers DoCommit → new ≡ state_after m st u move
    commit_case DoCommit is commits = commits
    commit_case DoFinish is commits = not_finish turn.Commit (λ e. cc) is
    commit_case _ is commits = absurd (cc)

    pub restore_case : (move : OwnStep) → told hand move ≡ Turn turn.Restore → Enabled m st u move → ((cause : Abort) → st.abort ≡ Some cause → new ≡ state_after m st plan.options.workers (DoRestore cause)) → new ≡ state_after m st u move
    restore_case (DoRestore cause) is g restores = restores cause g.2
    restore_case DoFinish is g restores = not_finish turn.Restore (λ e. cc) is
    restore_case _ is g restores = absurd (cc)

    pub conclude_case : (move : OwnStep) → told hand move ≡ Turn turn.Conclude → new ≡ state_after m st plan.options.workers DoConclude → new ≡ state_after m st u move
    conclude_case DoConclude is ends = ends
    conclude_case DoFinish is ends = not_finish turn.Conclude (λ e. cc) is
    conclude_case _ is ends = absurd (cc)

    pub begin_case : (move : OwnStep) → told hand move ≡ Turn turn.Begin → Enabled m st u move → new ≡ worker_after m st u (DoBegin (first_hand m st.epochs bench.done u)) → new ≡ state_after m st u move
    begin_case (DoBegin first) is g begins = begins ∙ ap (λ h. worker_after m st u (DoBegin h)) (ap (λ e. first_hand m st.epochs e u) (sym (seat_is g.0.own).1) ∙ sym g.4)
    begin_case DoFinish is g begins = not_finish turn.Begin (λ e. cc) is
    begin_case _ is g begins = absurd (cc)

    pub finish_case : (move : OwnStep) → told hand move ≡ Turn turn.Finish → new ≡ worker_after m st u DoFinish → new ≡ state_after m st u move
    finish_case DoFinish is ends = ends
    finish_case _ is ends = absurd (cc)

    pub let_go_case : (move : OwnStep) → told hand move ≡ Turn turn.LetGo → new ≡ worker_after m st u DoLetGo → new ≡ state_after m st u move
    let_go_case DoLetGo is leaves = leaves
    let_go_case DoFinish is leaves = not_finish turn.LetGo (λ e. cc) is
    let_go_case _ is leaves = absurd (cc)

    pub stop_case : (move : OwnStep) → told hand move ≡ Turn turn.Stop → new ≡ worker_after m st u DoStop → new ≡ state_after m st u move
    stop_case DoStop is stops = stops
    stop_case DoFinish is stops = not_finish turn.Stop (λ e. cc) is
    stop_case _ is stops = absurd (cc)

    pub check_case : (move : OwnStep) → told hand move ≡ Turn turn.Check → Enabled m st u move
        → ((p : Pair) → due m.width st ≡ Some p → overlap_of m st.seats p ≡ None → new ≡ state_after m st (suc plan.options.workers) (DoCheck p))
        → ((p : Pair) (array : ℕ) → due m.width st ≡ Some p → overlap_of m st.seats p ≡ Some array → new ≡ state_after m st (suc plan.options.workers) (DoAbort p array)) → new ≡ state_after m st u move
    check_case (DoCheck p) is g passes gives = passes p g.4 g.5
    check_case (DoAbort p array) is g passes gives = gives p array g.4 g.5
    check_case DoFinish is g passes gives = not_finish turn.Check (λ e. cc) is
    check_case _ is g passes gives = absurd (cc)
