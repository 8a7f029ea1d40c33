-- What a legal history leaves can be gone on with.
use Rattle.std.proofs.Common.{◌≡◌, ℕ, suc, ◌-◌, ◌^◌, ◌<◌, ◌≤◌, ℤ, Bool, true, false, if◌then◌else◌, nat_lt, Some, None, List, [], length, replicate, slice_set, refl, sym, ◌∙◌, subst, ⊎_elim, arith}
use Rattle.nest_syntax.specs.declared.tree.Program.{Program}
use Rattle.nest_syntax.specs.Arrays.{arrays_of, sizes_of, word_at}
use Rattle.nest_syntax.specs.Shape.{bodies_of}
use Rattle.nest_syntax.specs.Outcome.{body_at}
use Rattle.settle_law.specs.Traces.{Access}
use Rattle.settle_law.specs.Tasks.{Stop, Loads, Stores, Goes, Finishes, Traps}
use Rattle.settle_law.specs.Courses.{Nest, nest_of}
use Rattle.dep_graph.specs.Apart.{DoAllIsApart}
use Rattle.turn_cost.specs.Costs.{body_cost}
use Rattle.task_hop.specs.declared.frame.Frame.{Frame}
use Rattle.task_hop.specs.declared.frame.Register.TheVariants as register
use Rattle.task_hop.specs.declared.stop.Stop.{Stop as Stopping}
use Rattle.task_hop.specs.declared.stop.Stop.TheVariants as stop
use Rattle.task_hop.specs.Registers.{with_register}
use Rattle.task_code.specs.Code.{Code, entry_at, slot_at}
use Rattle.task_code.specs.Unfolded.{opening_frame}
use Rattle.task_frame.specs.declared.piece.Piece.{Piece}
use Rattle.task_frame.specs.Pieces.{reached}
use Rattle.task_frame.specs.System.{Fuelled}
use Rattle.task_frame.specs.System as fuelled
use Rattle.task_frame.specs.Stops.{IsInside, StopsInside}
use Rattle.sched_cursor.specs.Cursor.{Cursor}
use Rattle.sched_cursor.specs.Laws.{restarted}
use Rattle.sched_cursor.proofs.Cursors.{cursors_stay}
use Rattle.nest_setup.specs.Pieces.{in_places, stop_of}
use Rattle.nest_setup.proofs.Costs.{stops_same, body_costs_bound}
use Rattle.nest_setup.proofs.Headers.{few_headers}
use Rattle.spec_machine.specs.Machine.{Setup, State, Seat, Hand, Idle, Empty, Running, Stopped, Move, DoScalar, DoDrain, DoOpen, DoClose, DoCommit, DoRestore, DoConclude, DoBegin, DoRead, DoWrite, DoGo, DoNext, DoFinish, DoFail, DoTrap, DoLetGo, DoStop, DoCheck, DoAbort, fresh_seat, seat_at, done_at, seat_after, state_after, pairs, epoch_at, from, to, piece_at, opening}
use Rattle.spec_machine.specs.Table.{Enabled}
use Rattle.spec_machine.specs.Theorems.{IsSetupFor, Leads}
use Rattle.spec_machine.specs.Runs.{trace_from}
use Rattle.spec_machine.specs.Invariant.{Invariant, EarlyTrap, plan, HandOk}
use Rattle.spec_machine.proofs.Due.{fresh_at}
use Rattle.spec_machine.proofs.Crew.{hand_is, block_low}
use Rattle.spec_machine.proofs.Runs.{keeps_invariant}
use Rattle.spec_machine.proofs.Bounds.{given_one, seat_set, few_pairs, along_legal, few_passed, is_bounded}
use Rattle.spec_tasks.specs.Notes.{Note, noted_in}
use Rattle.spec_tasks.specs.Forgetting.{with_notes, forget_hand, forget_seat, forget}
use Rattle.spec_tasks.proofs.Dropping.{seat_same}
use Rattle.spec_tasks.proofs.Carrying.{before}
use Rattle.spec_setup.specs.Signs.{Signs}
use Rattle.spec_setup.specs.Setups.{Invoked, handed, what_in, setup_of, fuelled_setup_of, IsPrepared}
use Rattle.spec_setup.specs.Ahead.{HasFew, HandGoesOn, GoesOn, StatesGoOn}
use Rattle.spec_setup.proofs.Right.{setups_right}
use Rattle.spec_setup.proofs.Counts.{counted_along}

-- pieces of a code whose stops are inside
module _ (sizes : List ℕ) (code : Code) (inside : StopsInside sizes code) where
  abbrev Stands : Fuelled → Type 0
  Stands p = IsInside sizes (reached p.piece).stop

  abbrev BehindStands : Stop Fuelled → Type 0
  BehindStands (Loads w next) = (value : ℤ) → Stands (next value)
  BehindStands (Stores w value next) = Stands next
  BehindStands (Goes next) = Stands next
  BehindStands Finishes = Unit {0}
  BehindStands (Traps cause line) = Unit {0}

  behind_told : (left : ℕ) (frame : Frame) (at : Stopping) → BehindStands (fuelled.stop_told sizes code left frame at)
  behind_told left frame (stop.Load array place into next) = λ value. inside next (with_register frame (register.Temporary into) value)
  behind_told left frame (stop.Store array place value next) = inside next frame
  behind_told left frame (stop.Go next) = inside next frame
  behind_told left frame stop.Finish = tt
  behind_told left frame (stop.Trap cause line) = tt

  behind_stands : (p : Fuelled) (at : Stop Fuelled) → fuelled.stop_of sizes code p ≡ at → BehindStands at
  behind_stands p at is = subst BehindStands is (behind_told p.left (reached p.piece).frame (reached p.piece).stop)

  abbrev HeldStands : Hand Fuelled → Type 0
  HeldStands Idle = Unit {0}
  HeldStands Empty = Unit {0}
  HeldStands (Running k p) = Stands p
  HeldStands Stopped = Unit {0}

  first_stands : (some : Bool) (k : ℕ) (p : Fuelled) → Stands p → HeldStands (if some then Running k p else Empty)
  first_stands true k p stands = stands
  first_stands false k p stands = tt

abbrev stops_by : Program → ℕ × List ℤ → ℕ
stops_by program i = body_cost (body_at (bodies_of program) i.0)

module _ {S : Type 0} (do_all : DoAllIsApart) (program : Program) (words : List ℤ) (code : Code) (cursor : Cursor) (signs : Signs S) (width room far : ℕ) (prepared : IsPrepared program code cursor signs width room) (inside : StopsInside (sizes_of (arrays_of program.decls)) code) where
  abbrev sizes : List ℕ
  sizes = sizes_of (arrays_of program.decls)

  abbrev nest : Nest
  nest = nest_of program words

  abbrev start : Cursor
  start = restarted program cursor

  abbrev m : Setup Invoked Cursor Fuelled S
  m = fuelled_setup_of program words code (stops_by program) signs width room far

  abbrev l : Setup Invoked Cursor Fuelled (List Note)
  l = with_notes m

  abbrev n : Setup Invoked Cursor Piece S
  n = setup_of program words code signs width room far

  abbrev State_l : Type 0
  State_l = State Invoked Cursor Fuelled (List Note)

  right : IsSetupFor l nest (what_in program) start noted_in
  right = setups_right do_all program words code cursor signs width room far prepared (stops_by program) (body_costs_bound program words)

  -- what is held stands inside the arrays
  abbrev Held : Hand Fuelled → Type 0
  Held = HeldStands (sizes_of (arrays_of program.decls)) code inside

  abbrev AllHeld : State_l → Type 0
  AllHeld s = (u : ℕ) → Held (seat_at s.seats u).hand

  module _ (s : State_l) (all : AllHeld s) where
    abbrev SeatsHeld : List (Seat Fuelled (List Note)) → Type 0
    SeatsHeld seats = (u : ℕ) → Held (seat_at seats u).hand

    put : (u : ℕ) (move : Move Invoked Cursor Fuelled) → Held (seat_after l s (seat_at s.seats u) move).hand → SeatsHeld (slice_set s.seats u (seat_after l s (seat_at s.seats u) move))
    put u move new v = seat_set (λ (x : Seat Fuelled (List Note)). Held x.hand) s.seats u v (seat_after l s (seat_at s.seats u) move) tt new (all v)

    anew : SeatsHeld (replicate width fresh_seat)
    anew u = subst (λ (x : Seat Fuelled (List Note)). Held x.hand) (sym (fresh_at width u)) tt

    entry_held : (b : Invoked) (j : ℕ) → Stands (sizes_of (arrays_of program.decls)) code inside (l.entry b j)
    entry_held b j = inside (entry_at code b.body) (opening_frame (slot_at code b.body) (handed b j).value (in_places b.env))

    held_row : (u : ℕ) (move : Move Invoked Cursor Fuelled) → Enabled l s u move → SeatsHeld (state_after l s u move).seats
    held_row u (DoScalar purpose None rest) g = all
    held_row u (DoScalar purpose (Some trap) rest) g = all
    held_row u (DoDrain purpose None rest) g = all
    held_row u (DoDrain purpose (Some trap) rest) g = all
    held_row u (DoOpen b k rest) g = all
    held_row u DoClose g = all
    held_row u DoCommit g = anew
    held_row u (DoRestore cause) g = anew
    held_row u DoConclude g = all
    held_row u (DoBegin hand) (working, some, near, below, is) =
        let e : ℕ = done_at s.seats u in
        let k : ℕ = from l s.epochs e u in
        put u (DoBegin hand) (subst Held (sym is) (first_stands sizes code inside (nat_lt k (to l s.epochs e u)) k (piece_at l s.epochs e k) (entry_held (epoch_at l s.epochs e).body (k - (epoch_at l s.epochs e).first))))
    held_row u (DoRead k w next) at = put u (DoRead k w next) (behind_stands sizes code inside at.piece (Loads w next) at.stops (word_at s.words w))
    held_row u (DoWrite k w value next) at = put u (DoWrite k w value next) (behind_stands sizes code inside at.piece (Stores w value next) at.stops)
    held_row u (DoGo k next) at = put u (DoGo k next) (behind_stands sizes code inside at.piece (Goes next) at.stops)
    held_row u (DoNext k piece) (j, at, more, low, is) =
        let e : ℕ = done_at s.seats u in
        put u (DoNext k piece) (subst (Stands sizes code inside) (sym is) (entry_held (epoch_at l s.epochs e).body (k - (epoch_at l s.epochs e).first)))
    held_row u DoFinish g = put u DoFinish tt
    held_row u DoFail g = put u DoFail tt
    held_row u (DoTrap k cause line) g = put u (DoTrap k cause line) tt
    held_row u DoLetGo g = put u DoLetGo tt
    held_row u DoStop g = put u DoStop tt
    held_row u (DoCheck p) g = all
    held_row u (DoAbort p array) g = all

  held_along : (history : List ℕ) (s : State_l) → Leads l nest start history s → AllHeld s
  held_along = along_legal l nest (what_in program) start noted_in right AllHeld (λ u. subst (λ (x : Seat Fuelled (List Note)). Held x.hand) (sym (fresh_at width u)) tt) (λ s trace i u move g all. held_row s all u move g)

  module _ (few_workers : width ≤ 8) (short : room ≤ 64) (history : List ℕ) (s : State_l) (leads : Leads l nest start history s) where
    few : (k : ℕ) → k ≤ room → length (pairs width k) ≤ 112896
    few k le = few_pairs width k few_workers (omega (arith, le, short))

    abbrev trace : List Access
    trace = trace_from l (opening l start words) [] history

    i : Invariant l nest (what_in program) start noted_in s trace
    i = keeps_invariant Invoked Cursor Fuelled (List Note) l nest (what_in program) start noted_in right history s leads

    counts_few : HasFew s.facts
    counts_few =
        let b = is_bounded l nest (what_in program) start noted_in right few history s leads in
        let c = counted_along program words l (λ c. refl) prepared.cursor_is noted_in right history s leads in
        let headers : s.facts.invocations ≤ 2 ^ 36 = few_headers s.facts.invocations s.cursor c.left in
        let passed : s.cursor.next ≤ 2 ^ 60 = cursors_stay.passed program s.cursor c.good.own in
        let segments : s.facts.segments ≤ 2 ^ 36 = omega (arith, c.headers, headers) in
        let rollbacks : s.facts.rollbacks ≤ suc s.facts.segments = ⊎_elim (λ (le : s.facts.rollbacks ≤ s.facts.segments). let more : s.facts.rollbacks ≤ suc s.facts.segments = omega (arith, le) in more) (λ r. r.0) b.once in
        let pairs_now = few_passed l nest (what_in program) start noted_in right few s.passed (length s.epochs) i.room b.pairs_passed in
        let one = given_one s.abort in
        record {
          invocations = omega (arith, headers);
          iterations = omega (arith, c.counted, c.passed, passed);
          segments = omega (arith, segments);
          checks = omega (arith, b.few_checks, pairs_now, one, segments, rollbacks);
          rollbacks = omega (arith, rollbacks, segments);
        }

    hand_goes : s.abort ≡ None → (u : ℕ) → u < width → (hand : Hand Fuelled) → (seat_at s.seats u).hand ≡ hand → Held hand → HandGoesOn n (sizes_of (arrays_of program.decls)) s.epochs u (done_at s.seats u) (length (seat_at s.seats u).seen) (forget_hand (λ (p : Fuelled). p.piece) hand)
    hand_goes calm u own hand is held =
        by hand (hand_is l nest (what_in program) start noted_in right i.first s.next s.epochs i.chain s.mark s.words s.seats s.distance s.passed s.trap trace i.width (i.sound calm) u own hand is)
        (λ k p runs. block_low l nest (what_in program) start noted_in right i.first s.next s.epochs i.chain s.mark s.words s.seats s.distance s.passed s.trap trace i.width (i.sound calm) u own k p (is ∙ runs)) held
      where
        by : (h : Hand Fuelled) → HandOk l nest noted_in (plan l i.first s.next s.epochs) trace s.trap u (done_at s.seats u) (length (seat_at s.seats u).seen) h
            → ((k : ℕ) (p : Fuelled) → h ≡ Running k p → (from l s.epochs (done_at s.seats u) u ≤ k) × (k < to l s.epochs (done_at s.seats u) u))
            → Held h → HandGoesOn n (sizes_of (arrays_of program.decls)) s.epochs u (done_at s.seats u) (length (seat_at s.seats u).seen) (forget_hand (λ (p : Fuelled). p.piece) h)
        by Idle ok block held = ok.0
        by Empty ok block held = (omega (arith, ok.0), ok.1)
        by (Running k p) ok block held = let low = block k p refl in (omega (arith, ok.0), ok.1, low.0, low.1, held)
        by Stopped ok block held = tt

    same : (u : ℕ) → seat_at (forget (λ (p : Fuelled). p.piece) m.kind s).seats u ≡ forget_seat (λ (p : Fuelled). p.piece) m.kind (seat_at s.seats u)
    same u = seat_same m (λ (p : Fuelled). p.piece) (stop_of (sizes_of (arrays_of program.decls)) code) (stops_same (sizes_of (arrays_of program.decls)) code) s.seats u

    goes : GoesOn n (sizes_of (arrays_of program.decls)) (forget (λ (p : Fuelled). p.piece) m.kind s)
    goes = record {
      few = counts_few;
      filled = i.filled;
      early = λ trap is. (subst (EarlyTrap l nest (what_in program) s.next) is i.early).0;
      done = λ u. subst (λ (x : Seat Piece S). x.done ≤ length s.epochs) (sym (same u)) ((is_bounded l nest (what_in program) start noted_in right few history s leads).done u);
      hands = λ calm u own. subst (λ (x : Seat Piece S). HandGoesOn n (sizes_of (arrays_of program.decls)) s.epochs u x.done (length x.seen) x.hand) (sym (same u)) (hand_goes calm u own (seat_at s.seats u).hand refl (held_along history s leads u));
    }

pub states_go : {S : Type 0} → DoAllIsApart → StatesGoOn S
states_go do_all program words code cursor signs width room far prepared few_workers short inside history s leads =
    let b = before (fuelled_setup_of program words code (stops_by program) signs width room far) (λ (p : Fuelled). p.piece) (stop_of (sizes_of (arrays_of program.decls)) code) (stops_same (sizes_of (arrays_of program.decls)) code) (nest_of program words) (restarted program cursor) history s leads in
    subst (GoesOn (setup_of program words code signs width room far) (sizes_of (arrays_of program.decls))) b.same
    (goes do_all program words code cursor signs width room far prepared inside few_workers short history b.state b.leads)
