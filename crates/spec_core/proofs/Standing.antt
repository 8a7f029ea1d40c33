-- What a worker that stands at an iteration has: its task is begun and its epoch open, and the iteration is in its block.
use Rattle.std.proofs.Common.{◌≡◌, ℕ, suc, ◌+◌, ◌-◌, ◌<◌, ◌≤◌, Bool, true, false, if◌then◌else◌, nat_lt, Some, None, List, length, refl, sym, ap, ◌∙◌, subst, arith}
use Rattle.std.proofs.lemmas.Bool.{lt-ltb}
use Rattle.std.proofs.lemmas.List.FromFn.{length-map-range_with_len}
use Rattle.std.specs.Option.{option_map}
use Rattle.task_hop.specs.declared.frame.Frame.{Frame}
use Rattle.task_hop.specs.declared.stop.Stop.{Stop}
use Rattle.task_frame.specs.declared.piece.Piece.{Piece}
use Rattle.task_frame.specs.Pieces.{reached}
use Rattle.task_frame.specs.Stops.{IsInside}
use Rattle.epoch_plan.specs.declared.blocks.Epoch.{Epoch as Planned}
use Rattle.nest_setup.specs.Pieces.{opening_piece, stop_told, stop_of}
use Rattle.sched_cursor.specs.Cursor.{Cursor}
use Rattle.spec_machine.specs.Machine.{Setup, Seat, Epoch, Idle, Running, share, from, to, piece_at, worker_after, stop_move}
use Rattle.spec_machine.proofs.Plans.{share_rises, share_all}
use Rattle.spec_setup.specs.Signs.{Signs}
use Rattle.spec_setup.specs.Setups.{Invoked, handed}
use Rattle.spec_core.specs.declared.plan.Plan.{Plan}
use Rattle.spec_core.specs.declared.table.Table.{Table}
use Rattle.spec_core.specs.Hands.{Bench, bench_at, seen_at}
use Rattle.spec_core.specs.Blocks.{planned_at, invocation_in, epochs_in, begins, block_in}
use Rattle.spec_core.specs.Reports.{abort_in}
use Rattle.spec_core.specs.Tables.{state_of, setup_by, sizes_by, IsPlan, IsEpochBy, IsSound, HandGoesOn, GoesOn}
use Rattle.spec_core.proofs.Seating.{seats_there}
use Rattle.spec_core.proofs.Blocks.{many_epochs, epoch_there, each_at, from_is}

module _ {G : Type 0} (s : Signs G) (sizes_in : G → List ℕ) (plan : Plan) (old : Table G) (u : ℕ) (ready : IsPlan plan) (sound : IsSound sizes_in plan old) (goes : GoesOn (setup_by s plan) (sizes_by plan) (state_of old)) (calm : old.abort ≡ None) (own : u < plan.options.workers) where
  abbrev bench : Bench G
  bench = bench_at old.seats.items u

  abbrev workers : ℕ
  workers = plan.options.workers

  abbrev x : Planned
  x = planned_at old.desk.epochs bench.done

  abbrev m : Setup Invoked Cursor Piece G
  m = setup_by s plan

  abbrev epochs : List (Epoch Invoked)
  epochs = epochs_in old.desk.epochs

  here : u < length old.seats.items
  here = subst (λ n. u < n) (sym sound.seats) own

  pub hand_goes : HandGoesOn m (sizes_by plan) epochs u bench.done bench.begun bench.hand
  hand_goes =
      subst (λ n. HandGoesOn m (sizes_by plan) epochs u bench.done n bench.hand) (length-map-range_with_len (λ e. seen_at (length old.seats.items) old.seen.items e u) 0 bench.begun)
      (subst (λ (y : Seat Piece G). HandGoesOn m (sizes_by plan) epochs u y.done (length y.seen) y.hand) (seats_there old.seen.items old.seats.items u here) (goes.hands (ap (option_map abort_in) calm) u own))

  pub record Stands (piece : Piece) (k : ℕ) : Type 0 where
    pub begun : bench.done < bench.begun
    pub there : bench.done < length old.desk.epochs
    pub low : x.first ≤ k
    pub high : k < begins x workers bench.done (suc u)
    pub last : begins x workers bench.done (suc u) ≤ x.first + x.trips
    pub by : IsEpochBy plan x
    pub end : to m epochs bench.done u ≡ begins x workers bench.done (suc u)
    pub begin : begins x workers bench.done u < begins x workers bench.done (suc u)
    pub inside : IsInside (sizes_by plan) (reached piece).stop

  pub stands : (k : ℕ) (piece : Piece) → bench.hand ≡ Running k piece → Stands piece k
  stands k piece held =
      let (begun, there, low, high, inside) = subst (HandGoesOn m (sizes_by plan) epochs u bench.done bench.begun) held hand_goes in
      let open_here : bench.done < length old.desk.epochs = subst (λ n. bench.done < n) (many_epochs old.desk.epochs) there in
      let by = each_at (IsEpochBy plan) old.desk.epochs bench.done sound.desk.epochs open_here in
      let a : from m epochs bench.done u ≡ begins x workers bench.done u = from_is s plan old.desk.epochs sound.desk.epochs bench.done open_here u in
      let b : to m epochs bench.done u ≡ begins x workers bench.done (suc u) = from_is s plan old.desk.epochs sound.desk.epochs bench.done open_here (suc u) in
      let rises : share x.all workers bench.done x.trips (suc u) ≤ share x.all workers bench.done x.trips workers = share_rises x.all workers bench.done x.trips (suc u) workers ready.some_worker (omega (arith, own)) in
      let whole : share x.all workers bench.done x.trips workers ≡ x.trips = share_all x.all workers bench.done x.trips ready.some_worker in
      record {
        begun = omega (arith, begun);
        there = open_here;
        low = omega (arith, a, low);
        high = omega (arith, b, high);
        last = omega (arith, rises, whole);
        by = by;
        end = b;
        begin = omega (arith, a, b, low, high);
        inside = inside;
      }

  -- the piece of another iteration of its epoch
  pub piece_is : (k : ℕ) → bench.done < length old.desk.epochs → opening_piece plan.code (handed (invocation_in x) (k - x.first)) ≡ piece_at m epochs bench.done k
  piece_is k there = ap (λ (y : Epoch Invoked). opening_piece plan.code (handed y.body (k - y.first))) (sym (epoch_there old.desk.epochs bench.done _ there))

  -- its block is there
  pub block_is : (k : ℕ) (piece : Piece) → Stands piece k → block_in x workers bench.done u ≡ Some (begins x workers bench.done u, begins x workers bench.done (suc u))
  block_is k piece st = ap (λ b. if b then Some (begins x workers bench.done u, begins x workers bench.done (suc u)) else None) (lt-ltb _ _ st.begin)

  -- that another one follows, and that none does
  pub follows : (k next : ℕ) → Some next ≡ (if nat_lt (suc k) (to m epochs bench.done u) then Some (suc k) else None) → (nat_lt (suc k) (to m epochs bench.done u) ≡ true) × (next ≡ suc k)
  follows k next is = by (nat_lt (suc k) (to m epochs bench.done u)) is
    where
      by : (t : Bool) → Some next ≡ (if t then Some (suc k) else None) → (t ≡ true) × (next ≡ suc k)
      by true same = (refl, cc)
      by false same = absurd (let no : Some next ≡ None = same in cc)

  pub ends : (k : ℕ) → None ≡ (if nat_lt (suc k) (to m epochs bench.done u) then Some (suc k) else None) → nat_lt (suc k) (to m epochs bench.done u) ≡ false
  ends k is = by (nat_lt (suc k) (to m epochs bench.done u)) is
    where
      by : (t : Bool) → None ≡ (if t then Some (suc k) else None) → t ≡ false
      by true same = absurd (let no : None ≡ Some (suc k) = same in cc)
      by false same = refl

  -- the epoch of its task, as it was read
  pub epoch_read : (epoch : ℕ) (y : Planned) → y ≡ planned_at old.desk.epochs epoch → epoch ≡ bench.done → y ≡ x
  epoch_read epoch y is same = is ∙ ap (planned_at old.desk.epochs) same

  pub next_hand : (next k : ℕ) (y : Planned) (piece : Piece) → bench.done < length old.desk.epochs → y ≡ x → next ≡ suc k → piece ≡ opening_piece plan.code (handed (invocation_in y) (next - y.first))
      → Running next piece ≡ Running (suc k) (piece_at m epochs bench.done (suc k))
  next_hand next k y piece there same one is =
      ap (λ (q : Piece). Running next q) (is ∙ ap (λ (z : Planned). opening_piece plan.code (handed (invocation_in z) (next - z.first))) same)
      ∙ ap (λ n. Running n (opening_piece plan.code (handed (invocation_in x) (n - x.first)))) one
      ∙ ap (Running (suc k)) (piece_is (suc k) there)

  -- a move at the stop at which its piece stands
  pub told_at : (k : ℕ) (piece : Piece) (frame : Frame) (stop : Stop) → frame ≡ (reached piece).frame → stop ≡ (reached piece).stop
      → worker_after m (state_of old) u (stop_move m (state_of old) bench.done u k (stop_told (sizes_by plan) plan.code frame stop)) ≡ worker_after m (state_of old) u (stop_move m (state_of old) bench.done u k (stop_of (sizes_by plan) plan.code piece))
  told_at k piece frame stop frame_is stop_is = λ i. worker_after m (state_of old) u (stop_move m (state_of old) bench.done u k (stop_told (sizes_by plan) plan.code (frame_is i) (stop_is i)))

  -- an idle worker has begun no more than it has finished
  pub idle_begun : bench.hand ≡ Idle → bench.begun ≡ bench.done
  idle_begun held = subst (HandGoesOn m (sizes_by plan) epochs u bench.done bench.begun) held hand_goes
