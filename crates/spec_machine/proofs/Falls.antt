-- The measure falls at each step, so histories are bounded.
use Rattle.std.proofs.Common.{◌≡◌, ℕ, zero, suc, ◌+◌, ◌-◌, ◌<◌, ◌≤◌, ◌⊎◌, ℤ, true, false, not, if◌then◌else◌, Option, Some, None, IsSome, List, [], ◌∷◌, ◌++◌, length, nat_lt, slice_set, replicate, refl, sym, ap, ◌∙◌, subst, inl, inr, ⊎_elim, arith, length-append}
use Rattle.std.proofs.lemmas.Bool.{cases_lt, true≢false, not_from_true, not_from_false, not-true, false_from_ne_true}
use Rattle.std.proofs.lemmas.List.{get_or_append_left}
use Rattle.std.proofs.lemmas.List.Sums.{sum_by-cons}
use Rattle.std.specs.List.{sum_by}
use Rattle.std.specs.Option.{option_map, option_map_or}
use Rattle.nest_syntax.specs.declared.names.Line.{Line}
use Rattle.nest_syntax.specs.declared.operators.Cause.{Cause}
use Rattle.nest_syntax.specs.declared.place.Place.{Place}
use Rattle.nest_syntax.specs.Arrays.{word_at, with_word}
use Rattle.nest_syntax.specs.Course.{Purpose}
use Rattle.nest_syntax.specs.Outcome.{place_of_trap}
use Rattle.settle_law.specs.Traces.{Access, part}
use Rattle.settle_law.specs.Tasks.{Left, Loads, Finishes, Traps}
use Rattle.settle_law.specs.Claims.{Claims}
use Rattle.settle_law.specs.Courses.{Nest, Trap, family_of, events}
use Rattle.settle_law.specs.Runs.{run}
use Rattle.settle_law.proofs.Tasks.{left_read, left_told, left_write, left_go}
use Rattle.spec_machine.specs.Invocations.{Event, Scalar, Drain, Invoke}
use Rattle.spec_machine.specs.Facts.{Pair, Abort, Fails, Overlaps, Facts, checked, restored}
use Rattle.spec_machine.specs.Machine.{Setup, State, Seat, Hand, Idle, Empty, Running, Stopped, Epoch, Move, DoScalar, DoDrain, DoOpen, DoClose, DoCommit, DoRestore, DoConclude, DoBegin, DoRead, DoWrite, DoGo, DoNext, DoFinish, DoFail, DoTrap, DoLetGo, DoStop, DoCheck, DoAbort, fresh_seat, seat_at, done_at, is_running, is_passed, pairs, due, epoch_at, share_of, to, piece_at, first_hand, seat_after, scalar_after, state_after, opening, move_of, step}
use Rattle.spec_machine.specs.Table.{In, IsGoing, IsFree, IsWorking, IsAt, Enabled}
use Rattle.spec_machine.specs.Runs.{trace_from, trace_after}
use Rattle.spec_machine.specs.Segments.{Coming, Computes, Drains, behind_trap, coming_from, coming, ahead, segments_of, segments_ahead}
use Rattle.spec_machine.specs.Measure.{hand_weight, seat_weight, run_weight, whole_weight, lets_go, letting_go, pairs_left, live_weight, segment_weight, seal_weight, coming_weight, segments_weight, going_weight, over_weight, measure, StepsFall, HistoriesAreBounded}
use Rattle.spec_machine.specs.Theorems.{IsSetupFor}
use Rattle.spec_machine.specs.Invariant.{plan, HandOk, Going, Invariant}
use Rattle.spec_machine.proofs.Lists.{in_pairs, pairs_in, IsPair}
use Rattle.spec_machine.proofs.Plans.{found}
use Rattle.spec_machine.proofs.Crew.{hand_is}
use Rattle.spec_machine.proofs.Due.{is_due}
use Rattle.spec_machine.proofs.Courses.{coming_is}
use Rattle.spec_machine.proofs.Segmenting.{gathered, scalar_ahead, drain_ahead, open_ahead}
use Rattle.spec_machine.proofs.WorkerRows.{left_at}
use Rattle.spec_machine.proofs.Rows.{at_mark}
use Rattle.spec_machine.proofs.Runs.{along, holds, kept, row_enabled, none_due, invariant_opening}
use Rattle.spec_machine.proofs.Weights.{begin_falls, next_falls, go_falls, finish_falls, empty_falls, stop_falls, run_falls, letting_less, failing_less, let_go_falls, filter_lt, passed_more, passed_last}

module _ {B C P G : Type 0} (m : Setup B C P G) (nest : Nest) (what : B × ℕ → ℕ × List ℤ) (start : C) (noted : G → Claims) (setup : IsSetupFor m nest what start noted) (s : State B C P G) (trace : List Access) (i : Invariant m nest what start noted s trace) where
  abbrev pub seat : ℕ → Seat P G
  seat u = seat_at s.seats u

  abbrev pub segs : List (List (Epoch B))
  segs = segments_ahead m nest s.early s.cursor s.next s.epochs

  -- the segment of the open epochs is the first one ahead
  pub record Segment : Type 0 where
    pub more : List (Epoch B)
    pub others : List (List (Epoch B))
    pub are : segs ≡ (s.epochs ++ more) ∷ others

  pub segment : 0 < length s.epochs → Segment
  segment some = go s.epochs refl
    where
      go : (epochs : List (Epoch B)) → s.epochs ≡ epochs → Segment
      go [] is = absurd (let l : length s.epochs ≡ 0 = ap length is in omega arith)
      go (x ∷ epochs) is = let g = gathered m.room x epochs (ahead m nest s.early s.cursor s.next) in record { more = g.more; others = g.others; are = ap (segments_ahead m nest s.early s.cursor s.next) is ∙ g.are ∙ ap (λ l. (l ++ g.more) ∷ g.others) (sym is) }

  going_is : s.concluded ≡ false → measure m nest s ≡ going_weight m nest s
  going_is going = ap (over_weight m nest s) going

  -- A row that leaves the cursor and the epochs takes weight from the present segment.
  module _ (some : 0 < length s.epochs) (going : s.concluded ≡ false) where
    abbrev pub more : List (Epoch B)
    more = (segment some).more

    abbrev pub whole : List (Epoch B)
    whole = s.epochs ++ (segment some).more

    now_is : measure m nest s ≡ suc (length (ahead m nest s.early s.cursor s.next) + (segment_weight m nest whole s.abort s.distance s.seats s.passed + seal_weight m nest s.sealed + sum_by (coming_weight m nest) (segment some).others))
    now_is = going_is going ∙ ap (λ l. suc (length (ahead m nest s.early s.cursor s.next) + segments_weight m nest s l)) (segment some).are

    segment_falls : (words : List ℤ) (distance : ℕ) (seats : List (Seat P G)) (passed : List Pair) (abort : Option Abort) (trap : Option Place) (facts : Facts) → segment_weight m nest whole abort distance seats passed < segment_weight m nest whole s.abort s.distance s.seats s.passed → measure m nest (record s { words = words; distance = distance; seats = seats; passed = passed; abort = abort; trap = trap; facts = facts }) < measure m nest s
    segment_falls words distance seats passed abort trap facts less =
        let t : State B C P G = record s { words = words; distance = distance; seats = seats; passed = passed; abort = abort; trap = trap; facts = facts } in
        let a : measure m nest (record s { words = words; distance = distance; seats = seats; passed = passed; abort = abort; trap = trap; facts = facts }) ≡ suc (length (ahead m nest s.early s.cursor s.next) + (segment_weight m nest whole abort distance seats passed + seal_weight m nest s.sealed + sum_by (coming_weight m nest) (segment some).others)) =
        ap (over_weight m nest (record s { words = words; distance = distance; seats = seats; passed = passed; abort = abort; trap = trap; facts = facts })) going
        ∙ ap (λ l. suc (length (ahead m nest s.early s.cursor s.next) + segments_weight m nest (record s { words = words; distance = distance; seats = seats; passed = passed; abort = abort; trap = trap; facts = facts }) l)) (segment some).are in
        let b : measure m nest s ≡ suc (length (ahead m nest s.early s.cursor s.next) + (segment_weight m nest whole s.abort s.distance s.seats s.passed + seal_weight m nest s.sealed + sum_by (coming_weight m nest) (segment some).others)) = now_is in
        omega arith

    -- the epochs of the whole segment are the open ones, as far as these go
    epoch_same : (e : ℕ) → e < length s.epochs → epoch_at m s.epochs e ≡ epoch_at m whole e
    epoch_same e lt = sym (get_or_append_left s.epochs (segment some).more _ e lt)

    longer : length s.epochs ≤ length whole
    longer = let l : length whole ≡ length s.epochs + length (segment some).more = length-append s.epochs (segment some).more in omega arith

    -- a worker's row, with no abort
    worker_falls : (u : ℕ) (y : Seat P G) (words : List ℤ) (trap : Option Place) → u < m.width → s.abort ≡ None → seat_weight m nest whole u y < seat_weight m nest whole u (seat u) → measure m nest (record s { words = words; seats = slice_set s.seats u y; trap = trap }) < measure m nest s
    worker_falls u y words trap own calm less = segment_falls words s.distance (slice_set s.seats u y) s.passed s.abort trap s.facts
        (subst (λ o. segment_weight m nest whole o s.distance (slice_set s.seats u y) s.passed < segment_weight m nest whole o s.distance s.seats s.passed) (sym calm) (live s.distance))
      where
        fewer : run_weight m nest whole (slice_set s.seats u y) < run_weight m nest whole s.seats
        fewer = run_falls m nest whole s.seats u y i.width own less

        live : (distance : ℕ) → live_weight m nest whole distance (slice_set s.seats u y) s.passed < live_weight m nest whole distance s.seats s.passed
        live zero = fewer
        live (suc distance) = omega (arith, fewer)

    hand_falls : (u : ℕ) (hand : Hand P) (y : Seat P G) (words : List ℤ) (trap : Option Place) → u < m.width → s.abort ≡ None → (seat u).hand ≡ hand → seat_weight m nest whole u y < hand_weight m nest whole u (seat u).done hand → measure m nest (record s { words = words; seats = slice_set s.seats u y; trap = trap }) < measure m nest s
    hand_falls u hand y words trap own calm h less = worker_falls u y words trap own calm (subst (λ x. seat_weight m nest whole u y < hand_weight m nest whole u (seat u).done x) (sym h) less)

  -- an open epoch where a worker runs
  hand_now : (u : ℕ) (hand : Hand P) → IsWorking m s u hand → HandOk m nest noted (plan m i.first s.next s.epochs) trace s.trap u (seat u).done (length (seat u).seen) hand
  hand_now u hand w = hand_is m nest what start noted setup i.first s.next s.epochs i.chain s.mark s.words s.seats s.distance s.passed s.trap trace i.width (i.sound w.calm) u w.own hand w.holds

  runs_some : (u k : ℕ) (piece : P) → IsWorking m s u (Running k piece) → 0 < length s.epochs
  runs_some u k piece w = let l : (seat u).done < length s.epochs = (hand_now u (Running k piece) w).1 in omega arith

  left_now : (u k : ℕ) (piece : P) → IsWorking m s u (Running k piece) → Left m.system (family_of m.system.fixed nest k) (part k trace) piece
  left_now u k piece w = left_at m nest what start noted setup s trace i u k piece w.calm w.own w.holds

  go_row : (u k : ℕ) (piece after : P) (y : Seat P G) (words : List ℤ) → (w : IsWorking m s u (Running k piece)) → y.hand ≡ Running k after → y.done ≡ (seat u).done → m.system.fuel after < m.system.fuel piece → measure m nest (record s { words = words; seats = slice_set s.seats u y }) < measure m nest s
  go_row u k piece after y words w hand done less = hand_falls (runs_some u k piece w) w.going u (Running k piece) y words s.trap w.own w.calm w.holds
      (subst (λ e. hand_weight m nest (whole (runs_some u k piece w) w.going) u e y.hand < hand_weight m nest (whole (runs_some u k piece w) w.going) u (seat u).done (Running k piece)) (sym done)
      (subst (λ h. hand_weight m nest (whole (runs_some u k piece w) w.going) u (seat u).done h < hand_weight m nest (whole (runs_some u k piece w) w.going) u (seat u).done (Running k piece)) (sym hand)
      (go_falls m nest (whole (runs_some u k piece w) w.going) u (seat u).done k piece after less)))

  read_fuel : (u k w : ℕ) (next : ℤ → P) (piece : P) (told : Option ℤ) → (working : IsWorking m s u (Running k piece)) → m.system.stop piece ≡ Loads w next → m.system.fixed w ≡ told → m.system.fuel (next (word_at s.words w)) < m.system.fuel piece
  read_fuel u k w next piece None working stop is = (left_read m.system (family_of m.system.fixed nest k) (part k trace) piece w next k (word_at s.words w) (left_now u k piece working) stop is).1
  read_fuel u k w next piece (Some value) working stop is = subst (λ x. m.system.fuel (next x) < m.system.fuel piece) (sym ((i.sound working.calm).fixed_words w value is)) (left_told m.system (family_of m.system.fixed nest k) (part k trace) piece w next value (left_now u k piece working) stop is).1

  begin_row : (u : ℕ) (hand : Hand P) → IsWorking m s u Idle → (seat u).done < length s.epochs → hand ≡ first_hand m s.epochs (seat u).done u → measure m nest (state_after m s u (DoBegin hand)) < measure m nest s
  begin_row u hand w lt is =
      let some : 0 < length s.epochs = omega arith in
      hand_falls some w.going u Idle (seat_after m s (seat u) (DoBegin hand)) s.words s.trap w.own w.calm w.holds
      (subst (λ h. hand_weight m nest (whole some w.going) u (seat u).done h < hand_weight m nest (whole some w.going) u (seat u).done Idle) (sym (is ∙ ap (λ (x : Epoch B). if nat_lt (x.first + share_of m x (seat u).done u) (x.first + share_of m x (seat u).done (suc u)) then Running (x.first + share_of m x (seat u).done u) (m.entry x.body (x.first + share_of m x (seat u).done u - x.first)) else Empty) (epoch_same some w.going (seat u).done lt)))
      (begin_falls m nest (whole some w.going) u (seat u).done (let l : length s.epochs ≤ length (whole some w.going) = longer some w.going in omega arith)))

  next_row : (u j k : ℕ) (piece : P) (a : IsAt m s u j Finishes) → k ≡ suc j → k < to m s.epochs (seat u).done u → piece ≡ piece_at m s.epochs (seat u).done k → measure m nest (state_after m s u (DoNext k piece)) < measure m nest s
  next_row u j k piece a is high begins =
      let some : 0 < length s.epochs = runs_some u j a.piece a.working in
      let lt : (seat u).done < length s.epochs = (hand_now u (Running j a.piece) a.working).1 in
      let same : epoch_at m s.epochs (seat u).done ≡ epoch_at m (whole some a.working.going) (seat u).done = epoch_same some a.working.going (seat u).done lt in
      hand_falls some a.working.going u (Running j a.piece) (seat_after m s (seat u) (DoNext k piece)) s.words s.trap a.working.own a.working.calm a.working.holds
      (subst (λ q. hand_weight m nest (whole some a.working.going) u (seat u).done (Running k q) < hand_weight m nest (whole some a.working.going) u (seat u).done (Running j a.piece)) (sym (begins ∙ ap (λ (x : Epoch B). m.entry x.body (k - x.first)) same))
      (subst (λ n. hand_weight m nest (whole some a.working.going) u (seat u).done (Running n (piece_at m (whole some a.working.going) (seat u).done n)) < hand_weight m nest (whole some a.working.going) u (seat u).done (Running j a.piece)) (sym is)
      (next_falls m nest (whole some a.working.going) u (seat u).done j a.piece (subst (λ (x : Epoch B). suc j < x.first + share_of m x (seat u).done (suc u)) same (subst (λ n. n < to m s.epochs (seat u).done u) is high)))))

  finish_row : (u : ℕ) → (IsWorking m s u Empty × (s.trap ≡ None)) ⊎ ((k : ℕ) × IsAt m s u k Finishes × (to m s.epochs (seat u).done u ≤ suc k)) → measure m nest (state_after m s u DoFinish) < measure m nest s
  finish_row u (inl (w, none)) =
      let some : 0 < length s.epochs = (let l : (seat u).done < length s.epochs = (hand_now u Empty w).1 in omega arith) in
      hand_falls some w.going u Empty (seat_after m s (seat u) DoFinish) s.words s.trap w.own w.calm w.holds (empty_falls m nest (whole some w.going) u (seat u).done)
  finish_row u (inr (k, a, last)) =
      let some : 0 < length s.epochs = runs_some u k a.piece a.working in
      hand_falls some a.working.going u (Running k a.piece) (seat_after m s (seat u) DoFinish) s.words s.trap a.working.own a.working.calm a.working.holds (finish_falls m nest (whole some a.working.going) u (seat u).done k a.piece)

  trap_row : (u k : ℕ) (cause : Cause) (line : Line) → IsAt m s u k (Traps cause line) → measure m nest (state_after m s u (DoTrap k cause line)) < measure m nest s
  trap_row u k cause line a =
      let some : 0 < length s.epochs = runs_some u k a.piece a.working in
      hand_falls some a.working.going u (Running k a.piece) (seat_after m s (seat u) (DoTrap k cause line)) s.words (Some (place_of_trap cause line k false)) a.working.own a.working.calm a.working.holds (omega arith)

  stop_row : (u : ℕ) (hand : Hand P) (t : Place) → IsWorking m s u hand → (hand ≡ Stopped → ⊥) → s.trap ≡ Some t → measure m nest (state_after m s u DoStop) < measure m nest s
  stop_row u hand t w moves is =
      let ok = (i.sound w.calm).trapped t is in
      let lt : (plan m i.first s.next s.epochs).epoch t.number < length s.epochs = (found m nest what i.first s.next s.epochs t.number i.chain ok.inside.0 ok.inside.1).is_open in
      let some : 0 < length s.epochs = omega arith in
      hand_falls some w.going u hand (seat_after m s (seat u) DoStop) s.words s.trap w.own w.calm w.holds (stop_falls m nest (whole some w.going) u (seat u).done hand moves)

  fail_row : (u k : ℕ) (cause : Cause) (line : Line) → IsAt m s u k (Traps cause line) → 0 < s.distance → measure m nest (state_after m s u DoFail) < measure m nest s
  fail_row u k cause line a far =
      let some : 0 < length s.epochs = runs_some u k a.piece a.working in
      segment_falls some a.working.going s.words s.distance (slice_set s.seats u (record (seat_at s.seats u) { hand = Idle })) s.passed (Some (Fails (record { epoch = done_at s.seats u; worker = u }))) s.trap s.facts
      (subst (λ o. letting_go m nest (slice_set s.seats u (record (seat_at s.seats u) { hand = Idle })) + suc (whole_weight m nest (whole some a.working.going)) < segment_weight m nest (whole some a.working.going) o s.distance s.seats s.passed) (sym a.working.calm) (live (whole some a.working.going) s.distance far (failing_less m nest (whole some a.working.going) s.seats u k a.piece i.width a.working.own a.working.holds)))
    where
      live : {n : ℕ} (epochs : List (Epoch B)) (distance : ℕ) → 0 < distance → n < run_weight m nest epochs s.seats → n + suc (whole_weight m nest epochs) < live_weight m nest epochs distance s.seats s.passed
      live epochs zero far less = absurd (omega arith)
      live epochs (suc distance) far less = omega (arith, less)

  let_go_row : (u : ℕ) → u < m.width → s.concluded ≡ false → IsSome s.abort → is_running (seat u).hand ≡ true → measure m nest (state_after m s u DoLetGo) < measure m nest s
  let_go_row u own going held runs = by_abort s.abort refl held
    where
      some_runs : (hand : Hand P) → is_running hand ≡ true → 0 < lets_go m nest hand
      some_runs Idle is = absurd (true≢false (sym is))
      some_runs Empty is = omega arith
      some_runs (Running k piece) is = omega arith
      some_runs Stopped is = absurd (true≢false (sym is))

      by_abort : (abort : Option Abort) → s.abort ≡ abort → IsSome abort → measure m nest (state_after m s u DoLetGo) < measure m nest s
      by_abort None is none = absurd (true≢false (sym none))
      by_abort (Some cause) is held =
          let some : 0 < length s.epochs = (i.aborted cause is).given in
          let less : letting_go m nest (slice_set s.seats u (record (seat_at s.seats u) { hand = Idle })) < letting_go m nest s.seats = let_go_falls m nest s.seats u i.width own (some_runs (seat u).hand runs) in
          segment_falls some going s.words s.distance (slice_set s.seats u (record (seat_at s.seats u) { hand = Idle })) s.passed s.abort s.trap s.facts
          (subst (λ o. segment_weight m nest (whole some going) o s.distance (slice_set s.seats u (record (seat_at s.seats u) { hand = Idle })) s.passed < segment_weight m nest (whole some going) o s.distance s.seats s.passed) (sym is) (omega (arith, less)))

  restore_row : (u : ℕ) (cause : Abort) → s.concluded ≡ false → s.abort ≡ Some cause → measure m nest (state_after m s u (DoRestore cause)) < measure m nest s
  restore_row u cause going is =
      let some : 0 < length s.epochs = (i.aborted cause is).given in
      segment_falls some going s.mark 0 (replicate m.width fresh_seat) [] None s.trap (restored cause s.facts)
      (subst (λ o. whole_weight m nest (whole some going) < segment_weight m nest (whole some going) o s.distance s.seats s.passed) (sym is) (omega arith))

  -- the checker
  module _ (p : Pair) (going : s.concluded ≡ false) (calm : s.abort ≡ None) (is : due m.width s ≡ Some p) where
    pair_is : IsPair m.width (length s.epochs) p
    pair_is = pairs_in m.width (length s.epochs) p (is_due m.width s p is).among

    some_epoch : 0 < length s.epochs
    some_epoch = let l : p.late.epoch < length s.epochs = pair_is.late in omega arith

    is_far : 0 < s.distance
    is_far = ⊎_elim (λ l. l) (λ (le : s.distance ≤ 0). absurd (none_due m nest what start noted setup s trace i calm (let z : s.distance ≡ 0 = omega arith in z) p is)) (cases_lt 0 s.distance)

    among_whole : In p (pairs m.width (length (whole some_epoch going)))
    among_whole = in_pairs m.width (length (whole some_epoch going)) p (record { rises = pair_is.rises; late = (let a : p.late.epoch < length s.epochs = pair_is.late in let b : length s.epochs ≤ length (whole some_epoch going) = longer some_epoch going in omega arith); early_own = pair_is.early_own; late_own = pair_is.late_own; differ = pair_is.differ })

    fewer_left : pairs_left m nest (whole some_epoch going) (s.passed ++ p ∷ []) < pairs_left m nest (whole some_epoch going) s.passed
    fewer_left = filter_lt (λ q. not (is_passed s.passed q)) (λ q. not (is_passed (s.passed ++ p ∷ []) q)) (pairs m.width (length (whole some_epoch going))) p
        (λ q open_still. not_from_false (is_passed s.passed q) (false_from_ne_true (is_passed s.passed q) (λ passed. true≢false (sym (passed_more s.passed p q passed) ∙ not-true _ open_still))))
        among_whole
        (not_from_false _ (is_due m.width s p is).unpassed)
        (not_from_true _ (passed_last s.passed p))

    check_falls : (u : ℕ) → measure m nest (state_after m s u (DoCheck p)) < measure m nest s
    check_falls u = segment_falls some_epoch going s.words s.distance s.seats (s.passed ++ p ∷ []) s.abort s.trap (checked s.facts)
        (subst (λ o. segment_weight m nest (whole some_epoch going) o s.distance s.seats (s.passed ++ p ∷ []) < segment_weight m nest (whole some_epoch going) o s.distance s.seats s.passed) (sym calm) (live (whole some_epoch going) s.distance is_far fewer_left))
      where
        live : (epochs : List (Epoch B)) (distance : ℕ) → 0 < distance → pairs_left m nest epochs (s.passed ++ p ∷ []) < pairs_left m nest epochs s.passed → live_weight m nest epochs distance s.seats (s.passed ++ p ∷ []) < live_weight m nest epochs distance s.seats s.passed
        live epochs zero far less = absurd (omega arith)
        live epochs (suc distance) far less = omega (arith, less)

    abort_falls : (u array : ℕ) → measure m nest (state_after m s u (DoAbort p array)) < measure m nest s
    abort_falls u array = segment_falls some_epoch going s.words s.distance s.seats s.passed (Some (Overlaps p array)) s.trap (checked s.facts)
        (subst (λ o. letting_go m nest s.seats + suc (whole_weight m nest (whole some_epoch going)) < segment_weight m nest (whole some_epoch going) o s.distance s.seats s.passed) (sym calm) (live (whole some_epoch going) s.distance is_far fewer_left (letting_less m nest (whole some_epoch going) s.seats)))
      where
        live : (epochs : List (Epoch B)) {n k : ℕ} (distance : ℕ) → 0 < distance → k < pairs_left m nest epochs s.passed → n ≤ run_weight m nest epochs s.seats → n + suc (whole_weight m nest epochs) < live_weight m nest epochs distance s.seats s.passed
        live epochs zero far less le = absurd (omega arith)
        live epochs (suc distance) far less le = omega (arith, less, le)

  -- the scheduler: an event is passed, and the segments stay
  passes : (t : State B C P G) → t.concluded ≡ false → s.concluded ≡ false → length (ahead m nest t.early t.cursor t.next) < length (ahead m nest s.early s.cursor s.next) → segments_weight m nest t (segments_ahead m nest t.early t.cursor t.next t.epochs) ≡ segments_weight m nest s segs → measure m nest t < measure m nest s
  passes t going_t going less same =
      let a : measure m nest t ≡ going_weight m nest t = ap (over_weight m nest t) going_t in
      let b : measure m nest s ≡ going_weight m nest s = going_is going in
      omega (arith, same)

  module _ (free : IsFree m s m.width) (facts : Facts) where
    now : Going m nest what s.next s.cursor
    now = i.course free.undisturbed

    ahead_is : (event : Event B C) → m.event s.cursor ≡ event → ahead m nest s.early s.cursor s.next ≡ coming_from m nest (coming m nest (length (events nest))) s.next event
    ahead_is event is = ap (λ e. ahead m nest e s.cursor s.next) free.undisturbed ∙ coming_is m nest what now.events s.next s.cursor now.behind ∙ ap (coming_from m nest (coming m nest (length (events nest))) s.next) is

    -- one event, with what comes behind it
    one_less : (this : Coming B) (purpose : Purpose) (trap : Option Trap) (rest : C) → ahead m nest s.early s.cursor s.next ≡ this ∷ behind_trap trap (coming m nest (length (events nest)) rest s.next) → segs ≡ segments_of m.room s.epochs (behind_trap trap (coming m nest (length (events nest)) rest s.next)) → measure m nest (scalar_after m (record s { facts = facts }) purpose trap rest) < measure m nest s
    one_less this purpose None rest is same = passes (scalar_after m (record s { facts = facts }) purpose None rest) free.going.going free.going.going
        (let a : length (ahead m nest s.early s.cursor s.next) ≡ suc (length (coming m nest (length (events nest)) rest s.next)) = ap length is in let b : length (ahead m nest s.early rest s.next) ≡ length (coming m nest (length (events nest)) rest s.next) = ap (λ e. length (ahead m nest e rest s.next)) free.undisturbed in omega arith)
        (ap (segments_weight m nest s) (ap (λ e. segments_ahead m nest e rest s.next s.epochs) free.undisturbed ∙ sym same))
    one_less this purpose (Some trap) rest is same = passes (scalar_after m (record s { facts = facts }) purpose (Some trap) rest) free.going.going free.going.going
        (let a : length (ahead m nest s.early s.cursor s.next) ≡ 1 = ap length is in omega arith)
        (ap (segments_weight m nest s) (sym same))

  free_at : (u : ℕ) → IsFree m s u → IsFree m s m.width
  free_at u free = record { going = record { actor = refl; going = free.going.going; calm = free.going.calm }; unsealed = free.unsealed; untrapped = free.untrapped; undisturbed = free.undisturbed }

  drain_row : (u : ℕ) (purpose : Purpose) (traps : List ℤ → Option Trap) (rests : List ℤ → C) → IsFree m s u → s.epochs ≡ [] → m.event s.cursor ≡ Drain purpose traps rests → measure m nest (state_after m s u (DoDrain purpose (traps s.words) (rests s.words))) < measure m nest s
  drain_row u purpose traps rests free none is =
      let reach = at_mark m nest what start noted setup s trace i free.going.calm none in
      let f = free_at u free in
      one_less f _ Drains purpose (traps s.words) (rests s.words)
      (ahead_is f s.facts (Drain purpose traps rests) is ∙ ap (λ o. option_map_or (λ w. Drains ∷ behind_trap (traps w) (coming m nest (length (events nest)) (rests w) s.next)) o []) reach)
      (ap (segments_ahead m nest s.early s.cursor s.next) none ∙ drain_ahead m nest what start s s.words free.undisturbed (i.course free.undisturbed) purpose traps rests is reach ∙ ap (λ l. segments_of m.room l (behind_trap (traps s.words) (coming m nest (length (events nest)) (rests s.words) s.next))) (sym none))

  open_row : (u : ℕ) (b : B) (n : ℕ) (rest : C) → IsFree m s u → length s.epochs < m.room → m.event s.cursor ≡ Invoke b n rest → measure m nest (state_after m s u (DoOpen b n rest)) < measure m nest s
  open_row u b n rest free lt is =
      let f = free_at u free in
      passes (state_after m s u (DoOpen b n rest)) free.going.going free.going.going
      (let a : length (ahead m nest s.early s.cursor s.next) ≡ suc (length (coming m nest (length (events nest)) rest (s.next + n))) = ap length (ahead_is f s.facts (Invoke b n rest) is) in let c : length (ahead m nest s.early rest (s.next + n)) ≡ length (coming m nest (length (events nest)) rest (s.next + n)) = ap (λ e. length (ahead m nest e rest (s.next + n))) free.undisturbed in omega arith)
      (ap (segments_weight m nest s) (ap (λ e. segments_ahead m nest e rest (s.next + n) (s.epochs ++ record { first = s.next; count = n; body = b } ∷ [])) free.undisturbed ∙ sym (open_ahead m nest what start s free.undisturbed (i.course free.undisturbed) b n rest is lt)))

  close_row : (u : ℕ) → IsGoing m s u → s.sealed ≡ false → 0 < length s.epochs → measure m nest (state_after m s u DoClose) < measure m nest s
  close_row u going unsealed some =
      let a : measure m nest (state_after m s u DoClose) ≡ suc (length (ahead m nest s.early s.cursor s.next) + (segment_weight m nest (whole some going.going) s.abort s.distance s.seats s.passed + 1 + sum_by (coming_weight m nest) (segment some).others)) = ap (over_weight m nest (state_after m s u DoClose)) going.going ∙ ap (λ l. suc (length (ahead m nest s.early s.cursor s.next) + segments_weight m nest (state_after m s u DoClose) l)) (segment some).are in
      let b : measure m nest s ≡ suc (length (ahead m nest s.early s.cursor s.next) + (segment_weight m nest (whole some going.going) s.abort s.distance s.seats s.passed + seal_weight m nest s.sealed + sum_by (coming_weight m nest) (segment some).others)) = now_is some going.going in
      let c : seal_weight m nest s.sealed ≡ 2 = ap (seal_weight m nest) unsealed in
      omega arith

  -- behind a commit the next segment is begun from nothing
  fresh_weight : (t : State B C P G) → t.abort ≡ None → t.distance ≡ m.far → t.seats ≡ replicate m.width fresh_seat → t.passed ≡ [] → t.sealed ≡ false → (others : List (List (Epoch B))) → segments_weight m nest t others ≡ sum_by (coming_weight m nest) others
  fresh_weight t abort distance seats passed unsealed [] = refl
  fresh_weight t abort distance seats passed unsealed (epochs ∷ others) =
      let a : segment_weight m nest epochs t.abort t.distance t.seats t.passed ≡ live_weight m nest epochs m.far (replicate m.width fresh_seat) [] = ap (λ o. segment_weight m nest epochs o t.distance t.seats t.passed) abort ∙ ap (λ d. live_weight m nest epochs d t.seats t.passed) distance ∙ ap (λ l. live_weight m nest epochs m.far l t.passed) seats ∙ ap (live_weight m nest epochs m.far (replicate m.width fresh_seat)) passed in
      let b : seal_weight m nest t.sealed ≡ 2 = ap (seal_weight m nest) unsealed in
      let c : sum_by (coming_weight m nest) (epochs ∷ others) ≡ coming_weight m nest epochs + sum_by (coming_weight m nest) others = sum_by-cons (coming_weight m nest) epochs others in
      let e : segment_weight m nest epochs t.abort t.distance t.seats t.passed + seal_weight m nest t.sealed + sum_by (coming_weight m nest) others ≡ sum_by (coming_weight m nest) (epochs ∷ others) = omega arith in
      e

  commit_row : (u : ℕ) → IsGoing m s u → s.sealed ≡ true → measure m nest (state_after m s u DoCommit) < measure m nest s
  commit_row u going sealed =
      let rest : List (List (Epoch B)) = segments_ahead m nest s.early s.cursor s.next [] in
      let a : measure m nest (state_after m s u DoCommit) ≡ suc (length (ahead m nest s.early s.cursor s.next) + sum_by (coming_weight m nest) (segments_ahead m nest s.early s.cursor s.next [])) = ap (over_weight m nest (state_after m s u DoCommit)) going.going ∙ ap (λ n. suc (length (ahead m nest s.early s.cursor s.next) + n)) (fresh_weight (state_after m s u DoCommit) refl refl refl refl refl (segments_ahead m nest s.early s.cursor s.next [])) in
      let b : measure m nest s ≡ suc (length (ahead m nest s.early s.cursor s.next) + (segment_weight m nest s.epochs s.abort s.distance s.seats s.passed + seal_weight m nest s.sealed + sum_by (coming_weight m nest) (segments_ahead m nest s.early s.cursor s.next []))) = going_is going.going ∙ ap (λ l. suc (length (ahead m nest s.early s.cursor s.next) + segments_weight m nest s l)) (i.segments.whole sealed) in
      let c : seal_weight m nest s.sealed ≡ 1 = ap (seal_weight m nest) sealed in
      omega arith

  conclude_row : (u : ℕ) → s.concluded ≡ false → measure m nest (state_after m s u DoConclude) < measure m nest s
  conclude_row u going = let b : measure m nest s ≡ going_weight m nest s = going_is going in omega arith

  -- each row falls
  pub falls_row : (u : ℕ) (move : Move B C P) → Enabled m s u move → measure m nest (state_after m s u move) < measure m nest s
  falls_row u (DoScalar purpose trap rest) (free, lt, is) = one_less (free_at u free) s.facts Computes purpose trap rest (ahead_is (free_at u free) s.facts (Scalar purpose trap rest) is) (scalar_ahead m nest what start s free.undisturbed (i.course free.undisturbed) purpose trap rest is s.epochs)
  falls_row u (DoDrain purpose trap rest) (traps, rests, free, none, is, trap_is, rest_is) = subst (λ t. measure m nest (state_after m s u (DoDrain purpose t rest)) < measure m nest s) trap_is (subst (λ c. measure m nest (state_after m s u (DoDrain purpose (traps s.words) c)) < measure m nest s) rest_is (drain_row u purpose traps rests free none is))
  falls_row u (DoOpen b n rest) (free, lt, is) = open_row u b n rest free lt is
  falls_row u DoClose (going, unsealed, untrapped, some, why) = close_row u going unsealed some
  falls_row u DoCommit (going, sealed, untrapped, all_done, all_passed) = commit_row u going sealed
  falls_row u (DoRestore cause) (own, going, is, rest) = restore_row u cause going is
  falls_row u DoConclude (going, why) = conclude_row u going.going
  falls_row u (DoBegin hand) (working, lt, near, below, is) = begin_row u hand working lt is
  falls_row u (DoRead k w next) a = go_row u k a.piece (next (word_at s.words w)) (seat_after m s (seat u) (DoRead k w next)) s.words a.working refl refl (read_fuel u k w next a.piece (m.system.fixed w) a.working a.stops refl)
  falls_row u (DoWrite k w value next) a = go_row u k a.piece next (seat_after m s (seat u) (DoWrite k w value next)) (with_word s.words w value) a.working refl refl (left_write m.system (family_of m.system.fixed nest k) (part k trace) a.piece w value next k (left_now u k a.piece a.working) a.stops).2
  falls_row u (DoGo k next) a = go_row u k a.piece next (seat_after m s (seat u) (DoGo k next)) s.words a.working refl refl (left_go m.system (family_of m.system.fixed nest k) (part k trace) a.piece next (left_now u k a.piece a.working) a.stops).1
  falls_row u (DoNext k piece) (j, a, is, high, begins) = next_row u j k piece a is high begins
  falls_row u DoFinish why = finish_row u why
  falls_row u DoFail (k, cause, line, a, far) = fail_row u k cause line a far
  falls_row u (DoTrap k cause line) (a, near) = trap_row u k cause line a
  falls_row u DoLetGo (own, going, held, runs) = let_go_row u own going held runs
  falls_row u DoStop (hand, trap, working, moves, is, none) = stop_row u hand trap working moves is
  falls_row u (DoCheck p) (own, going, calm, untrapped, is, apart) = check_falls p going calm is u
  falls_row u (DoAbort p array) (own, going, calm, untrapped, is, overlaps) = abort_falls p going calm is u array

  pub falls_step : (u : ℕ) (t : State B C P G) → step m s u ≡ Some t → measure m nest t < measure m nest s
  falls_step u t e = go (move_of m s u) refl e
    where
      go : (o : Option (Move B C P)) → move_of m s u ≡ o → option_map (state_after m s u) o ≡ Some t → measure m nest t < measure m nest s
      go None is at = absurd (let no : None ≡ Some t = at in cc)
      go (Some move) is at = let same : state_after m s u move ≡ t = cc in subst (λ x. measure m nest x < measure m nest s) same (falls_row u move (row_enabled m nest what start noted setup s trace i u move is))

module _ {B C P G : Type 0} (m : Setup B C P G) (nest : Nest) (what : B × ℕ → ℕ × List ℤ) (start : C) (noted : G → Claims) (setup : IsSetupFor m nest what start noted) where
  run_falls_all : (history : List ℕ) (s t : State B C P G) (trace : List Access) → Invariant m nest what start noted s trace → run (step m) s history ≡ Some t → length history + measure m nest t ≤ measure m nest s
  run_falls_all history s t trace i e = along m (λ s history t. (trace : List Access) → Invariant m nest what start noted s trace → length history + measure m nest t ≤ measure m nest s) (λ s trace i. omega arith) (λ s t u move history is rest more trace i.
      let l : length history + measure m nest t ≤ measure m nest (state_after m s u move) = more (trace_after m trace s.words move) (kept m nest what start noted setup s trace i u move is) in
      let f : measure m nest (state_after m s u move) < measure m nest s = falls_row m nest what start noted setup s trace i u move (row_enabled m nest what start noted setup s trace i u move is) in
      omega arith) history s t e trace i

pub falls : (B C P G : Type 0) → StepsFall B C P G
falls B C P G m nest what start noted setup history s t actor leads e = falls_step m nest what start noted setup s (trace_from m (opening m start nest.opening) [] history) (holds m nest what start noted setup history s leads) actor t e

pub is_bounded : (B C P G : Type 0) → HistoriesAreBounded B C P G
is_bounded B C P G m nest what start noted setup history s leads = let l : length history + measure m nest s ≤ measure m nest (opening m start nest.opening) = run_falls_all m nest what start noted setup history (opening m start nest.opening) s [] (invariant_opening m nest what start noted setup) leads in omega arith
