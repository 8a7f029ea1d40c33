-- The rows of a worker, each with what it says of the worker's own seat.
use Rattle.std.proofs.Common.{◌≡◌, ℕ, suc, ◌+◌, ◌<◌, ◌≤◌, ◌⊎◌, ℤ, Bool, true, false, if◌then◌else◌, Option, Some, None, List, [], ◌∷◌, ◌++◌, length, get_or, slice_set, nat_lt, refl, sym, ap, ◌∙◌, subst, inl, inr, ⊎_elim, arith, length-append}
use Rattle.std.proofs.lemmas.Bool.{cases_eq, cases_lt, cases_order, ltb-true, ltb-false}
use Rattle.std.proofs.lemmas.List.{get_or_push, get_or_past}
use Rattle.nest_syntax.specs.declared.names.Line.{Line}
use Rattle.nest_syntax.specs.declared.operators.Cause.{Cause}
use Rattle.nest_syntax.specs.declared.place.Place.{Place}
use Rattle.nest_syntax.specs.Outcome.{place_of_trap}
use Rattle.settle_law.specs.Traces.{Access, part}
use Rattle.settle_law.specs.Tasks.{Left, Finishes, Traps}
use Rattle.settle_law.specs.Claims.{Claims}
use Rattle.settle_law.specs.Courses.{Nest, family_of}
use Rattle.settle_law.proofs.Tasks.{left_finished, left_trapped}
use Rattle.spec_machine.specs.Facts.{Pair}
use Rattle.spec_machine.specs.Machine.{Setup, Seat, Hand, Idle, Empty, Running, Stopped, is_stopped, Epoch, seat_at, done_at, dones, saw, saw_in, from, to, piece_at, first_hand}
use Rattle.spec_machine.specs.Table.{NotAbove}
use Rattle.spec_machine.specs.Theorems.{IsSetupFor}
use Rattle.spec_machine.specs.Invariant.{Plan, plan, Inside, IsOf, Chain, Done, BelowTrap, HandOk, SeatOk, TrapOk, Sound}
use Rattle.spec_machine.proofs.Guards.{not_stopped}
use Rattle.spec_machine.proofs.Plans.{epochs_rise, of_block, in_block, piece_begins}
use Rattle.spec_machine.proofs.Seats.{get_default, seat_same, dones_at, IsGrown, grown_begin, grown_finish, done_more}
use Rattle.spec_machine.proofs.Sounds.{sound_seat, sound_hand, trap_kept}

module _ {B C P G : Type 0} (m : Setup B C P G) (nest : Nest) (what : B × ℕ → ℕ × List ℤ) (start : C) (noted : G → Claims) (setup : IsSetupFor m nest what start noted) (first next : ℕ) (epochs : List (Epoch B)) (chain : Chain m nest what first next epochs) (mark words : List ℤ) (seats : List (Seat P G)) (distance : ℕ) (cleared : List Pair) (trap : Option Place) (trace : List Access) (width : length seats ≡ m.width) (i : Sound m nest noted (plan m first next epochs) mark words seats distance cleared trap trace) (u : ℕ) (own : u < m.width) where
  abbrev pub plan_now : Plan
  plan_now = plan m first next epochs

  abbrev pub seat : Seat P G
  seat = seat_at seats u

  abbrev pub SoundWith : Option Place → Seat P G → Type 0
  SoundWith new_trap y = Sound m nest noted plan_now mark words (slice_set seats u y) distance cleared new_trap trace

  abbrev pub HandNow : Option Place → Hand P → Type 0
  HandNow new_trap hand = HandOk m nest noted plan_now trace new_trap u seat.done (length seat.seen) hand

  pub hand_is : (hand : Hand P) → seat.hand ≡ hand → HandNow trap hand
  hand_is hand h = subst (HandNow trap) h (i.crew u own).hand

  -- another hand for the same task
  with_hand : (hand : Hand P) (new_trap : Option Place) → HandNow new_trap hand → SeatOk m nest noted plan_now trace new_trap u (record seat { hand = hand; done = seat.done })
  with_hand hand new_trap ok = let old = i.crew u own in record { bounded = old.bounded; begun = old.begun; signs = old.signs; before = old.before; later = old.later; hand = ok }

  same_trap : (hand : Hand P) (moves : seat.hand ≡ Stopped → ⊥) → (done : ℕ) → seat.done ≤ done → SeatOk m nest noted plan_now trace trap u (record seat { hand = hand; done = done }) → SoundWith trap (record seat { hand = hand; done = done })
  same_trap hand moves done le ok = sound_hand m nest what start noted setup first next epochs chain mark words seats distance cleared trap trace width i u own hand done le trap ok (λ v lt old. old) (trap_kept m nest what start noted setup first next epochs chain mark words seats distance cleared trap trace width i u own (record seat { hand = hand; done = done }) (grown_finish m noted seat hand done le) moves)

  runs : (k : ℕ) (piece : P) → seat.hand ≡ Running k piece → seat.hand ≡ Stopped → ⊥
  runs k piece h stops = let f : Running k piece ≡ Stopped = sym h ∙ stops in cc

  -- it goes on
  pub row_go : (k : ℕ) (piece after : P) → seat.hand ≡ Running k piece → Left m.system (family_of m.system.fixed nest k) (part k trace) after → SoundWith trap (record seat { hand = Running k after; done = seat.done })
  row_go k piece after h new = let ok = hand_is (Running k piece) h in same_trap (Running k after) (runs k piece h) seat.done (omega arith) (with_hand (Running k after) trap (ok.0, ok.1, record { of_task = ok.2.of_task; left = new; before = ok.2.before; behind = ok.2.behind }))

  -- the iteration that it runs is inside the block
  pub block_low : (k : ℕ) (piece : P) → seat.hand ≡ Running k piece → (from m epochs seat.done u ≤ k) × (k < to m epochs seat.done u)
  block_low k piece h = let of = (hand_is (Running k piece) h).2.of_task in let b = in_block m nest what start noted setup first next epochs chain k of.0 in
      subst (λ e. (from m epochs e u ≤ k) × (k < to m epochs e u)) of.1 (subst (λ v. (from m epochs (plan_now.epoch k) v ≤ k) × (k < to m epochs (plan_now.epoch k) v)) of.2 (b.low, b.high))

  -- the next iteration stands
  pub row_next : (k : ℕ) (piece : P) → seat.hand ≡ Running k piece → m.system.stop piece ≡ Finishes → suc k < to m epochs seat.done u → SoundWith trap (record seat { hand = Running (suc k) (piece_at m epochs seat.done (suc k)); done = seat.done })
  row_next k piece h stop high =
      let ok = hand_is (Running k piece) h in
      let r = ok.2 in
      let low : from m epochs seat.done u ≤ k = (block_low k piece h).0 in
      let of : IsOf plan_now seat.done u (suc k) = of_block m nest what start noted setup first next epochs chain seat.done u (suc k) ok.1 own (omega arith) high in
      same_trap (Running (suc k) (piece_at m epochs seat.done (suc k))) (runs k piece h) seat.done (omega arith) (with_hand (Running (suc k) (piece_at m epochs seat.done (suc k))) trap (
        ok.0,
        ok.1,
        record {
          of_task = of;
          left = subst (λ made. Left m.system (family_of m.system.fixed nest (suc k)) made (piece_at m epochs seat.done (suc k))) (sym (r.behind (suc k) of (omega arith))) (piece_begins m nest what start noted setup first next epochs chain seat.done u (suc k) ok.1 own (omega arith) high);
          before = λ j mine lt. up_to k piece h stop j mine (omega arith);
          behind = λ j mine lt. r.behind j mine (omega arith);
        },
      ))
    where
      up_to : (k : ℕ) (piece : P) → seat.hand ≡ Running k piece → m.system.stop piece ≡ Finishes → (j : ℕ) → IsOf plan_now seat.done u j → j ≤ k → Done m nest noted plan_now trace j
      up_to k piece h stop j mine le = ⊎_elim
          (λ same. subst (Done m nest noted plan_now trace) (sym same) (left_finished m.system (family_of m.system.fixed nest k) (part k trace) piece (hand_is (Running k piece) h).2.left stop))
          (λ other. (hand_is (Running k piece) h).2.before j mine (omega arith))
          (cases_eq j k)

  -- a task is finished, where all its iterations are done
  finish_ok : seat.done < plan_now.count → length seat.seen ≡ suc seat.done → ((j : ℕ) → IsOf plan_now seat.done u j → Done m nest noted plan_now trace j) → SeatOk m nest noted plan_now trace trap u (record seat { hand = Idle; done = suc seat.done })
  finish_ok lt begun all = let old = i.crew u own in record {
    bounded = lt;
    begun = omega (arith, begun);
    signs = old.signs;
    before = λ j inside mine l. ⊎_elim (λ less. old.before j inside mine less) (λ ge. all j (inside, (let e : plan_now.epoch j ≡ seat.done = omega arith in e), mine)) (cases_lt (plan_now.epoch j) seat.done);
    later = λ j inside mine l. old.later j inside mine (omega arith);
    hand = (begun, λ j of. let e : plan_now.epoch j ≡ suc seat.done = of.1 in old.later j of.0 of.2 (omega arith));
  }

  pub row_finish : (k : ℕ) (piece : P) → seat.hand ≡ Running k piece → m.system.stop piece ≡ Finishes → to m epochs seat.done u ≤ suc k → SoundWith trap (record seat { hand = Idle; done = suc seat.done })
  row_finish k piece h stop last = same_trap Idle (runs k piece h) (suc seat.done) (omega arith) (finish_ok (hand_is (Running k piece) h).1 (hand_is (Running k piece) h).0 all)
    where
      high_is : (j : ℕ) → IsOf plan_now seat.done u j → j < to m epochs seat.done u
      high_is j of = let b = in_block m nest what start noted setup first next epochs chain j of.0 in subst (λ e. j < to m epochs e u) of.1 (subst (λ v. j < to m epochs (plan_now.epoch j) v) of.2 b.high)

      all : (j : ℕ) → IsOf plan_now seat.done u j → Done m nest noted plan_now trace j
      all j of = let l : j < to m epochs seat.done u = high_is j of in ⊎_elim
          (λ same. subst (Done m nest noted plan_now trace) (sym same) (left_finished m.system (family_of m.system.fixed nest k) (part k trace) piece (hand_is (Running k piece) h).2.left stop))
          (λ other. (hand_is (Running k piece) h).2.before j of (omega arith))
          (cases_eq j k)

  pub row_empty : seat.hand ≡ Empty → SoundWith trap (record seat { hand = Idle; done = suc seat.done })
  row_empty h = let ok = hand_is Empty h in same_trap Idle (not_stopped seat.hand (ap is_stopped h)) (suc seat.done) (omega arith) (finish_ok ok.1 ok.0 (λ j of. absurd (ok.2 j of)))

  -- a worker stops: its iterations below the trap are done
  pub row_stop : (hand : Hand P) (t : Place) → seat.hand ≡ hand → (hand ≡ Stopped → ⊥) → trap ≡ Some t → ((j : ℕ) → IsOf plan_now seat.done u j → j < t.number → Done m nest noted plan_now trace j) → SoundWith trap (record seat { hand = Stopped; done = seat.done })
  row_stop hand t h moves is present = same_trap Stopped (λ stops. moves (sym h ∙ stops)) seat.done (omega arith) (with_hand Stopped trap (begun hand (hand_is hand h) moves, subst (λ o. BelowTrap m nest noted plan_now trace o u) (sym is) below))
    where
      begun : (hand : Hand P) → HandNow trap hand → (hand ≡ Stopped → ⊥) → length seat.seen ≤ suc seat.done
      begun Idle ok moves = let e : length seat.seen ≡ seat.done = ok.0 in omega arith
      begun Empty ok moves = let e : length seat.seen ≡ suc seat.done = ok.0 in omega arith
      begun (Running k piece) ok moves = let e : length seat.seen ≡ suc seat.done = ok.0 in omega arith
      begun Stopped ok moves = absurd (moves refl)

      below : (j : ℕ) → Inside plan_now j → plan_now.owner j ≡ u → j < t.number → Done m nest noted plan_now trace j
      below j inside mine lt = ⊎_elim
          (λ same. present j (inside, same, mine) lt)
          (λ other. ⊎_elim
          (λ less. (i.crew u own).before j inside mine less)
          (λ more. absurd (let r : plan_now.epoch t.number ≤ seat.done = (i.trapped t is).reached u own in let e : plan_now.epoch j ≤ plan_now.epoch t.number = epochs_rise m nest what epochs j t.number (omega arith) in omega arith))
          other)
          (cases_order (plan_now.epoch j) seat.done)

  -- an iteration traps at distance 0
  pub row_trap : (k : ℕ) (piece : P) (cause : Cause) (line : Line) → seat.hand ≡ Running k piece → m.system.stop piece ≡ Traps cause line → NotAbove trap k → distance ≡ 0 → SoundWith (Some (place_of_trap cause line k false)) (record seat { hand = Stopped; done = seat.done })
  row_trap k piece cause line h stop below near = sound_hand m nest what start noted setup first next epochs chain mark words seats distance cleared trap trace width i u own Stopped seat.done (omega arith) (Some t) (with_hand Stopped (Some t) ((let e : length seat.seen ≡ suc seat.done = ok.0 in omega arith), lower)) (λ v lt old. others v old) (λ place is. subst (TrapOk m nest noted plan_now (slice_set seats u (record seat { hand = Stopped; done = seat.done })) trace) (let e : Some t ≡ Some place = is in some_is e) trap_ok)
    where
      t : Place
      t = place_of_trap cause line k false

      some_is : {p q : Place} → Some p ≡ Some q → p ≡ q
      some_is e = cc

      ok : HandNow trap (Running k piece)
      ok = hand_is (Running k piece) h

      lower : (j : ℕ) → Inside plan_now j → plan_now.owner j ≡ u → j < k → Done m nest noted plan_now trace j
      lower j inside mine lt = ⊎_elim
          (λ less. (i.crew u own).before j inside mine less)
          (λ ge. ok.2.before j (inside, (let x : plan_now.epoch j ≤ plan_now.epoch k = epochs_rise m nest what epochs j k (omega arith) in let y : plan_now.epoch k ≡ seat.done = ok.2.of_task.1 in let e : plan_now.epoch j ≡ seat.done = omega arith in e), mine) lt)
          (cases_lt (plan_now.epoch j) seat.done)

      below_more : (o : Option Place) (v : ℕ) → NotAbove o k → BelowTrap m nest noted plan_now trace o v → BelowTrap m nest noted plan_now trace (Some t) v
      below_more None v le old = absurd old
      below_more (Some place) v le old = λ j inside mine lt. let l : k ≤ place.number = le in old j inside mine (omega arith)

      hand_more : (v done begun : ℕ) (hand : Hand P) → HandOk m nest noted plan_now trace trap v done begun hand → HandOk m nest noted plan_now trace (Some t) v done begun hand
      hand_more v done begun Idle old = old
      hand_more v done begun Empty old = old
      hand_more v done begun (Running j q) old = old
      hand_more v done begun Stopped (le, old) = (le, below_more trap v below old)

      others : (v : ℕ) → SeatOk m nest noted plan_now trace trap v (seat_at seats v) → SeatOk m nest noted plan_now trace (Some t) v (seat_at seats v)
      others v old = record { bounded = old.bounded; begun = old.begun; signs = old.signs; before = old.before; later = old.later; hand = hand_more v (done_at seats v) (length (seat_at seats v).seen) (seat_at seats v).hand old.hand }

      within : u < length seats
      within = omega (arith, width)

      trap_ok : TrapOk m nest noted plan_now (slice_set seats u (record seat { hand = Stopped; done = seat.done })) trace t
      trap_ok = record {
        inside = ok.2.of_task.0;
        of_iteration = refl;
        reached = λ v lt.
            let a : seat.done ≤ saw seats seat.done u v + distance = i.near u v seat.done own lt (let e : length seat.seen ≡ suc seat.done = ok.0 in omega arith) in
            let b : saw seats seat.done u v ≤ done_at seats v = i.seen u seat.done v in
            let c : done_at seats v ≤ done_at (slice_set seats u (record seat { hand = Stopped; done = seat.done })) v = done_more m noted seats u (record seat { hand = Stopped; done = seat.done }) within (grown_finish m noted seat Stopped seat.done (omega arith)) v in
            let d : plan_now.epoch k ≡ seat.done = ok.2.of_task.1 in
            omega (arith, near);
        trapped = left_trapped m.system (family_of m.system.fixed nest k) (part k trace) piece cause line ok.2.left stop;
        stopped = subst (λ v. (seat_at (slice_set seats u (record seat { hand = Stopped; done = seat.done })) v).hand ≡ Stopped) (sym ok.2.of_task.2) (ap (λ (x : Seat P G). x.hand) (seat_same seats u (record seat { hand = Stopped; done = seat.done }) within));
      }

  -- a worker begins its next task
  abbrev pub begun_seat : Seat P G
  begun_seat = record seat { hand = first_hand m epochs seat.done u; seen = seat.seen ++ dones seats ∷ []; signs = seat.signs ++ m.kind.blank ∷ [] }

  pub row_begin : seat.hand ≡ Idle → seat.done < length epochs → ((v : ℕ) → v < m.width → seat.done ≤ done_at seats v + distance) → SoundWith trap begun_seat
  row_begin h lt near = sound_seat m nest what start noted setup first next epochs chain mark words seats distance cleared trap trace width i u own begun_seat grown trap ok saw_now near_now (λ e. get_default seat.signs e m.kind.blank) (λ v l old. old) (trap_kept m nest what start noted setup first next epochs chain mark words seats distance cleared trap trace width i u own begun_seat grown (not_stopped seat.hand (ap is_stopped h)))
    where
      grown : IsGrown m noted seat begun_seat
      grown = grown_begin m noted seat (first_hand m epochs seat.done u) (dones seats)

      idle : HandNow trap Idle
      idle = hand_is Idle h

      longer : length (seat.seen ++ dones seats ∷ []) ≡ suc seat.done
      longer = let a : length (seat.seen ++ dones seats ∷ []) ≡ length seat.seen + 1 = length-append seat.seen (dones seats ∷ []) in let b : length seat.seen ≡ seat.done = idle.0 in let c : length (seat.seen ++ dones seats ∷ []) ≡ suc seat.done = omega arith in c

      hand_begun : (t : Bool) → nat_lt (from m epochs seat.done u) (to m epochs seat.done u) ≡ t → HandOk m nest noted plan_now trace trap u seat.done (length (seat.seen ++ dones seats ∷ [])) (if t then Running (from m epochs seat.done u) (piece_at m epochs seat.done (from m epochs seat.done u)) else Empty)
      hand_begun true is = let high : from m epochs seat.done u < to m epochs seat.done u = ltb-true _ _ is in let of : IsOf plan_now seat.done u (from m epochs seat.done u) = of_block m nest what start noted setup first next epochs chain seat.done u (from m epochs seat.done u) lt own (omega arith) high in (
        longer,
        lt,
        record {
          of_task = of;
          left = subst (λ made. Left m.system (family_of m.system.fixed nest (from m epochs seat.done u)) made (piece_at m epochs seat.done (from m epochs seat.done u))) (sym (idle.1 (from m epochs seat.done u) of)) (piece_begins m nest what start noted setup first next epochs chain seat.done u (from m epochs seat.done u) lt own (omega arith) high);
          before = λ j mine l. absurd (let low : from m epochs seat.done u ≤ j = low_is j mine in omega arith);
          behind = λ j mine l. idle.1 j mine;
        },
      )
        where
          low_is : (j : ℕ) → IsOf plan_now seat.done u j → from m epochs seat.done u ≤ j
          low_is j of = let b = in_block m nest what start noted setup first next epochs chain j of.0 in subst (λ e. from m epochs e u ≤ j) of.1 (subst (λ v. from m epochs (plan_now.epoch j) v ≤ j) of.2 b.low)
      hand_begun false is = (longer, lt, λ j of. let b = in_block m nest what start noted setup first next epochs chain j of.0 in let l : to m epochs seat.done u ≤ from m epochs seat.done u = ltb-false _ _ is in let both : (from m epochs seat.done u ≤ j) × (j < to m epochs seat.done u) = subst (λ e. (from m epochs e u ≤ j) × (j < to m epochs e u)) of.1 (subst (λ v. (from m epochs (plan_now.epoch j) v ≤ j) × (j < to m epochs (plan_now.epoch j) v)) of.2 (b.low, b.high)) in none both.0 both.1 l)
        where
          none : {a j b : ℕ} → a ≤ j → j < b → b ≤ a → ⊥
          none x y z = omega arith

      ok : SeatOk m nest noted plan_now trace trap u begun_seat
      ok = let old = i.crew u own in record {
        bounded = old.bounded;
        begun = omega (arith, longer);
        signs = (let a : length (seat.signs ++ m.kind.blank ∷ []) ≡ length seat.signs + 1 = length-append seat.signs (m.kind.blank ∷ []) in let b : length (seat.seen ++ dones seats ∷ []) ≡ length seat.seen + 1 = length-append seat.seen (dones seats ∷ []) in let c : length seat.signs ≡ length seat.seen = old.signs in let d : length (seat.signs ++ m.kind.blank ∷ []) ≡ length (seat.seen ++ dones seats ∷ []) = omega arith in d);
        before = old.before;
        later = old.later;
        hand = hand_begun (nat_lt (from m epochs seat.done u) (to m epochs seat.done u)) refl;
      }

      within : u < length seats
      within = omega (arith, width)

      more : (v : ℕ) → done_at seats v ≤ done_at (slice_set seats u begun_seat) v
      more v = done_more m noted seats u begun_seat within grown v

      new_is : (e v : ℕ) → length seat.seen ≡ e → saw_in begun_seat e v ≡ done_at seats v
      new_is e v at = ap (λ l. get_or l v 0) (get_or_push seat.seen (dones seats) [] e at) ∙ dones_at seats v

      saw_now : (e v : ℕ) → saw_in begun_seat e v ≤ done_at (slice_set seats u begun_seat) v
      saw_now e v = by_order (cases_order e (length seat.seen))
        where
          by_order : (e ≡ length seat.seen) ⊎ ((e < length seat.seen) ⊎ (length seat.seen < e)) → saw_in begun_seat e v ≤ done_at (slice_set seats u begun_seat) v
          by_order (inl same) = let a : saw_in begun_seat e v ≡ done_at seats v = new_is e v (sym same) in let b : done_at seats v ≤ done_at (slice_set seats u begun_seat) v = more v in omega arith
          by_order (inr (inl less)) = let a : saw_in begun_seat e v ≡ saw_in seat e v = grown.saw e v less in let b : saw_in seat e v ≤ done_at seats v = i.seen u e v in let c : done_at seats v ≤ done_at (slice_set seats u begun_seat) v = more v in omega arith
          by_order (inr (inr past)) = let a : saw_in begun_seat e v ≡ 0 = ap (λ l. get_or l v 0) (get_or_past (seat.seen ++ dones seats ∷ []) e [] (let n : length (seat.seen ++ dones seats ∷ []) ≡ length seat.seen + 1 = length-append seat.seen (dones seats ∷ []) in omega arith)) in omega arith

      near_now : (v e : ℕ) → v < m.width → e < length (seat.seen ++ dones seats ∷ []) → e ≤ saw_in begun_seat e v + distance
      near_now v e lv l = ⊎_elim
          (λ less. let a : saw_in begun_seat e v ≡ saw_in seat e v = grown.saw e v less in let b : e ≤ saw_in seat e v + distance = i.near u v e own lv less in omega arith)
          (λ ge. let b : length seat.seen ≡ seat.done = idle.0 in let same : length seat.seen ≡ e = omega (arith, longer) in let a : saw_in begun_seat e v ≡ done_at seats v = new_is e v same in let c : seat.done ≤ done_at seats v + distance = near v lv in omega arith)
          (cases_lt e (length seat.seen))
