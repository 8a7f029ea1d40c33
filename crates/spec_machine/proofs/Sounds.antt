-- What holds of a segment while no abort is kept, kept by the rows of a worker.
use Rattle.std.proofs.Common.{◌≡◌, ℕ, suc, ◌+◌, ◌<◌, ◌≤◌, ◌⊎◌, ℤ, ◌==◌, Option, Some, None, List, [], ◌∷◌, ◌++◌, length, slice_set, refl, sym, ap, ◌∙◌, subst, inl, inr, ⊎_elim, arith, length-set}
use Rattle.std.proofs.lemmas.Bool.{cases_eq, cases_lt, or_cases, eqb-true}
use Rattle.std.proofs.lemmas.List.{get_or_past, get_or-set_same, get_or-set_other}
use Rattle.nest_syntax.specs.declared.place.Place.{Place}
use Rattle.settle_law.specs.Trees.{Tree}
use Rattle.settle_law.specs.Cuts.{plain, HoldsFixed}
use Rattle.settle_law.specs.Traces.{Access, Read, Write, iteration, Each, Pairs, Sees, apply, part, Fits, IsFinished, IsTrapped}
use Rattle.settle_law.specs.Tasks.{Left}
use Rattle.settle_law.specs.Claims.{Claims, Covers}
use Rattle.settle_law.specs.Courses.{Nest, family_of}
use Rattle.settle_law.proofs.Members.{Has, each_at, each_of, each_push, has_part, part_other}
use Rattle.settle_law.proofs.Push.{settle_push, replays_push, pairs_push, pairs_map, part_push_own, part_push_other}
use Rattle.spec_machine.specs.Signatures.{note}
use Rattle.spec_machine.specs.Facts.{Pair}
use Rattle.spec_machine.specs.Machine.{Setup, Seat, Hand, Idle, Empty, Running, Stopped, Epoch, fresh_seat, seat_at, done_at, saw, saw_in}
use Rattle.spec_machine.specs.Table.{In}
use Rattle.spec_machine.specs.Theorems.{IsSetupFor}
use Rattle.spec_machine.specs.Invariant.{Plan, plan, Inside, IsOf, Chain, Done, IsNoted, IsBefore, BelowTrap, HandOk, SeatOk, PassedOk, IsTold, TrapOk, Sound}
use Rattle.spec_machine.proofs.Lists.{in_left, in_right}
use Rattle.spec_machine.proofs.Plans.{epochs_rise}
use Rattle.spec_machine.proofs.Seats.{finished_stays, seat_same, seat_other, each_seat, IsGrown, sign_of, grown_note, grown_finish, grown_at, done_more, unordered_same, overlap_same, covers_more, note_covers}

pub no_part : (j : ℕ) (trace : List Access) → Each (λ a. iteration a ≡ j → ⊥) trace → part j trace ≡ []
no_part j [] each = refl
no_part j (a ∷ trace) each = part_other j a trace each.0 ∙ no_part j trace each.1

module _ {B C P G : Type 0} (m : Setup B C P G) (nest : Nest) (what : B × ℕ → ℕ × List ℤ) (start : C) (noted : G → Claims) (setup : IsSetupFor m nest what start noted) (first next : ℕ) (epochs : List (Epoch B)) (chain : Chain m nest what first next epochs) where
  abbrev pub S : Plan
  S = plan m first next epochs

  abbrev pub family : ℕ → Tree
  family = family_of m.system.fixed nest

  module _ (mark words : List ℤ) (seats : List (Seat P G)) (distance : ℕ) (cleared : List Pair) (trap : Option Place) (trace : List Access) (width : length seats ≡ m.width) (i : Sound m nest noted S mark words seats distance cleared trap trace) where
    abbrev pub seat : ℕ → Seat P G
    seat u = seat_at seats u

    pub begun_at : (v : ℕ) → done_at seats v ≤ length (seat v).seen
    begun_at v = ⊎_elim
        (λ l. (i.crew v l).begun)
        (λ (ge : m.width ≤ v). subst (λ (x : Seat P G). x.done ≤ length x.seen) (sym (get_or_past seats v fresh_seat (omega (arith, width)))) (omega arith))
        (cases_lt v m.width)

    -- an iteration that has an access
    pub noted_at : (a : Access) → Has a trace → IsNoted m nest noted S seats a
    noted_at a has = each_at (IsNoted m nest noted S seats) trace a i.accesses has

    -- a seat that has grown
    module _ (u : ℕ) (own : u < m.width) (y : Seat P G) (grown : IsGrown m noted (seat_at seats u) y) where
      abbrev pub after : List (Seat P G)
      after = slice_set seats u y

      pub inside : u < length seats
      inside = omega (arith, width)

      pub noted_kept : (a : Access) → IsNoted m nest noted S seats a → IsNoted m nest noted S after a
      noted_kept a n = record {
        inside = n.inside;
        own = n.own;
        begun = let l : length (seat (S.owner (iteration a))).seen ≤ length (seat_at after (S.owner (iteration a))).seen = (grown_at m noted seats u y inside grown (S.owner (iteration a))).longer in let b : S.epoch (iteration a) < length (seat (S.owner (iteration a))).seen = n.begun in omega arith;
        covers = covers_more m noted (noted (sign_of m noted (seat_at after (S.owner (iteration a))) (S.epoch (iteration a)))) (noted (sign_of m noted (seat (S.owner (iteration a))) (S.epoch (iteration a)))) a ((grown_at m noted seats u y inside grown (S.owner (iteration a))).holds (S.epoch (iteration a))) n.covers;
      }

      pub before_kept : (a b : Access) → IsNoted m nest noted S seats a → IsBefore m nest noted S seats a b → IsBefore m nest noted S after a b
      before_kept a b n old = record {
        own = old.own;
        unseen = λ lt. subst (λ x. x ≤ S.epoch (iteration b)) (sym ((grown_at m noted seats u y inside grown (S.owner (iteration a))).saw (S.epoch (iteration a)) (S.owner (iteration b)) n.begun)) (old.unseen lt);
      }

      pub pairs_kept : Pairs (IsBefore m nest noted S after) trace
      pairs_kept = pairs_map (IsBefore m nest noted S seats) (IsBefore m nest noted S after) trace (λ a b has_a has_b old. before_kept a b (noted_at a has_a) old) i.ordered

      pub seen_kept : ((e v : ℕ) → saw_in y e v ≤ done_at after v) → (w e v : ℕ) → saw after e w v ≤ done_at after v
      seen_kept mine w e v = each_seat (λ w x. (e v : ℕ) → saw_in x e v ≤ done_at after v) seats u y inside mine (λ w other e v. let a : saw seats e w v ≤ done_at seats v = i.seen w e v in let b : done_at seats v ≤ done_at after v = done_more m noted seats u y inside grown v in omega arith) w e v

      pub near_kept : ((v e : ℕ) → v < m.width → e < length y.seen → e ≤ saw_in y e v + distance) → (w v e : ℕ) → w < m.width → v < m.width → e < length (seat_at after w).seen → e ≤ saw after e w v + distance
      near_kept mine w v e lw lv lt = each_seat (λ w x. w < m.width → (v e : ℕ) → v < m.width → e < length x.seen → e ≤ saw_in x e v + distance) seats u y inside (λ l. mine) (λ w other l v e lv lt. i.near w v e l lv lt) w lw v e lv lt

      pub passed_kept : (p : Pair) → PassedOk m nest noted S seats p → PassedOk m nest noted S after p
      passed_kept p ok = record {
        early = (let a : p.early.epoch < done_at seats p.early.worker = ok.early in let b : done_at seats p.early.worker ≤ done_at after p.early.worker = done_more m noted seats u y inside grown p.early.worker in omega arith);
        late = (let a : p.late.epoch < done_at seats p.late.worker = ok.late in let b : done_at seats p.late.worker ≤ done_at after p.late.worker = done_more m noted seats u y inside grown p.late.worker in omega arith);
        apart = λ un. overlap_same m noted seats u y inside grown p ok.early ok.late ∙ ok.apart (sym (unordered_same m noted seats u y inside grown p (let a : p.late.epoch < done_at seats p.late.worker = ok.late in let b : done_at seats p.late.worker ≤ length (seat p.late.worker).seen = begun_at p.late.worker in omega arith)) ∙ un);
      }

      -- a kept trap, where this worker isn't stopped by it
      pub trap_kept : ((seat_at seats u).hand ≡ Stopped → ⊥) → (t : Place) → trap ≡ Some t → TrapOk m nest noted S after trace t
      trap_kept moves t is = let ok = i.trapped t is in record {
        inside = ok.inside;
        of_iteration = ok.of_iteration;
        reached = λ v lt. (let a : S.epoch t.number ≤ done_at seats v = ok.reached v lt in let b : done_at seats v ≤ done_at after v = done_more m noted seats u y inside grown v in omega arith);
        trapped = ok.trapped;
        stopped = ⊎_elim
            (λ same. absurd (moves (subst (λ w. (seat w).hand ≡ Stopped) same ok.stopped)))
            (λ other. ap (λ (x : Seat P G). x.hand) (seat_other seats u (S.owner t.number) y other) ∙ ok.stopped)
            (cases_eq (S.owner t.number) u);
      }

      -- a row without an access
      pub sound_seat : (new_trap : Option Place) → SeatOk m nest noted S trace new_trap u y → ((e v : ℕ) → saw_in y e v ≤ done_at after v) → ((v e : ℕ) → v < m.width → e < length y.seen → e ≤ saw_in y e v + distance) → ((e : ℕ) → sign_of m noted y e ≡ sign_of m noted (seat u) e) → ((v : ℕ) → v < m.width → SeatOk m nest noted S trace trap v (seat v) → SeatOk m nest noted S trace new_trap v (seat v)) → ((t : Place) → new_trap ≡ Some t → TrapOk m nest noted S after trace t) → Sound m nest noted S mark words after distance cleared new_trap trace
      sound_seat new_trap mine saw_mine near_mine signs others trapped = record {
        replays = i.replays;
        settles = i.settles;
        fixed_words = i.fixed_words;
        fits = i.fits;
        accesses = each_of (IsNoted m nest noted S after) trace (λ a has. noted_kept a (noted_at a has));
        ordered = pairs_kept;
        own = i.own;
        seen = seen_kept saw_mine;
        near = near_kept near_mine;
        crew = λ v lt. each_seat (λ w x. w < m.width → SeatOk m nest noted S trace new_trap w x) seats u y inside (λ l. mine) (λ w other l. others w l (i.crew w l)) v lt;
        passed = λ p among. passed_kept p (i.passed p among);
        told = λ e v lt. each_seat (λ w x. w < m.width → (e : ℕ) → IsTold m nest noted S trace e w (noted (sign_of m noted x e))) seats u y inside (λ l e. subst (λ g. IsTold m nest noted S trace e u (noted g)) (sym (signs e)) (i.told e u own)) (λ w other l e. i.told e w l) v lt e;
        trapped = trapped;
      }

    -- a row without an access, that sets the hand and perhaps counts a task
    pub sound_hand : (u : ℕ) → u < m.width → (hand : Hand P) (done : ℕ) → (seat u).done ≤ done → (new_trap : Option Place) → SeatOk m nest noted S trace new_trap u (record (seat_at seats u) { hand = hand; done = done }) → ((v : ℕ) → v < m.width → SeatOk m nest noted S trace trap v (seat v) → SeatOk m nest noted S trace new_trap v (seat v)) → ((t : Place) → new_trap ≡ Some t → TrapOk m nest noted S (slice_set seats u (record (seat_at seats u) { hand = hand; done = done })) trace t) → Sound m nest noted S mark words (slice_set seats u (record (seat_at seats u) { hand = hand; done = done })) distance cleared new_trap trace
    sound_hand u own hand done le new_trap mine others trapped =
        let y : Seat P G = record (seat_at seats u) { hand = hand; done = done } in
        sound_seat u own (record (seat_at seats u) { hand = hand; done = done }) (grown_finish m noted (seat_at seats u) hand done le) new_trap mine
        (λ e v. let a : saw seats e u v ≤ done_at seats v = i.seen u e v in let b : done_at seats v ≤ done_at (slice_set seats u (record (seat_at seats u) { hand = hand; done = done })) v = done_more m noted seats u (record (seat_at seats u) { hand = hand; done = done }) (omega (arith, width)) (grown_finish m noted (seat_at seats u) hand done le) v in omega arith)
        (λ v e lv lt. i.near u v e own lv lt)
        (λ e. refl)
        others trapped

    -- what a signature tells with one access more
    pub told_note : (a : Access) (e u : ℕ) (sign : G) → IsOf S e u (iteration a) → IsTold m nest noted S trace e u (noted sign) → IsTold m nest noted S (trace ++ a ∷ []) e u (noted (note m.kind a sign))
    told_note (Read k w value) e u sign of t = record {
      read = λ x r. ⊎_elim
          (λ same. let s : w ≡ x = eqb-true w x same in (k, value, of, subst (λ z. In (Read k z value) (trace ++ Read k w value ∷ [])) s (in_right (Read k w value) trace (Read k w value ∷ []) (inl refl))))
          (λ old. let y = t.read x old in (y.0, y.1, y.2, in_left (Read y.0 x y.1) trace (Read k w value ∷ []) y.3))
          (or_cases (w == x) ((noted sign).read x) (sym (setup.is_kind.read_reads w x sign) ∙ r));
      written = λ x r. let y = t.written x (sym (setup.is_kind.read_writes w x sign) ∙ r) in (y.0, y.1, y.2, in_left (Write y.0 x y.1) trace (Read k w value ∷ []) y.3);
    }
    told_note (Write k w value) e u sign of t = record {
      read = λ x r. let y = t.read x (sym (setup.is_kind.written_reads w x sign) ∙ r) in (y.0, y.1, y.2, in_left (Read y.0 x y.1) trace (Write k w value ∷ []) y.3);
      written = λ x r. ⊎_elim
          (λ same. let s : w ≡ x = eqb-true w x same in (k, value, of, subst (λ z. In (Write k z value) (trace ++ Write k w value ∷ [])) s (in_right (Write k w value) trace (Write k w value ∷ []) (inl refl))))
          (λ old. let y = t.written x old in (y.0, y.1, y.2, in_left (Write y.0 x y.1) trace (Write k w value ∷ []) y.3))
          (or_cases (w == x) ((noted sign).written x) (sym (setup.is_kind.written_writes w x sign) ∙ r));
    }

    -- a row with an access of the running iteration
    module _ (u k : ℕ) (piece after_piece : P) (a : Access) (own : u < m.width) (h : (seat_at seats u).hand ≡ Running k piece) (of_k : iteration a ≡ k) (new : Left m.system (family_of m.system.fixed nest k) (part k trace ++ a ∷ []) after_piece) (sees : Sees words a) (keeps_fixed : HoldsFixed m.system.fixed (apply words a)) where
      hand_ok : HandOk m nest noted S trace trap u (seat u).done (length (seat u).seen) (Running k piece)
      hand_ok = subst (HandOk m nest noted S trace trap u (seat u).done (length (seat u).seen)) h (i.crew u own).hand

      of_task : IsOf S (seat u).done u k
      of_task = hand_ok.2.of_task

      abbrev pub noting : Seat P G
      noting = record (seat_at seats u) { hand = Running k after_piece; signs = slice_set (seat_at seats u).signs (seat_at seats u).done (note m.kind a (sign_of m noted (seat_at seats u) (seat_at seats u).done)) }

      signed : (seat u).done < length (seat u).signs
      signed = let a : length (seat u).signs ≡ length (seat u).seen = (i.crew u own).signs in let b : length (seat u).seen ≡ suc (seat u).done = hand_ok.0 in omega arith

      grown : IsGrown m noted (seat_at seats u) noting
      grown = grown_note m noted setup.is_kind (seat_at seats u) (Running k after_piece) a signed

      others : (j : ℕ) → (j ≡ k → ⊥) → part j (trace ++ a ∷ []) ≡ part j trace
      others j other = part_push_other j trace a (λ same. other (sym same ∙ of_k))

      mine : part k (trace ++ a ∷ []) ≡ part k trace ++ a ∷ []
      mine = part_push_own k trace a of_k

      done_stays : (j : ℕ) → Done m nest noted S trace j → Done m nest noted S (trace ++ a ∷ []) j
      done_stays j d = ⊎_elim
          (λ same. absurd (finished_stays (family k) (part k trace) a (plain m.system.fixed new.left) (subst (λ x. IsFinished (family x) (part x trace)) same d) new.makes))
          (λ other. subst (IsFinished (family j)) (sym (others j other)) d)
          (cases_eq j k)

      -- no lower iteration of the worker stands behind it
      no_higher : (b : Access) → Has b trace → S.owner (iteration b) ≡ u → iteration b ≤ k
      no_higher b has mine = ⊎_elim
          (λ (higher : k < iteration b). absurd (subst (Has b) (none higher (cases_eq (S.epoch (iteration b)) (seat u).done)) (has_part (iteration b) b trace has refl)))
          (λ le. le)
          (cases_lt k (iteration b))
        where
          none : k < iteration b → (S.epoch (iteration b) ≡ (seat u).done) ⊎ (S.epoch (iteration b) ≡ (seat u).done → ⊥) → part (iteration b) trace ≡ []
          none higher (inl same) = hand_ok.2.behind (iteration b) ((noted_at b has).inside, same, mine) higher
          none higher (inr other) = (i.crew u own).later (iteration b) (noted_at b has).inside mine (let x : S.epoch k ≤ S.epoch (iteration b) = epochs_rise m nest what epochs k (iteration b) (omega arith) in let y : S.epoch k ≡ (seat u).done = of_task.1 in ⊎_elim (λ l. l) (λ (ge : S.epoch (iteration b) ≤ (seat u).done). absurd (other (let e : S.epoch (iteration b) ≡ (seat u).done = omega arith in e))) (cases_lt (seat u).done (S.epoch (iteration b))))

      -- the lower iterations of the worker are done
      lower_done : (j : ℕ) → Inside S j → S.owner j ≡ u → j < k → Done m nest noted S trace j
      lower_done j inside mine lt = ⊎_elim
          (λ l. (i.crew u own).before j inside mine l)
          (λ ge. hand_ok.2.before j (inside, (let x : S.epoch j ≤ S.epoch k = epochs_rise m nest what epochs j k (omega arith) in let y : S.epoch k ≡ (seat u).done = of_task.1 in let e : S.epoch j ≡ (seat u).done = omega arith in e), mine) lt)
          (cases_lt (S.epoch j) (seat u).done)

      not_owned : (v j : ℕ) → (v ≡ u → ⊥) → S.owner j ≡ v → j ≡ k → ⊥
      not_owned v j other mine same = other (sym mine ∙ ap S.owner same ∙ of_task.2)

      below_trap : (o : Option Place) (v : ℕ) → BelowTrap m nest noted S trace o v → BelowTrap m nest noted S (trace ++ a ∷ []) o v
      below_trap None v below = below
      below_trap (Some t) v below = λ j inside mine lt. done_stays j (below j inside mine lt)

      other_hand : (v done begun : ℕ) (hand : Hand P) → (v ≡ u → ⊥) → HandOk m nest noted S trace trap v done begun hand → HandOk m nest noted S (trace ++ a ∷ []) trap v done begun hand
      other_hand v done begun Idle other (e, none) = (e, λ j of. others j (not_owned v j other of.2) ∙ none j of)
      other_hand v done begun Empty other ok = ok
      other_hand v done begun (Running n q) other (e, l, r) = (
        e,
        l,
        record {
          of_task = r.of_task;
          left = subst (λ made. Left m.system (family n) made q) (sym (others n (not_owned v n other r.of_task.2))) r.left;
          before = λ j of lt. done_stays j (r.before j of lt);
          behind = λ j of lt. others j (not_owned v j other of.2) ∙ r.behind j of lt;
        },
      )
      other_hand v done begun Stopped other (le, below) = (le, below_trap trap v below)

      other_seat : (v : ℕ) (x : Seat P G) → (v ≡ u → ⊥) → SeatOk m nest noted S trace trap v x → SeatOk m nest noted S (trace ++ a ∷ []) trap v x
      other_seat v x other ok = record {
        bounded = ok.bounded;
        begun = ok.begun;
        signs = ok.signs;
        before = λ j inside mine lt. done_stays j (ok.before j inside mine lt);
        later = λ j inside mine lt. others j (not_owned v j other mine) ∙ ok.later j inside mine lt;
        hand = other_hand v x.done (length x.seen) x.hand other ok.hand;
      }

      own_seat : SeatOk m nest noted S (trace ++ a ∷ []) trap u noting
      own_seat = let ok = i.crew u own in record {
        bounded = ok.bounded;
        begun = ok.begun;
        signs = length-set (seat u).signs (seat u).done _ ∙ ok.signs;
        before = λ j inside mine lt. done_stays j (ok.before j inside mine lt);
        later = λ j inside owned lt. others j (λ same. let e : S.epoch j ≡ (seat u).done = ap S.epoch same ∙ of_task.1 in omega arith) ∙ ok.later j inside owned lt;
        hand = (
          hand_ok.0,
          hand_ok.1,
          record {
            of_task = of_task;
            left = subst (λ made. Left m.system (family k) made after_piece) (sym mine) new;
            before = λ j of lt. done_stays j (hand_ok.2.before j of lt);
            behind = λ j of lt. others j (λ same. omega arith) ∙ hand_ok.2.behind j of lt;
          },
        );
      }

      told_more : (e v : ℕ) (claims : Claims) → IsTold m nest noted S trace e v claims → IsTold m nest noted S (trace ++ a ∷ []) e v claims
      told_more e v claims t = record {
        read = λ w r. let x = t.read w r in (x.0, x.1, x.2, in_left (Read x.0 w x.1) trace (a ∷ []) x.3);
        written = λ w r. let x = t.written w r in (x.0, x.1, x.2, in_left (Write x.0 w x.1) trace (a ∷ []) x.3);
      }

      fits : (j : ℕ) → Fits (family j) (part j (trace ++ a ∷ []))
      fits j = ⊎_elim
          (λ same. subst (λ x. Fits (family x) (part x (trace ++ a ∷ []))) (sym same) (subst (Fits (family k)) (sym mine) (plain m.system.fixed new.left, new.makes)))
          (λ other. subst (Fits (family j)) (sym (others j other)) (i.fits j))
          (cases_eq j k)

      sign_mine : sign_of m noted noting (seat u).done ≡ note m.kind a (sign_of m noted (seat u) (seat u).done)
      sign_mine = get_or-set_same (seat u).signs (seat u).done (note m.kind a (sign_of m noted (seat u) (seat u).done)) m.kind.blank signed

      abbrev pub next_seats : List (Seat P G)
      next_seats = slice_set seats u noting

      within : u < length seats
      within = omega (arith, width)

      moves : (seat u).hand ≡ Stopped → ⊥
      moves stops = let f : Running k piece ≡ Stopped = sym h ∙ stops in cc

      at_a : IsOf S (seat u).done u (iteration a)
      at_a = subst (IsOf S (seat u).done u) (sym of_k) of_task

      new_noted : IsNoted m nest noted S next_seats a
      new_noted = record {
        inside = at_a.0;
        own = subst (λ x. x < m.width) (sym at_a.2) own;
        begun = subst (λ x. S.epoch (iteration a) < length (seat_at next_seats x).seen) (sym at_a.2) (subst (λ (x : Seat P G). S.epoch (iteration a) < length x.seen) (sym (seat_same seats u noting within)) (let b : length (seat u).seen ≡ suc (seat u).done = hand_ok.0 in let e : S.epoch (iteration a) ≡ (seat u).done = at_a.1 in omega arith));
        covers = subst (λ x. Covers (noted (sign_of m noted (seat_at next_seats x) (S.epoch (iteration a)))) a) (sym at_a.2)
            (subst (λ e. Covers (noted (sign_of m noted (seat_at next_seats u) e)) a) (sym at_a.1)
            (subst (λ (x : Seat P G). Covers (noted (sign_of m noted x (seat u).done)) a) (sym (seat_same seats u noting within))
            (subst (λ g. Covers (noted g) a) (sym sign_mine) (note_covers m noted setup.is_kind a (sign_of m noted (seat u) (seat u).done)))));
      }

      new_before : (b : Access) → Has b trace → IsBefore m nest noted S next_seats b a
      new_before b has = record {
        own = λ same. let l : iteration b ≤ k = no_higher b has (same ∙ at_a.2) in omega (arith, of_k);
        unseen = λ lt.
            let eb : ℕ = S.epoch (iteration b) in
            let e : saw next_seats (S.epoch (iteration b)) (S.owner (iteration b)) (S.owner (iteration a)) ≡ saw seats (S.epoch (iteration b)) (S.owner (iteration b)) (S.owner (iteration a)) = (grown_at m noted seats u noting within grown (S.owner (iteration b))).saw (S.epoch (iteration b)) (S.owner (iteration a)) (noted_at b has).begun in
            let r : saw seats (S.epoch (iteration b)) (S.owner (iteration b)) (S.owner (iteration a)) ≤ done_at seats (S.owner (iteration a)) = i.seen (S.owner (iteration b)) (S.epoch (iteration b)) (S.owner (iteration a)) in
            let d : done_at seats (S.owner (iteration a)) ≡ done_at seats u = ap (done_at seats) at_a.2 in
            let q : S.epoch (iteration a) ≡ done_at seats u = at_a.1 in
            omega arith;
      }

      told_mine : (e : ℕ) → IsTold m nest noted S (trace ++ a ∷ []) e u (noted (sign_of m noted noting e))
      told_mine e = ⊎_elim
          (λ same. subst (λ x. IsTold m nest noted S (trace ++ a ∷ []) x u (noted (sign_of m noted noting x))) (sym same) (subst (λ g. IsTold m nest noted S (trace ++ a ∷ []) (seat u).done u (noted g)) (sym sign_mine) (told_note a (seat u).done u (sign_of m noted (seat u) (seat u).done) at_a (i.told (seat u).done u own))))
          (λ other. subst (λ g. IsTold m nest noted S (trace ++ a ∷ []) e u (noted g)) (sym (get_or-set_other (seat u).signs (seat u).done e (note m.kind a (sign_of m noted (seat u) (seat u).done)) m.kind.blank other)) (told_more e u (noted (sign_of m noted (seat u) e)) (i.told e u own)))
          (cases_eq e (seat u).done)

      abbrev Lower : List Access → Access → Type 0
      Lower made b = (j : ℕ) → Inside S j → S.owner j ≡ S.owner (iteration b) → j < iteration b → Done m nest noted S made j

      pub sound_access : Sound m nest noted S mark (apply words a) next_seats distance cleared trap (trace ++ a ∷ [])
      sound_access = record {
        replays = replays_push mark trace a i.replays (subst (λ w. Sees w a) (sym i.settles) sees);
        settles = settle_push mark trace a ∙ ap (λ w. apply w a) i.settles;
        fixed_words = keeps_fixed;
        fits = fits;
        accesses = each_push (IsNoted m nest noted S next_seats) trace a (each_of (IsNoted m nest noted S next_seats) trace (λ b has. noted_kept u own noting grown b (noted_at b has))) new_noted;
        ordered = pairs_push (IsBefore m nest noted S next_seats) trace a (pairs_kept u own noting grown) (each_of (λ b. IsBefore m nest noted S next_seats b a) trace new_before);
        own = each_push (Lower (trace ++ a ∷ [])) trace a (each_of (Lower (trace ++ a ∷ [])) trace (λ b has j inside mine lt. done_stays j (each_at (Lower trace) trace b i.own has j inside mine lt))) (λ j inside mine lt. done_stays j (lower_done j inside (mine ∙ at_a.2) (omega (arith, of_k))));
        seen = seen_kept u own noting grown (λ e v. let x : saw seats e u v ≤ done_at seats v = i.seen u e v in let y : done_at seats v ≤ done_at next_seats v = done_more m noted seats u noting within grown v in omega arith);
        near = near_kept u own noting grown (λ v e lv lt. i.near u v e own lv lt);
        crew = λ v lt. each_seat (λ w x. w < m.width → SeatOk m nest noted S (trace ++ a ∷ []) trap w x) seats u noting within (λ l. own_seat) (λ w other l. other_seat w (seat w) other (i.crew w l)) v lt;
        passed = λ p among. passed_kept u own noting grown p (i.passed p among);
        told = λ e v lt. each_seat (λ w x. w < m.width → (e : ℕ) → IsTold m nest noted S (trace ++ a ∷ []) e w (noted (sign_of m noted x e))) seats u noting within (λ l. told_mine) (λ w other l e. told_more e w (noted (sign_of m noted (seat w) e)) (i.told e w l)) v lt e;
        trapped = λ t is. let old = trap_kept u own noting grown moves t is in record {
          inside = old.inside;
          of_iteration = old.of_iteration;
          reached = old.reached;
          trapped = subst (λ made. IsTrapped (family t.number) made t.cause t.line) (sym (others t.number (λ same. moves (subst (λ w. (seat w).hand ≡ Stopped) (ap S.owner same ∙ of_task.2) (i.trapped t is).stopped)))) (i.trapped t is).trapped;
          stopped = old.stopped;
        };
      }
