-- What each legal history keeps within bounds: the counts of rollbacks and of checks, and how many tasks are finished.
use Rattle.std.proofs.Common.{◌≡◌, ℕ, suc, ◌+◌, ◌-◌, ◌*◌, ◌≤◌, ◌⊎◌, ℤ, Bool, true, false, cond, Option, Some, None, List, [], ◌∷◌, ◌++◌, length, replicate, slice_set, refl, sym, ap, ◌∙◌, subst, inl, inr, ⊎_elim, arith, length-append}
use Rattle.std.specs.List.{filter}
use Rattle.std.proofs.lemmas.Bool.{cases_lt, cases_eq}
use Rattle.std.proofs.lemmas.List.{get_or_past, length-set}
use Rattle.std.proofs.lemmas.List.Sums.{length-filter, count_by-le-length}
use Rattle.std.proofs.lemmas.Grind.{flat_map-append}
use Rattle.std.proofs.lemmas.Nat.{mul-le}
use Rattle.nest_syntax.specs.Course.{Ordinary, Header}
use Rattle.settle_law.specs.Traces.{Access}
use Rattle.settle_law.specs.Claims.{Claims}
use Rattle.settle_law.specs.Courses.{Nest}
use Rattle.spec_machine.specs.Facts.{Pair, Abort}
use Rattle.spec_machine.specs.Machine.{Setup, State, Seat, Hand, Empty, Running, Epoch, Move, DoScalar, DoDrain, DoOpen, DoClose, DoCommit, DoRestore, DoConclude, DoBegin, DoRead, DoWrite, DoGo, DoNext, DoFinish, DoFail, DoTrap, DoLetGo, DoStop, DoCheck, DoAbort, fresh_seat, opening, state_after, seat_at, done_at, seat_after, is_passed, below, pairs, pairs_late}
use Rattle.spec_machine.specs.Table.{In, IsWorking, Enabled}
use Rattle.spec_machine.specs.Theorems.{IsSetupFor, Leads}
use Rattle.spec_machine.specs.Invariant.{plan, HandOk}
use Rattle.spec_machine.specs.Runs.{trace_after}
use Rattle.spec_machine.proofs.Seats.{seat_same, seat_other}
use Rattle.spec_machine.proofs.Due.{is_due, fresh_at}
use Rattle.spec_machine.proofs.Crew.{hand_is}
use Rattle.spec_machine.proofs.Pairs.{counted}
use Rattle.spec_machine.proofs.Weights.{filter_lt, passed_more, passed_last}
use Rattle.spec_machine.proofs.Runs.{Inv, along, kept, row_enabled, invariant_opening, none_due}

filter_longer : {A : Type 0} (test : A → Bool) (xs ys : List A) → length (filter test xs) ≤ length (filter test (xs ++ ys))
filter_longer test [] ys = omega arith
filter_longer test (x ∷ xs) ys = go (test x) (filter_longer test xs ys)
  where
    go : (t : Bool) → length (filter test xs) ≤ length (filter test (xs ++ ys)) → length (cond t (x ∷ filter test xs) (filter test xs)) ≤ length (cond t (x ∷ filter test (xs ++ ys)) (filter test (xs ++ ys)))
    go true more = omega (arith, more)
    go false more = more

-- where a kept abort is to be restored
abbrev pub given : Option Abort → ℕ
given None = 0
given (Some cause) = 1

pub given_one : (abort : Option Abort) → given abort ≤ 1
given_one None = omega arith
given_one (Some cause) = omega arith

-- a seat that is replaced, or none where its number is no worker's
pub seat_set : {P G : Type 0} (Q : Seat P G → Type 0) (seats : List (Seat P G)) (u v : ℕ) (y : Seat P G) → Q fresh_seat → Q y → Q (seat_at seats v) → Q (seat_at (slice_set seats u y) v)
seat_set Q seats u v y none new old = ⊎_elim
    (λ (same : v ≡ u). ⊎_elim
    (λ inside. subst Q (sym (ap (seat_at (slice_set seats u y)) same ∙ seat_same seats u y inside)) new)
    (λ (outside : length seats ≤ u). let past : length (slice_set seats u y) ≤ v = omega (arith, length-set seats u y, same, outside) in subst Q (sym (get_or_past (slice_set seats u y) v fresh_seat past)) none)
    (cases_lt u (length seats)))
    (λ other. subst Q (sym (seat_other seats u v y other)) old)
    (cases_eq v u)

-- the pairs of 8 workers in 64 epochs
pub few_pairs : (width n : ℕ) → width ≤ 8 → n ≤ 64 → length (pairs width n) ≤ 112896
few_pairs width n few short =
    let two = counted width n in
    let workers : width * (width - 1) ≤ 8 * 7 = mul-le width (width - 1) 8 7 few (omega (arith, few)) in
    let epochs : n * (n - 1) ≤ 64 * 63 = mul-le n (n - 1) 64 63 short (omega (arith, short)) in
    let all : width * (width - 1) * (n * (n - 1)) ≤ 8 * 7 * (64 * 63) = mul-le (width * (width - 1)) (n * (n - 1)) (8 * 7) (64 * 63) workers epochs in
    omega (arith, two, all)

module _ {B C P G : Type 0} (m : Setup B C P G) (nest : Nest) (what : B × ℕ → ℕ × List ℤ) (start : C) (noted : G → Claims) (setup : IsSetupFor m nest what start noted) where
  -- what holds of the opening, and is kept by each row that is enabled, holds of each state that a legal history leaves
  pub along_legal : (Q : State B C P G → Type 0) → Q (opening m start nest.opening) → ((s : State B C P G) (trace : List Access) → Inv m nest what start noted setup s trace → (u : ℕ) (move : Move B C P) → Enabled m s u move → Q s → Q (state_after m s u move))
      → (history : List ℕ) (s : State B C P G) → Leads m nest start history s → Q s
  along_legal Q begins row history s leads =
      along m (λ s history t. (trace : List Access) → Inv m nest what start noted setup s trace → Q s → Q t) (λ s trace i holds. holds)
      (λ s t u move history is rest more trace i holds.
      more (trace_after m trace s.words move) (kept m nest what start noted setup s trace i u move is) (row s trace i u move (row_enabled m nest what start noted setup s trace i u move is) holds))
      history (opening m start nest.opening) s leads [] (invariant_opening m nest what start noted setup) begins

  -- A segment is restored once at most. No pair is passed twice, so a run of a segment has no more checks than pairs, and
  -- one that finds an overlap.
  pub record IsBounded (segments rollbacks checks : ℕ) (epochs : List (Epoch B)) (seats : List (Seat P G)) (passed : List Pair) (distance : ℕ) (abort : Option Abort) : Type 0 where
    pub once : (rollbacks ≤ segments) ⊎ ((rollbacks ≤ suc segments) × (distance ≡ 0) × (abort ≡ None))
    pub pairs_passed : length passed ≤ length (filter (is_passed passed) (pairs m.width (length epochs)))
    pub few_checks : checks ≤ (segments + rollbacks) * 112897 + length passed + given abort
    pub done : (u : ℕ) → done_at seats u ≤ length epochs

  abbrev pub Bounded : State B C P G → Type 0
  Bounded s = IsBounded s.facts.segments s.facts.rollbacks s.facts.checks s.epochs s.seats s.passed s.distance s.abort

  fresh_done : (n u k : ℕ) → done_at (replicate n (fresh_seat {P = P} {G = G})) u ≤ k
  fresh_done n u k = subst (λ (x : Seat P G). x.done ≤ k) (sym (fresh_at n u)) (omega arith)

  module _ (few : (n : ℕ) → n ≤ m.room → length (pairs m.width n) ≤ 112896) where
    pub few_passed : (passed : List Pair) (n : ℕ) → n ≤ m.room → length passed ≤ length (filter (is_passed passed) (pairs m.width n)) → length passed ≤ 112896
    few_passed passed n room most =
        let among : length (filter (is_passed passed) (pairs m.width n)) ≤ length (pairs m.width n) = subst (λ k. k ≤ length (pairs m.width n)) (sym (length-filter (is_passed passed) (pairs m.width n))) (count_by-le-length (is_passed passed) (pairs m.width n)) in
        let all = few n room in
        omega (arith, most, among, all)

    module _ (s : State B C P G) (trace : List Access) (i : Inv m nest what start noted setup s trace) (b : Bounded s) where
      seated : (u : ℕ) (y : Seat P G) → y.done ≤ length s.epochs → IsBounded s.facts.segments s.facts.rollbacks s.facts.checks s.epochs (slice_set s.seats u y) s.passed s.distance s.abort
      seated u y new = record { once = b.once; pairs_passed = b.pairs_passed; few_checks = b.few_checks; done = λ v. seat_set (λ (x : Seat P G). x.done ≤ length s.epochs) s.seats u v y (omega arith) new (b.done v) }

      stays : (u : ℕ) (y : Seat P G) → y.done ≡ done_at s.seats u → IsBounded s.facts.segments s.facts.rollbacks s.facts.checks s.epochs (slice_set s.seats u y) s.passed s.distance s.abort
      stays u y same = seated u y (subst (λ n. n ≤ length s.epochs) (sym same) (b.done u))

      hand_now : (u : ℕ) (hand : Hand P) → IsWorking m s u hand → HandOk m nest noted (plan m i.first s.next s.epochs) trace s.trap u (seat_at s.seats u).done (length (seat_at s.seats u).seen) hand
      hand_now u hand w = hand_is m nest what start noted setup i.first s.next s.epochs i.chain s.mark s.words s.seats s.distance s.passed s.trap trace i.width (i.sound w.calm) u w.own hand w.holds

      -- one epoch more
      more_pairs : (x : Epoch B) → length s.passed ≤ length (filter (is_passed s.passed) (pairs m.width (length (s.epochs ++ x ∷ []))))
      more_pairs x =
          let one : length (s.epochs ++ x ∷ []) ≡ suc (length s.epochs) = length-append s.epochs (x ∷ []) ∙ (let e : length s.epochs + 1 ≡ suc (length s.epochs) = omega arith in e) in
          let all : pairs m.width (length (s.epochs ++ x ∷ [])) ≡ pairs m.width (length s.epochs) ++ (pairs_late m.width (length s.epochs) ++ []) = ap (pairs m.width) one ∙ flat_map-append (pairs_late m.width) (below (length s.epochs)) (length s.epochs ∷ []) in
          let more : length (filter (is_passed s.passed) (pairs m.width (length s.epochs))) ≤ length (filter (is_passed s.passed) (pairs m.width (length s.epochs) ++ (pairs_late m.width (length s.epochs) ++ []))) =
          filter_longer (is_passed s.passed) (pairs m.width (length s.epochs)) (pairs_late m.width (length s.epochs) ++ []) in
          subst (λ xs. length s.passed ≤ length (filter (is_passed s.passed) xs)) (sym all) (omega (arith, b.pairs_passed, more))

      longer : (x : Epoch B) (u : ℕ) → done_at s.seats u ≤ length (s.epochs ++ x ∷ [])
      longer x u = let one = length-append s.epochs (x ∷ []) in omega (arith, one, b.done u)

      -- while an abort is kept, a rollback more is within the segments
      not_restored : (cause : Abort) → s.abort ≡ Some cause → s.facts.rollbacks ≤ s.facts.segments
      not_restored cause is = ⊎_elim (λ le. le) (λ r. absurd (let no : None ≡ Some cause = sym r.2 ∙ is in cc)) b.once

      -- and so it is where one is found at a distance
      far_off : (s.distance ≡ 0 → ⊥) → s.facts.rollbacks ≤ s.facts.segments
      far_off far = ⊎_elim (λ le. le) (λ r. absurd (far r.1)) b.once

      -- a pair more is passed
      one_passed : (p : Pair) → is_passed s.passed p ≡ false → In p (pairs m.width (length s.epochs)) → length (s.passed ++ p ∷ []) ≤ length (filter (is_passed (s.passed ++ p ∷ [])) (pairs m.width (length s.epochs)))
      one_passed p unpassed among =
          let less = filter_lt (is_passed (s.passed ++ p ∷ [])) (is_passed s.passed) (pairs m.width (length s.epochs)) p (λ q is. passed_more s.passed p q is) among (passed_last s.passed p) unpassed in
          let one = length-append s.passed (p ∷ []) in
          omega (arith, b.pairs_passed, less, one)

      row : (u : ℕ) (move : Move B C P) → Enabled m s u move → Bounded (state_after m s u move)
      row u (DoScalar purpose (Some trap) rest) g = b
      row u (DoScalar Ordinary None rest) g = b
      row u (DoScalar Header None rest) g = b
      row u (DoDrain purpose (Some trap) rest) g = b
      row u (DoDrain Ordinary None rest) g = b
      row u (DoDrain Header None rest) g = b
      row u (DoOpen body n rest) g = record { once = b.once; pairs_passed = more_pairs (record { first = s.next; count = n; body = body }); few_checks = b.few_checks; done = longer (record { first = s.next; count = n; body = body }) }
      row u DoClose g = b
      row u DoCommit (going, whole, untrapped, finished, passed) =
          let calm : given s.abort ≡ 0 = ap given going.calm in
          let few_now = few_passed s.passed (length s.epochs) i.room b.pairs_passed in
          record {
            once = inl (⊎_elim (λ (le : s.facts.rollbacks ≤ s.facts.segments). let more : s.facts.rollbacks ≤ suc s.facts.segments = omega (arith, le) in more) (λ r. r.0) b.once);
            pairs_passed = omega arith;
            few_checks = omega (arith, b.few_checks, calm, few_now);
            done = λ v. fresh_done m.width v 0;
          }
      row u (DoRestore cause) (own, going, is, others) =
          let before = not_restored cause is in
          let one = given_one s.abort in
          let few_now = few_passed s.passed (length s.epochs) i.room b.pairs_passed in
          record {
            once = inr (omega (arith, before), refl, refl);
            pairs_passed = omega arith;
            few_checks = omega (arith, b.few_checks, one, few_now);
            done = λ v. fresh_done m.width v (length s.epochs);
          }
      row u DoConclude g = b
      row u (DoBegin hand) g = stays u (seat_after m s (seat_at s.seats u) (DoBegin hand)) refl
      row u (DoRead k w next) g = stays u (seat_after m s (seat_at s.seats u) (DoRead k w next)) refl
      row u (DoWrite k w value next) g = stays u (seat_after m s (seat_at s.seats u) (DoWrite k w value next)) refl
      row u (DoGo k next) g = stays u (seat_after m s (seat_at s.seats u) (DoGo k next)) refl
      row u (DoNext k piece) g = stays u (seat_after m s (seat_at s.seats u) (DoNext k piece)) refl
      row u DoFinish (inl (w, none)) = let less = (hand_now u Empty w).1 in seated u (seat_after m s (seat_at s.seats u) DoFinish) (omega (arith, less))
      row u DoFinish (inr (k, a, last)) = let less = (hand_now u (Running k a.piece) a.working).1 in seated u (seat_after m s (seat_at s.seats u) DoFinish) (omega (arith, less))
      row u DoFail (k, cause, line, a, far) =
          let seat = stays u (seat_after m s (seat_at s.seats u) DoFail) refl in
          let calm : given s.abort ≡ 0 = ap given a.working.calm in
          record { once = inl (far_off (λ near. absurd (omega (arith, near, far)))); pairs_passed = b.pairs_passed; few_checks = omega (arith, b.few_checks, calm); done = seat.done }
      row u (DoTrap k cause line) g = stays u (seat_after m s (seat_at s.seats u) (DoTrap k cause line)) refl
      row u DoLetGo g = stays u (seat_after m s (seat_at s.seats u) DoLetGo) refl
      row u DoStop g = stays u (seat_after m s (seat_at s.seats u) DoStop) refl
      row u (DoCheck p) (own, going, calm, untrapped, is, others) =
          let due = is_due m.width s p is in
          let one = length-append s.passed (p ∷ []) in
          record { once = b.once; pairs_passed = one_passed p due.unpassed due.among; few_checks = omega (arith, b.few_checks, one); done = b.done }
      row u (DoAbort p array) (own, going, calm, untrapped, is, others) =
          let none : given s.abort ≡ 0 = ap given calm in
          record { once = inl (far_off (λ near. none_due m nest what start noted setup s trace i calm near p is)); pairs_passed = b.pairs_passed; few_checks = omega (arith, b.few_checks, none); done = b.done }

    pub is_bounded : (history : List ℕ) (s : State B C P G) → Leads m nest start history s → Bounded s
    is_bounded = along_legal Bounded
        (record { once = inl (omega arith); pairs_passed = omega arith; few_checks = omega arith; done = λ u. fresh_done m.width u 0 })
        (λ s trace i u move g b. row s trace i b u move g)
