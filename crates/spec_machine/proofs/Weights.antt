-- Sums over workers, tasks and iterations, and what a worker has left to do.
use Rattle.std.proofs.Common.{◌≡◌, ℕ, zero, suc, ◌+◌, ◌-◌, ◌<◌, ◌≤◌, Bool, true, false, ◌||◌, ◌==◌, if◌then◌else◌, cond, List, [], ◌∷◌, ◌++◌, length, nat_lt, slice_set, refl, sym, ap, ◌∙◌, subst, inl, inr, ⊎_elim, arith}
use Rattle.std.proofs.lemmas.Bool.{cases_eq, eq-eqb, and_from, or_left, or_right, true≢false, ltb-true}
use Rattle.std.specs.List.{filter}
use Rattle.settle_law.specs.Courses.{Nest}
use Rattle.spec_machine.specs.Facts.{Task, Pair, same_task, same_pair}
use Rattle.spec_machine.specs.Machine.{Setup, Seat, Hand, Idle, Empty, Running, Stopped, Epoch, seat_at, is_passed, epoch_at, from, to, piece_at, first_hand}
use Rattle.spec_machine.specs.Table.{In}
use Rattle.spec_machine.specs.Measure.{sum_below, sum_from, iteration_weight, task_weight, tasks_weight, hand_weight, seat_weight, run_weight, lets_go, letting_go}
use Rattle.spec_machine.proofs.Seats.{each_seat, seat_same}

pub sum_le : (n : ℕ) (f g : ℕ → ℕ) → ((k : ℕ) → k < n → f k ≤ g k) → sum_below n f ≤ sum_below n g
sum_le zero f g each = omega arith
sum_le (suc n) f g each = let a : sum_below n f ≤ sum_below n g = sum_le n f g (λ k lt. each k (omega arith)) in let b : f n ≤ g n = each n (omega arith) in omega arith

pub sum_lt : (n : ℕ) (f g : ℕ → ℕ) (u : ℕ) → u < n → f u < g u → ((k : ℕ) → k < n → f k ≤ g k) → sum_below n f < sum_below n g
sum_lt zero f g u lt less each = absurd (omega arith)
sum_lt (suc n) f g u lt less each = ⊎_elim
    (λ (same : u ≡ n). let a : sum_below n f ≤ sum_below n g = sum_le n f g (λ k l. each k (omega arith)) in let b : f n < g n = subst (λ x. f x < g x) same less in omega arith)
    (λ other. let a : sum_below n f < sum_below n g = sum_lt n f g u (omega arith) less (λ k l. each k (omega arith)) in let b : f n ≤ g n = each n (omega arith) in omega arith)
    (cases_eq u n)

-- the first of several
pub front : (f : ℕ → ℕ) (k n rest : ℕ) → n ≡ suc rest → sum_from f k n ≡ f k + sum_from f (suc k) rest
front f k n rest is = ap (sum_from f k) is

-- fewer pass a test that one no longer passes
pub filter_le : {A : Type 0} (f g : A → Bool) (xs : List A) → ((x : A) → g x ≡ true → f x ≡ true) → length (filter g xs) ≤ length (filter f xs)
filter_le f g [] more = omega arith
filter_le f g (x ∷ xs) more = go (g x) (f x) refl refl (filter_le f g xs more)
  where
    go : (s t : Bool) → g x ≡ s → f x ≡ t → length (filter g xs) ≤ length (filter f xs) → length (cond s (x ∷ filter g xs) (filter g xs)) ≤ length (cond t (x ∷ filter f xs) (filter f xs))
    go true true a b le = omega arith
    go true false a b le = absurd (true≢false (sym (more x a) ∙ b))
    go false true a b le = omega arith
    go false false a b le = le

pub filter_lt : {A : Type 0} (f g : A → Bool) (xs : List A) (p : A) → ((x : A) → g x ≡ true → f x ≡ true) → In p xs → f p ≡ true → g p ≡ false → length (filter g xs) < length (filter f xs)
filter_lt f g [] p more among here gone = elim among [ ]
filter_lt f g (x ∷ xs) p more (inl same) here gone = go (g x) (f x) (ap g same ∙ gone) (ap f same ∙ here) (filter_le f g xs more)
  where
    go : (s t : Bool) → s ≡ false → t ≡ true → length (filter g xs) ≤ length (filter f xs) → length (cond s (x ∷ filter g xs) (filter g xs)) < length (cond t (x ∷ filter f xs) (filter f xs))
    go true t a b le = absurd (true≢false a)
    go false false a b le = absurd (true≢false (sym b))
    go false true a b le = omega arith
filter_lt f g (x ∷ xs) p more (inr later) here gone = go (g x) (f x) refl refl (filter_lt f g xs p more later here gone)
  where
    go : (s t : Bool) → g x ≡ s → f x ≡ t → length (filter g xs) < length (filter f xs) → length (cond s (x ∷ filter g xs) (filter g xs)) < length (cond t (x ∷ filter f xs) (filter f xs))
    go true true a b lt = omega arith
    go true false a b lt = absurd (true≢false (sym (more x a) ∙ b))
    go false true a b lt = omega arith
    go false false a b lt = lt

same_pair_self : (p : Pair) → same_pair p p ≡ true
same_pair_self p = and_from (same_task p.early p.early) (same_task p.late p.late) (self p.early) (self p.late)
  where
    self : (t : Task) → same_task t t ≡ true
    self t = and_from (t.epoch == t.epoch) (t.worker == t.worker) (eq-eqb t.epoch t.epoch refl) (eq-eqb t.worker t.worker refl)

pub passed_more : (passed : List Pair) (p q : Pair) → is_passed passed q ≡ true → is_passed (passed ++ p ∷ []) q ≡ true
passed_more [] p q is = absurd (true≢false (sym is))
passed_more (r ∷ passed) p q is = go (same_pair q r) refl is (passed_more passed p q)
  where
    go : (t : Bool) → same_pair q r ≡ t → (t || is_passed passed q) ≡ true → (is_passed passed q ≡ true → is_passed (passed ++ p ∷ []) q ≡ true) → (t || is_passed (passed ++ p ∷ []) q) ≡ true
    go true at here more = refl
    go false at here more = more here

pub passed_last : (passed : List Pair) (p : Pair) → is_passed (passed ++ p ∷ []) p ≡ true
passed_last [] p = or_left (same_pair p p) false (same_pair_self p)
passed_last (r ∷ passed) p = or_right (same_pair p r) (is_passed (passed ++ p ∷ []) p) (passed_last passed p)

module _ {B C P G : Type 0} (m : Setup B C P G) (nest : Nest) (epochs : List (Epoch B)) where
  abbrev pub weight : (u e : ℕ) → Hand P → ℕ
  weight u e hand = hand_weight m nest epochs u e hand

  -- the tasks from epoch e on, the first of them apart
  tasks_front : (u e : ℕ) → e < length epochs → tasks_weight m nest epochs u e ≡ task_weight m nest epochs e u + tasks_weight m nest epochs u (suc e)
  tasks_front u e lt = front (λ f. task_weight m nest epochs f u) e (length epochs - e) (length epochs - suc e) (let z : length epochs - e ≡ suc (length epochs - suc e) = omega arith in z)

  abbrev pub iteration : ℕ → ℕ → ℕ
  iteration e k = iteration_weight m nest (epoch_at m epochs e) k

  block_front : (e u k : ℕ) → k < to m epochs e u → sum_from (iteration e) k (to m epochs e u - k) ≡ iteration e k + sum_from (iteration e) (suc k) (to m epochs e u - suc k)
  block_front e u k lt = front (iteration e) k (to m epochs e u - k) (to m epochs e u - suc k) (let z : to m epochs e u - k ≡ suc (to m epochs e u - suc k) = omega arith in z)

  -- to begin a task takes weight
  pub begin_falls : (u e : ℕ) → e < length epochs → weight u e (first_hand m epochs e u) < weight u e Idle
  begin_falls u e lt = go (nat_lt (from m epochs e u) (to m epochs e u)) refl
    where
      t : tasks_weight m nest epochs u e ≡ task_weight m nest epochs e u + tasks_weight m nest epochs u (suc e)
      t = tasks_front u e lt

      go : (b : Bool) → nat_lt (from m epochs e u) (to m epochs e u) ≡ b → weight u e (if b then Running (from m epochs e u) (piece_at m epochs e (from m epochs e u)) else Empty) < weight u e Idle
      go true is = let f : sum_from (iteration e) (from m epochs e u) (to m epochs e u - from m epochs e u) ≡ iteration e (from m epochs e u) + sum_from (iteration e) (suc (from m epochs e u)) (to m epochs e u - suc (from m epochs e u)) = block_front e u (from m epochs e u) (ltb-true _ _ is) in omega (arith, t)
      go false is = omega (arith, t)

  pub next_falls : (u e k : ℕ) (piece : P) → suc k < to m epochs e u → weight u e (Running (suc k) (piece_at m epochs e (suc k))) < weight u e (Running k piece)
  next_falls u e k piece lt = let f : sum_from (iteration e) (suc k) (to m epochs e u - suc k) ≡ iteration e (suc k) + sum_from (iteration e) (suc (suc k)) (to m epochs e u - suc (suc k)) = block_front e u (suc k) lt in omega arith

  pub go_falls : (u e k : ℕ) (piece after : P) → m.system.fuel after < m.system.fuel piece → weight u e (Running k after) < weight u e (Running k piece)
  go_falls u e k piece after less = omega arith

  pub finish_falls : (u e k : ℕ) (piece : P) → weight u (suc e) Idle < weight u e (Running k piece)
  finish_falls u e k piece = omega arith

  pub empty_falls : (u e : ℕ) → weight u (suc e) Idle < weight u e Empty
  empty_falls u e = omega arith

  pub stop_falls : (u e : ℕ) (hand : Hand P) → (hand ≡ Stopped → ⊥) → weight u e Stopped < weight u e hand
  stop_falls u e Idle moves = omega arith
  stop_falls u e Empty moves = omega arith
  stop_falls u e (Running k piece) moves = omega arith
  stop_falls u e Stopped moves = absurd (moves refl)

  pub lets_less : (u e : ℕ) (hand : Hand P) → lets_go m nest hand ≤ weight u e hand
  lets_less u e Idle = omega arith
  lets_less u e Empty = omega arith
  lets_less u e (Running k piece) = omega arith
  lets_less u e Stopped = omega arith

  -- one seat takes weight from the run
  pub run_falls : (seats : List (Seat P G)) (u : ℕ) (y : Seat P G) → length seats ≡ m.width → u < m.width → seat_weight m nest epochs u y < seat_weight m nest epochs u (seat_at seats u) → run_weight m nest epochs (slice_set seats u y) < run_weight m nest epochs seats
  run_falls seats u y width own less = sum_lt m.width (λ v. seat_weight m nest epochs v (seat_at (slice_set seats u y) v)) (λ v. seat_weight m nest epochs v (seat_at seats v)) u own
      (subst (λ (x : Seat P G). seat_weight m nest epochs u x < seat_weight m nest epochs u (seat_at seats u)) (sym (seat_same seats u y (omega (arith, width)))) less)
      (λ v lt. each_seat (λ w x. seat_weight m nest epochs w x ≤ seat_weight m nest epochs w (seat_at seats w)) seats u y (omega (arith, width)) (omega arith) (λ w other. omega arith) v)

  -- letting go takes no more than the run has left, and less where one seat is idle that wasn't
  pub letting_less : (seats : List (Seat P G)) → letting_go m nest seats ≤ run_weight m nest epochs seats
  letting_less seats = sum_le m.width (λ v. lets_go m nest (seat_at seats v).hand) (λ v. seat_weight m nest epochs v (seat_at seats v)) (λ v lt. lets_less v (seat_at seats v).done (seat_at seats v).hand)

  pub failing_less : (seats : List (Seat P G)) (u k : ℕ) (piece : P) → length seats ≡ m.width → u < m.width → (seat_at seats u).hand ≡ Running k piece → letting_go m nest (slice_set seats u (record (seat_at seats u) { hand = Idle })) < run_weight m nest epochs seats
  failing_less seats u k piece width own h = sum_lt m.width (λ v. lets_go m nest (seat_at (slice_set seats u (record (seat_at seats u) { hand = Idle })) v).hand) (λ v. seat_weight m nest epochs v (seat_at seats v)) u own
      (subst (λ (x : Seat P G). lets_go m nest x.hand < seat_weight m nest epochs u (seat_at seats u)) (sym (seat_same seats u (record (seat_at seats u) { hand = Idle }) (omega (arith, width)))) (subst (λ y. 0 < hand_weight m nest epochs u (seat_at seats u).done y) (sym h) (omega arith)))
      (λ v lt. each_seat (λ w x. lets_go m nest x.hand ≤ seat_weight m nest epochs w (seat_at seats w)) seats u (record (seat_at seats u) { hand = Idle }) (omega (arith, width)) (omega arith) (λ w other. lets_less w (seat_at seats w).done (seat_at seats w).hand) v)

pub let_go_falls : {B C P G : Type 0} (m : Setup B C P G) (nest : Nest) (seats : List (Seat P G)) (u : ℕ) → length seats ≡ m.width → u < m.width → 0 < lets_go m nest (seat_at seats u).hand → letting_go m nest (slice_set seats u (record (seat_at seats u) { hand = Idle })) < letting_go m nest seats
let_go_falls {P = P} {G = G} m nest seats u width own runs = sum_lt m.width (λ v. lets_go m nest (seat_at (slice_set seats u (record (seat_at seats u) { hand = Idle })) v).hand) (λ v. lets_go m nest (seat_at seats v).hand) u own
    (subst (λ (x : Seat P G). lets_go m nest x.hand < lets_go m nest (seat_at seats u).hand) (sym (seat_same seats u (record (seat_at seats u) { hand = Idle }) (omega (arith, width)))) runs)
    (λ v lt. each_seat (λ w x. lets_go m nest x.hand ≤ lets_go m nest (seat_at seats w).hand) seats u (record (seat_at seats u) { hand = Idle }) (omega (arith, width)) (omega arith) (λ w other. omega arith) v)
