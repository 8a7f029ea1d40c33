-- The pair due, and segments begun from nothing or with one epoch more.
use Rattle.std.proofs.Common.{◌≡◌, ℕ, zero, suc, ◌+◌, ◌<◌, ◌≤◌, Bool, true, false, if◌then◌else◌, Option, Some, None, List, [], ◌∷◌, length, replicate, nat_lt, nat_le, refl, sym, ◌∙◌, subst, ⊎_elim, arith}
use Rattle.std.proofs.lemmas.Bool.{and_parts, and_from, ltb-true, leb-true, lt-ltb, le-leb, not-true, true≢false, cases_Bool}
use Rattle.spec_machine.specs.Facts.{Task, Pair}
use Rattle.spec_machine.specs.Machine.{State, Seat, fresh_seat, seat_at, done_at, all_from, finished_up_to, is_unordered, is_passed, is_open, pairs, first_open, due_if, due}
use Rattle.spec_machine.specs.Table.{In}
use Rattle.spec_machine.proofs.Lists.{find_some}

-- worker v, with so many epochs finished, has finished the task's predecessors, and the task itself if it is its own
abbrev pub IsUpTo : Task → ℕ → ℕ → Type 0
IsUpTo t v done = (t.epoch ≤ done) × (v ≤ t.worker → t.epoch < done)

module _ {P G : Type 0} (t : Task) where
  one : (v : ℕ) (x : Seat P G) → (if nat_le v t.worker then nat_lt t.epoch x.done else nat_le t.epoch x.done) ≡ true → IsUpTo t v x.done
  one v x is = ⊎_elim
      (λ early. let l : t.epoch < x.done = ltb-true _ _ (subst (λ b. (if b then nat_lt t.epoch x.done else nat_le t.epoch x.done) ≡ true) early is) in (omega arith, λ le. l))
      (λ late. (leb-true _ _ (subst (λ b. (if b then nat_lt t.epoch x.done else nat_le t.epoch x.done) ≡ true) late is), λ le. absurd (true≢false (sym (le-leb v t.worker le) ∙ late))))
      (cases_Bool (nat_le v t.worker))

  -- where a task and all before it are finished
  pub up_to : (n : ℕ) (seats : List (Seat P G)) (v : ℕ) → all_from t n seats ≡ true → v < length seats → IsUpTo t (n + v) (done_at seats v)
  up_to n [] v all lt = absurd (omega arith)
  up_to n (x ∷ seats) zero all lt = let z : n ≡ n + 0 = omega arith in subst (λ k. IsUpTo t k x.done) z (one n x (and_parts _ _ all).0)
  up_to n (x ∷ seats) (suc v) all lt = let z : suc n + v ≡ n + suc v = omega arith in subst (λ k. IsUpTo t k (done_at seats v)) z (up_to (suc n) seats v (and_parts _ _ all).1 (omega arith))

  one_from : (v : ℕ) (x : Seat P G) → IsUpTo t v x.done → (if nat_le v t.worker then nat_lt t.epoch x.done else nat_le t.epoch x.done) ≡ true
  one_from v x up = ⊎_elim
      (λ early. subst (λ b. (if b then nat_lt t.epoch x.done else nat_le t.epoch x.done) ≡ true) (sym early) (lt-ltb _ _ (up.1 (leb-true _ _ early))))
      (λ late. subst (λ b. (if b then nat_lt t.epoch x.done else nat_le t.epoch x.done) ≡ true) (sym late) (le-leb _ _ up.0))
      (cases_Bool (nat_le v t.worker))

  pub up_from : (n : ℕ) (seats : List (Seat P G)) → ((v : ℕ) → v < length seats → IsUpTo t (n + v) (done_at seats v)) → all_from t n seats ≡ true
  up_from n [] each = refl
  up_from n (x ∷ seats) each = and_from _ _ (one_from n x (let z : n + 0 ≡ n = omega arith in subst (λ k. IsUpTo t k x.done) z (each 0 (omega arith)))) (up_from (suc n) seats (λ v lt. let z : n + suc v ≡ suc n + v = omega arith in subst (λ k. IsUpTo t k (done_at seats v)) z (each (suc v) (omega arith))))

module _ {B C P G : Type 0} (width : ℕ) (s : State B C P G) where
  -- what a pair due is
  pub record IsDue (p : Pair) : Type 0 where
    pub among : In p (pairs width (length s.epochs))
    pub unordered : is_unordered s.seats p ≡ true
    pub unpassed : is_passed s.passed p ≡ false
    pub finished : finished_up_to s.seats p.late ≡ true

  if_due : (o : Option Pair) (p : Pair) → due_if s.seats o ≡ Some p → (o ≡ Some p) × (finished_up_to s.seats p.late ≡ true)
  if_due None p e = cc
  if_due (Some q) p e = go (finished_up_to s.seats q.late) refl e
    where
      go : (t : Bool) → finished_up_to s.seats q.late ≡ t → (if t then Some q else None) ≡ Some p → (Some q ≡ Some p) × (finished_up_to s.seats p.late ≡ true)
      go true is f = let same : q ≡ p = cc in (f, subst (λ (x : Pair). finished_up_to s.seats x.late ≡ true) same is)
      go false is f = cc

  pub is_due : (p : Pair) → due width s ≡ Some p → IsDue p
  is_due p e = let o = if_due (first_open width s) p e in let f = find_some (is_open s.seats s.passed) (pairs width (length s.epochs)) p o.0 in record {
    among = f.0;
    unordered = (and_parts _ _ f.1).0;
    unpassed = not-true _ (and_parts _ _ f.1).1;
    finished = o.1;
  }

pub fresh_at : {P G : Type 0} (n w : ℕ) → seat_at (replicate n (fresh_seat {P = P} {G = G})) w ≡ fresh_seat
fresh_at zero w = refl
fresh_at (suc n) zero = refl
fresh_at (suc n) (suc w) = fresh_at n w
