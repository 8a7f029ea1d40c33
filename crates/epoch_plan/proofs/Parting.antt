-- The blocks of an epoch part its turns.
use Rattle.std.proofs.Common.{◌≡◌, ℕ, zero, suc, ◌+◌, ◌*◌, ◌/◌, ◌%◌, ◌<◌, ◌≤◌, ◌==◌, if◌then◌else◌, Bool, true, false, ⊎_elim, refl, subst, sym, arith}
use Rattle.std.proofs.lemmas.Bool.{cases_lt, eqb-true, eq-eqb}
use Rattle.std.proofs.lemmas.Nat.{le-div}
use Rattle.std.proofs.Math.Nat.{div-le_of_le-mul, div-mul-le_self, mul-div_cancel, mul-le-mul_left}
use Rattle.epoch_plan.specs.Blocks.{IsTurnOf, BlocksPartTurns}

module _ (trips index workers : ℕ) (some : 0 < workers) where
  -- where the block of a worker begins if the turns are shared
  abbrev start : ℕ → ℕ
  start worker = trips * worker / workers

  start-rises : (worker later : ℕ) → worker ≤ later → start worker ≤ start later
  start-rises worker later h =
      let product = mul-le-mul_left trips h in
      let quotient = div-mul-le_self (trips * worker) workers in
      le-div (start worker) (trips * later) workers some (omega arith)

  start-end : start workers ≡ trips
  start-end = mul-div_cancel trips some

  shared-whole : (n turn : ℕ) → turn < start n → (worker : ℕ) × (worker < n) × ((start worker ≤ turn) × (turn < start (worker + 1)))
  shared-whole zero turn h = absurd (omega (arith, h, div-le_of_le-mul workers {m = trips * 0} {n = 0} (omega arith)))
  shared-whole (suc n) turn h = ⊎_elim
      (λ (below : turn < start n). let found = shared-whole n turn below in (found.0, omega (arith, found.1), found.2))
      (λ (here : start n ≤ turn). let same : suc n ≡ n + 1 = omega arith in (n, omega arith, (here, subst (λ k. turn < start k) same h)))
      (cases_lt turn (start n))

  -- the turns of a worker, by whether the turns are shared and whether the epoch is the worker's own
  abbrev IsTurn : Bool → Bool → ℕ → ℕ → Type 0
  IsTurn all own worker turn =
      let b : ℕ × ℕ = if all then (start worker, start (worker + 1)) else if own then (0, trips) else (0, 0) in (b.0 ≤ turn) × (turn < b.1)

  abbrev own : ℕ → Bool
  own worker = index % workers == worker

  whole : (all : Bool) (turn : ℕ) → turn < trips → (worker : ℕ) × (worker < workers) × IsTurn all (own worker) worker turn
  whole true turn h = shared-whole workers turn (subst (λ n. turn < n) (sym start-end) h)
  whole false turn h =
      (index % workers, omega arith, subst (λ b. IsTurn false b (index % workers) turn) (sym (eq-eqb (index % workers) (index % workers) refl)) (omega arith, h))

  inside : (all mine : Bool) (worker turn : ℕ) → worker < workers → IsTurn all mine worker turn → turn < trips
  inside true mine worker turn h is = omega (arith, is.1, start-rises (worker + 1) workers (omega arith), start-end)
  inside false true worker turn h is = is.1
  inside false false worker turn h is = absurd (omega (arith, is.1))

  in_order : (all mine other : Bool) (worker later turn after : ℕ) → own worker ≡ mine → own later ≡ other → worker < later → IsTurn all mine worker turn → IsTurn all other later after → turn < after
  in_order true mine other worker later turn after m o h is next = omega (arith, is.1, next.0, start-rises (worker + 1) later (omega arith))
  in_order false true true worker later turn after m o h is next = absurd (omega (arith, h, eqb-true _ _ m, eqb-true _ _ o))
  in_order false true false worker later turn after m o h is next = absurd (omega (arith, next.1))
  in_order false false other worker later turn after m o h is next = absurd (omega (arith, is.1))

pub blocks_part : BlocksPartTurns
blocks_part epoch index workers some =
    let ordered : (worker later turn after : ℕ) → worker < later → IsTurnOf epoch index workers worker turn → IsTurnOf epoch index workers later after → turn < after =
    λ worker later turn after h is next. in_order epoch.trips index workers some epoch.all (index % workers == worker) (index % workers == later) worker later turn after refl refl h is next in
    record {
      whole = λ turn h. whole epoch.trips index workers some epoch.all turn h;
      inside = λ worker turn below is. inside epoch.trips index workers some epoch.all (index % workers == worker) worker turn below is;
      disjoint = λ worker other turn is too. ⊎_elim
          (λ (h : worker < other). absurd (omega (arith, ordered worker other turn turn h is too)))
          (λ (h : other ≤ worker). ⊎_elim
          (λ (later : other < worker). absurd (omega (arith, ordered other worker turn turn later too is)))
          (λ (same : worker ≤ other). omega arith)
          (cases_lt other worker))
          (cases_lt worker other);
      in_order = ordered;
    }
