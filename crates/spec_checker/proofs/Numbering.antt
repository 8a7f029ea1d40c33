-- The pairs are numbered from 0 on in their order.
use Rattle.std.proofs.Common.{◌≡◌, ◌≢◌, ℕ, zero, suc, ◌+◌, ◌-◌, ◌*◌, ◌<◌, ◌≤◌, ◌==◌, Bool, true, false, ◌&&◌, nat_lt, if◌then◌else◌, ◌⊎◌, inl, inr, ⊎_elim, refl, ap, sym, subst, ◌∙◌, arith}
use Rattle.std.proofs.lemmas.Bool.{and_parts, and_from, or_cases, or_left, or_right, cases_lt, cases_eq, eqb-true, eq-eqb, lt-ltb, le-ltb, ltb-true, ltb-false, ne_eqb}
use Rattle.std.proofs.Math.Nat.{add-mul, mul-add, mul-suc, suc-mul, mul-le-mul_left, mul-le-mul_right}
use Rattle.nest_syntax.specs.declared.names.TaskName.{TaskName}
use Rattle.epoch_plan.specs.Tasks.{task}
use Rattle.spec_checker.specs.Order.{Pair, is_before, is_pair_before}
use Rattle.spec_checker.specs.Numbers.{IsPair, triangle, count, place_among_others, number, other_from, next_pair, pair_at, PairsAreNumbered}
use Rattle.spec_checker.proofs.Tests.{Before, Same, before-means, before-from, compared}
use Rattle.spec_checker.proofs.Passing.{same-is}

-- places among the other workers
place-below : (own worker : ℕ) → worker < own → place_among_others own worker ≡ worker
place-below own worker h = ap (λ b. if b then worker - 1 else worker) (le-ltb own worker (omega arith))

place-above : (own worker : ℕ) → own < worker → place_among_others own worker ≡ worker - 1
place-above own worker h = ap (λ b. if b then worker - 1 else worker) (lt-ltb own worker h)

-- what is left of a place: below the own worker it is the number, above it one less
abbrev Place : ℕ → ℕ → ℕ → Type 0
Place own worker place = ((worker < own) × (place ≡ worker)) ⊎ ((own < worker) × (place + 1 ≡ worker))

place-is : (own worker : ℕ) → worker ≢ own → Place own worker (place_among_others own worker)
place-is own worker apart = ⊎_elim
    (λ (h : worker < own). inl (h, place-below own worker h))
    (λ (h : own ≤ worker). let above : own < worker = omega arith in inr (above, omega (arith, place-above own worker above)))
    (cases_lt worker own)

place-within : (workers own worker place : ℕ) → own < workers → worker < workers → Place own worker place → place < workers - 1
place-within workers own worker place o w (inl h) = omega (arith, h.0, h.1)
place-within workers own worker place o w (inr h) = omega (arith, h.0, h.1)

place-rises : (own first second p q : ℕ) → Place own first p → Place own second q → first < second → p < q
place-rises own first second p q (inl h) (inl k) l = omega (arith, h.1, k.1)
place-rises own first second p q (inl h) (inr k) l = omega (arith, h.0, h.1, k.0, k.1)
place-rises own first second p q (inr h) (inl k) l = absurd (omega (arith, h.0, k.0, l))
place-rises own first second p q (inr h) (inr k) l = omega (arith, h.1, k.1)

-- the first worker from one on that isn't the own: the next one, or this one
abbrev OtherNext : ℕ → ℕ → ℕ → Type 0
OtherNext own from other = (from ≡ own) × (other ≡ from + 1)

abbrev OtherHere : ℕ → ℕ → ℕ → Type 0
OtherHere own from other = (from ≢ own) × (other ≡ from)

other-is : (own from : ℕ) → OtherNext own from (other_from own from) ⊎ OtherHere own from (other_from own from)
other-is own from = ⊎_elim
    (λ (e : from ≡ own). inl (e, ap (λ b. if b then from + 1 else from) (eq-eqb from own e)))
    (λ (apart : from ≢ own). inr (apart, ap (λ b. if b then from + 1 else from) (ne_eqb from own apart)))
    (cases_eq from own)

other-apart : (own from other : ℕ) → OtherNext own from other ⊎ OtherHere own from other → other ≢ own
other-apart own from other (inl h) = omega (arith, h.0, h.1)
other-apart own from other (inr h) = omega (arith, h.0, h.1)

place-first : (own other : ℕ) → OtherNext own 0 other → place_among_others own other ≡ 0
place-first own other h = let above : own < other = omega (arith, h.0, h.1) in omega (arith, place-above own other above, h.1)

place-next : (own worker other p q : ℕ) → Place own worker p → Place own other q → OtherNext own (worker + 1) other ⊎ OtherHere own (worker + 1) other → q ≡ p + 1
place-next own worker other p q (inl h) (inl k) (inl s) = absurd (omega (arith, k.0, s.0, s.1))
place-next own worker other p q (inl h) (inl k) (inr s) = omega (arith, h.1, k.1, s.1)
place-next own worker other p q (inl h) (inr k) (inl s) = omega (arith, h.1, k.1, s.1)
place-next own worker other p q (inl h) (inr k) (inr s) = absurd (omega (arith, h.0, k.0, s.0, s.1))
place-next own worker other p q (inr h) (inl k) (inl s) = absurd (omega (arith, h.0, k.0, s.1))
place-next own worker other p q (inr h) (inl k) (inr s) = absurd (omega (arith, h.0, k.0, s.1))
place-next own worker other p q (inr h) (inr k) (inl s) = absurd (omega (arith, h.0, s.0))
place-next own worker other p q (inr h) (inr k) (inr s) = omega (arith, h.1, k.1, s.1)

place-last : (workers own worker other p : ℕ) → own < workers → worker < workers → workers ≤ other → Place own worker p → OtherNext own (worker + 1) other ⊎ OtherHere own (worker + 1) other → p + 1 ≡ workers - 1
place-last workers own worker other p o w past (inl h) (inl s) = omega (arith, o, past, h.1, s.0, s.1)
place-last workers own worker other p o w past (inl h) (inr s) = absurd (omega (arith, o, past, h.0, s.1))
place-last workers own worker other p o w past (inr h) (inl s) = absurd (omega (arith, h.0, s.0))
place-last workers own worker other p o w past (inr h) (inr s) = omega (arith, w, past, h.1, s.1)

pick : (P : Pair → Type 0) (b : Bool) (x y : Pair) → (b ≡ true → P x) → (b ≡ false → P y) → P (if b then x else y)
pick P true x y whole rest = whole refl
pick P false x y whole rest = rest refl

-- the number behind one whose last digit is the greatest
carries : (high next last base place : ℕ) → next ≡ high + 1 → last + 1 ≡ base → place ≡ 0 → next * base + place ≡ high * base + last + 1
carries high next last base place e l p = omega (arith, ap (λ n. n * base) e, add-mul high 1 base, l, p)

-- a number of two digits, of which the second is below the base
digits-rise : (base high higher low any : ℕ) → high < higher → low < base → high * base + low < higher * base + any
digits-rise base high higher low any h l =
    let next : high + 1 ≤ higher = omega arith in
    omega (arith, l, mul-le-mul_right base next, add-mul high 1 base)

triangle-rises : (n m : ℕ) → n ≤ m → triangle n ≤ triangle m
triangle-rises zero m h = omega arith
triangle-rises (suc n) zero h = absurd (omega (arith, h))
triangle-rises (suc n) (suc m) h = omega (arith, h, triangle-rises n m (omega arith))

next-triangle : (workers epoch : ℕ) → workers * triangle (epoch + 1) ≡ workers * triangle epoch + workers * epoch
next-triangle workers epoch = let next : epoch + 1 ≡ suc epoch = omega arith in ap (λ n. workers * triangle n) next ∙ mul-add workers (triangle epoch) epoch

-- the tasks of earlier epochs, counted over the late tasks before this one and then over its own
abbrev slot : ℕ → Pair → ℕ
slot workers pair = workers * triangle pair.1.epoch + pair.1.worker * pair.1.epoch + pair.0.epoch

slot-in_row : (workers : ℕ) (pair : Pair) → IsPair workers pair → slot workers pair < workers * triangle (suc pair.1.epoch)
slot-in_row workers pair is =
    let next : pair.1.worker + 1 ≤ workers = omega (arith, is.late) in
    let rows = mul-le-mul_right pair.1.epoch next in
    let row = add-mul pair.1.worker 1 pair.1.epoch in
    let above : workers * (triangle pair.1.epoch + pair.1.epoch) ≡ workers * triangle pair.1.epoch + workers * pair.1.epoch = mul-add workers (triangle pair.1.epoch) pair.1.epoch in
    omega (arith, is.rising, rows, row, above)

slot-rises : (workers : ℕ) (first second : Pair) → IsPair workers first → Before first.1 second.1 → slot workers first < slot workers second
slot-rises workers first second is (inl h) =
    let row = slot-in_row workers first is in
    let rows = mul-le-mul_left workers (triangle-rises (suc first.1.epoch) second.1.epoch (omega (arith, h))) in
    omega (arith, row, rows)
slot-rises workers first second is (inr h) =
    let next : first.1.worker + 1 ≤ second.1.worker = omega (arith, h.1) in
    let rows = mul-le-mul_right first.1.epoch next in
    let row = add-mul first.1.worker 1 first.1.epoch in
    let tri : workers * triangle first.1.epoch ≡ workers * triangle second.1.epoch = ap (λ n. workers * triangle n) h.0 in
    let same : second.1.worker * first.1.epoch ≡ second.1.worker * second.1.epoch = ap (λ n. second.1.worker * n) h.0 in
    omega (arith, is.rising, rows, row, tri, same)

module _ (workers : ℕ) (two : 2 ≤ workers) where
  place-of : (pair : Pair) → IsPair workers pair → Place pair.1.worker pair.0.worker (place_among_others pair.1.worker pair.0.worker)
  place-of pair is = place-is pair.1.worker pair.0.worker is.apart

  in_base : (pair : Pair) → IsPair workers pair → place_among_others pair.1.worker pair.0.worker < workers - 1
  in_base pair is = place-within workers pair.1.worker pair.0.worker _ is.late is.early (place-of pair is)

  -- pairs with the same late task
  rises-with : (late first second : TaskName) → IsPair workers (first, late) → IsPair workers (second, late) → Before first second → number workers (first, late) < number workers (second, late)
  rises-with late first second is too (inl h) = digits-rise (workers - 1) (slot workers (first, late)) (slot workers (second, late)) _ _ (omega (arith, h)) (in_base (first, late) is)
  rises-with late first second is too (inr h) =
      let less = place-rises late.worker first.worker second.worker _ _ (place-of (first, late) is) (place-of (second, late) too) h.1 in
      let same : slot workers (first, late) * (workers - 1) ≡ slot workers (second, late) * (workers - 1) = ap (λ n. (workers * triangle late.epoch + late.worker * late.epoch + n) * (workers - 1)) h.0 in
      omega (arith, less, same)

  -- one pair stands before another
  abbrev PairBefore : Pair → Pair → Type 0
  PairBefore first second = Before first.1 second.1 ⊎ (Same first.1 second.1 × Before first.0 second.0)

  rises : (first second : Pair) → IsPair workers first → IsPair workers second → PairBefore first second → number workers first < number workers second
  rises first second is too (inl h) = digits-rise (workers - 1) (slot workers first) (slot workers second) _ _ (slot-rises workers first second is h) (in_base first is)
  rises first second is too (inr h) =
      let e : first.1 ≡ second.1 = same-is first.1 second.1 h.0 in
      let there : IsPair workers (first.0, second.1) = subst (λ (late : TaskName). IsPair workers (first.0, late)) e is in
      subst (λ (late : TaskName). number workers (first.0, late) < number workers second) (sym e) (rises-with second.1 first.0 second.0 there too h.1)

  pair_before-means : (first second : Pair) → is_pair_before first second ≡ true → PairBefore first second
  pair_before-means first second is = ⊎_elim
      (λ e. inl (before-means first.1 second.1 e))
      (λ e. let both = and_parts (first.1.epoch == second.1.epoch && first.1.worker == second.1.worker) (is_before first.0 second.0) e in
      let same = and_parts (first.1.epoch == second.1.epoch) (first.1.worker == second.1.worker) both.0 in
      inr ((eqb-true first.1.epoch second.1.epoch same.0, eqb-true first.1.worker second.1.worker same.1), before-means first.0 second.0 both.1))
      (or_cases (is_before first.1 second.1) ((first.1.epoch == second.1.epoch && first.1.worker == second.1.worker) && is_before first.0 second.0) is)

  pair_before-from : (first second : Pair) → PairBefore first second → is_pair_before first second ≡ true
  pair_before-from first second (inl h) = or_left (is_before first.1 second.1) ((first.1.epoch == second.1.epoch && first.1.worker == second.1.worker) && is_before first.0 second.0) (before-from first.1 second.1 h)
  pair_before-from first second (inr h) =
      or_right (is_before first.1 second.1) ((first.1.epoch == second.1.epoch && first.1.worker == second.1.worker) && is_before first.0 second.0)
      (and_from (first.1.epoch == second.1.epoch && first.1.worker == second.1.worker) (is_before first.0 second.0)
      (and_from (first.1.epoch == second.1.epoch) (first.1.worker == second.1.worker) (eq-eqb first.1.epoch second.1.epoch h.0.0) (eq-eqb first.1.worker second.1.worker h.0.1))
      (before-from first.0 second.0 h.1))

  pairs-compared : (first second : Pair) → PairBefore first second ⊎ ((first ≡ second) ⊎ PairBefore second first)
  pairs-compared first second = ⊎_elim
      (λ h. inl (inl h))
      (λ rest. ⊎_elim
      (λ (same : Same first.1 second.1). ⊎_elim
      (λ h. inl (inr (same, h)))
      (λ more. ⊎_elim
      (λ (e : Same first.0 second.0). inr (inl (λ i. (same-is first.0 second.0 e i, same-is first.1 second.1 same i))))
      (λ h. inr (inr (inr ((sym same.0, sym same.1), h))))
      more)
      (compared first.0 second.0))
      (λ h. inr (inr (inl h)))
      rest)
      (compared first.1 second.1)

  rises-back : (first second : Pair) → IsPair workers first → IsPair workers second → number workers first < number workers second → PairBefore first second
  rises-back first second is too less = ⊎_elim
      (λ h. h)
      (λ rest. absurd (⊎_elim
      (λ (same : first ≡ second). let e : number workers first ≡ number workers second = ap (number workers) same in omega (arith, e, less))
      (λ h. omega (arith, rises second first too is h, less))
      rest))
      (pairs-compared first second)

  counts : (pair : Pair) (epochs : ℕ) → IsPair workers pair → pair.1.epoch < epochs → number workers pair < count workers epochs
  counts pair epochs is h =
      let rows = mul-le-mul_left workers (triangle-rises (suc pair.1.epoch) epochs (omega arith)) in
      let less : slot workers pair < workers * triangle epochs = omega (arith, slot-in_row workers pair is, rows) in
      omega (arith, digits-rise (workers - 1) (slot workers pair) (workers * triangle epochs) _ 0 less (in_base pair is))

  counts-back : (pair : Pair) (epochs : ℕ) → number workers pair < count workers epochs → pair.1.epoch < epochs
  counts-back pair epochs less = ⊎_elim
      (λ h. h)
      (λ (h : epochs ≤ pair.1.epoch).
      let rows = mul-le-mul_left workers (triangle-rises epochs pair.1.epoch h) in
      let few : workers * triangle epochs ≤ slot workers pair = omega (arith, rows) in
      absurd (omega (arith, less, mul-le-mul_right (workers - 1) few)))
      (cases_lt pair.1.epoch epochs)

  -- the first worker that isn't the late task's own
  other-first : (own : ℕ) → own < workers → (other_from own 0 < workers) × (other_from own 0 ≢ own) × (place_among_others own (other_from own 0) ≡ 0)
  other-first own h = ⊎_elim
      (λ (e : OtherNext own 0 (other_from own 0)). (omega (arith, e.0, e.1), omega (arith, e.0, e.1), place-first own (other_from own 0) e))
      (λ (e : OtherHere own 0 (other_from own 0)). (omega (arith, e.1), omega (arith, e.0, e.1), ap (place_among_others own) e.1 ∙ place-below own 0 (omega (arith, e.0))))
      (other-is own 0)

  -- what is asked of the pair behind another one
  abbrev Follows : Pair → Pair → Type 0
  Follows pair next = IsPair workers next × (number workers next ≡ number workers pair + 1)

  -- the next worker of the same epoch
  next-worker : (pair : Pair) → IsPair workers pair → (worker : ℕ) → worker < workers → OtherNext pair.1.worker (pair.0.worker + 1) worker ⊎ OtherHere pair.1.worker (pair.0.worker + 1) worker
      → Follows pair (task pair.0.epoch worker, pair.1)
  next-worker pair is worker own step =
      let apart : worker ≢ pair.1.worker = other-apart pair.1.worker (pair.0.worker + 1) worker step in
      let place = place-next pair.1.worker pair.0.worker worker _ _ (place-of pair is) (place-is pair.1.worker worker apart) step in
      (record { early = own; late = is.late; apart = apart; rising = is.rising }, omega (arith, place))

  last-place : (pair : Pair) → IsPair workers pair → workers ≤ other_from pair.1.worker (pair.0.worker + 1) → place_among_others pair.1.worker pair.0.worker + 1 ≡ workers - 1
  last-place pair is past = place-last workers pair.1.worker pair.0.worker (other_from pair.1.worker (pair.0.worker + 1)) _ is.late is.early past (place-of pair is) (other-is pair.1.worker (pair.0.worker + 1))

  follows : (pair : Pair) → IsPair workers pair → Follows pair (next_pair workers pair)
  follows pair is =
      let other = other_from pair.1.worker (pair.0.worker + 1) in
      pick (Follows pair) (nat_lt other workers) _ _
      (λ h. next-worker pair is other (ltb-true other workers h) (other-is pair.1.worker (pair.0.worker + 1)))
      (λ full. let last = last-place pair is (ltb-false other workers full) in
      pick (Follows pair) (nat_lt (pair.0.epoch + 1) pair.1.epoch) _ _
      (λ h. let first = other-first pair.1.worker is.late in (
        record { early = first.0; late = is.late; apart = first.1; rising = ltb-true (pair.0.epoch + 1) pair.1.epoch h },
        carries (slot workers pair) (slot workers (task (pair.0.epoch + 1) (other_from pair.1.worker 0), pair.1)) _ (workers - 1) _ (omega arith) last first.2,
      ))
      (λ past. let end : pair.0.epoch + 1 ≡ pair.1.epoch = omega (arith, is.rising, ltb-false (pair.0.epoch + 1) pair.1.epoch past) in
      pick (Follows pair) (nat_lt (pair.1.worker + 1) workers) _ _
      (λ h. (
        record { early = omega arith; late = ltb-true (pair.1.worker + 1) workers h; apart = omega arith; rising = omega (arith, is.rising) },
        carries (slot workers pair) (slot workers (task 0 0, task pair.1.epoch (pair.1.worker + 1))) _ (workers - 1) _ (omega (arith, end, add-mul pair.1.worker 1 pair.1.epoch)) last (place-below (pair.1.worker + 1) 0 (omega arith)),
      ))
      (λ no. let most : pair.1.worker + 1 ≡ workers = omega (arith, is.late, ltb-false (pair.1.worker + 1) workers no) in (
        record { early = omega (arith, two); late = omega (arith, two); apart = omega arith; rising = omega arith },
        carries (slot workers pair) (slot workers (task 0 1, task (pair.1.epoch + 1) 0)) _ (workers - 1) _
            (omega (arith, end, add-mul pair.1.worker 1 pair.1.epoch, ap (λ n. n * pair.1.epoch) most, next-triangle workers pair.1.epoch)) last (place-above 0 1 (omega arith)),
      ))))

  zero-number : number workers (pair_at workers 0) ≡ 0
  zero-number =
      let none : workers * triangle 1 + 0 * 1 + 0 ≡ 0 = omega arith in
      omega (arith, ap (λ n. n * (workers - 1)) none, place-above 0 1 (omega arith))

  numbered : (n : ℕ) → IsPair workers (pair_at workers n) × (number workers (pair_at workers n) ≡ n)
  numbered zero = (record { early = omega (arith, two); late = omega (arith, two); apart = omega arith; rising = omega arith }, zero-number)
  numbered (suc n) =
      let next = follows (pair_at workers n) (numbered n).0 in
      (next.0, omega (arith, next.1, (numbered n).1))

  each : (pair : Pair) → IsPair workers pair → pair_at workers (number workers pair) ≡ pair
  each pair is =
      let there = numbered (number workers pair) in ⊎_elim
      (λ h. absurd (omega (arith, there.1, rises (pair_at workers (number workers pair)) pair there.0 is h)))
      (λ rest. ⊎_elim (λ e. e) (λ h. absurd (omega (arith, there.1, rises pair (pair_at workers (number workers pair)) is there.0 h))) rest)
      (pairs-compared (pair_at workers (number workers pair)) pair)

halves-next : (m : ℕ) → 2 * triangle (suc m) ≡ suc m * m
halves-next zero = refl
halves-next (suc m) = omega (arith, halves-next m, suc-mul (suc m) (suc m), mul-suc (suc m) m)

halves : (n : ℕ) → 2 * triangle n ≡ n * (n - 1)
halves zero = refl
halves (suc m) = let e : suc m - 1 ≡ m = omega arith in halves-next m ∙ sym (ap (λ k. suc m * k) e)

pub are_numbered : PairsAreNumbered
are_numbered workers two = record {
  pairs = λ n. (numbered workers two n).0;
  numbers = λ n. (numbered workers two n).1;
  each = each workers two;
  rising = λ first second is too. (
    λ before. rises workers two first second is too (pair_before-means workers two first second before),
    λ less. pair_before-from workers two first second (rises-back workers two first second is too less),
  );
  counted = λ pair epochs is. (counts workers two pair epochs is, counts-back workers two pair epochs);
  halves = halves;
}
