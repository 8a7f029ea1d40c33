-- What the tests of the order of tasks and pairs say.
use Rattle.std.proofs.Common.{◌≡◌, ◌<◌, ◌≤◌, ◌==◌, true, false, ◌&&◌, ◌⊎◌, inl, inr, ⊎_elim, nat_lt, sym, ◌∙◌, arith}
use Rattle.std.proofs.lemmas.Bool.{and_parts, and_from, or_cases, or_left, or_right, cases_lt, cases_Bool, lt-ltb, ltb-true, eqb-true, eq-eqb, true≢false}
use Rattle.nest_syntax.specs.declared.names.TaskName.{TaskName}
use Rattle.spec_checker.specs.Order.{is_before}

-- a task stands before another
abbrev pub Before : TaskName → TaskName → Type 0
Before first second = (first.epoch < second.epoch) ⊎ ((first.epoch ≡ second.epoch) × (first.worker < second.worker))

abbrev pub Same : TaskName → TaskName → Type 0
Same first second = (first.epoch ≡ second.epoch) × (first.worker ≡ second.worker)

pub before-means : (first second : TaskName) → is_before first second ≡ true → Before first second
before-means first second is = ⊎_elim
    (λ e. inl (ltb-true first.epoch second.epoch e))
    (λ e. let both = and_parts (first.epoch == second.epoch) (nat_lt first.worker second.worker) e in
    inr (eqb-true first.epoch second.epoch both.0, ltb-true first.worker second.worker both.1))
    (or_cases (nat_lt first.epoch second.epoch) (first.epoch == second.epoch && nat_lt first.worker second.worker) is)

pub before-from : (first second : TaskName) → Before first second → is_before first second ≡ true
before-from first second (inl h) = or_left (nat_lt first.epoch second.epoch) (first.epoch == second.epoch && nat_lt first.worker second.worker) (lt-ltb first.epoch second.epoch h)
before-from first second (inr h) =
    or_right (nat_lt first.epoch second.epoch) (first.epoch == second.epoch && nat_lt first.worker second.worker)
    (and_from (first.epoch == second.epoch) (nat_lt first.worker second.worker) (eq-eqb first.epoch second.epoch h.0) (lt-ltb first.worker second.worker h.1))

-- of two tasks one stands before the other, or they are the same
pub compared : (first second : TaskName) → Before first second ⊎ (Same first second ⊎ Before second first)
compared first second = ⊎_elim
    (λ (h : first.epoch < second.epoch). inl (inl h))
    (λ (h : second.epoch ≤ first.epoch). ⊎_elim
    (λ (k : second.epoch < first.epoch). inr (inr (inl k)))
    (λ (k : first.epoch ≤ second.epoch). let same : first.epoch ≡ second.epoch = omega arith in ⊎_elim
    (λ (l : first.worker < second.worker). inl (inr (same, l)))
    (λ (l : second.worker ≤ first.worker). ⊎_elim
    (λ (m : second.worker < first.worker). inr (inr (inr (sym same, m))))
    (λ (m : first.worker ≤ second.worker). inr (inl (same, omega arith)))
    (cases_lt second.worker first.worker))
    (cases_lt first.worker second.worker))
    (cases_lt second.epoch first.epoch))
    (cases_lt first.epoch second.epoch)

not_both : (first second : TaskName) → Before first second → Before second first → ⊥
not_both first second (inl h) (inl k) = absurd (omega arith)
not_both first second (inl h) (inr k) = absurd (omega (arith, h, k.0))
not_both first second (inr h) (inl k) = absurd (omega (arith, k, h.0))
not_both first second (inr h) (inr k) = absurd (omega (arith, h.1, k.1))

pub not_before-from : (first second : TaskName) → Before second first ⊎ Same first second → is_before first second ≡ false
not_before-from first second h = ⊎_elim
    (λ is. absurd (⊎_elim (λ k. not_both first second (before-means first second is) k) (λ (k : Same first second). ⊎_elim (λ (l : first.epoch < second.epoch). omega (arith, k.0, l)) (λ l. omega (arith, k.1, l.1)) (before-means first second is)) h))
    (λ is. is)
    (cases_Bool (is_before first second))

pub not_before-means : (first second : TaskName) → is_before first second ≡ false → Before second first ⊎ Same first second
not_before-means first second is = ⊎_elim
    (λ h. absurd (true≢false (sym (before-from first second h) ∙ is)))
    (λ h. ⊎_elim (λ same. inr same) (λ later. inl later) h)
    (compared first second)
