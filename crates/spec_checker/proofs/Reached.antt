-- When a task and every one before it are finished.
use Rattle.std.proofs.Common.{◌≡◌, ℕ, ◌-◌, ◌<◌, ◌≤◌, List, get_or, false, inl, inr, ⊎_elim, refl, arith}
use Rattle.std.proofs.lemmas.Bool.{cases_lt}
use Rattle.nest_syntax.specs.declared.names.TaskName.{TaskName}
use Rattle.epoch_plan.specs.Tasks.{task}
use Rattle.spec_checker.specs.Order.{is_before}
use Rattle.spec_checker.specs.Due.{IsReached}
use Rattle.spec_checker.proofs.Tests.{Before, Same, not_before-means, not_before-from}

-- a worker's part of it: the tasks of that worker which don't stand behind this one
abbrev pub IsAhead : List ℕ → TaskName → ℕ → Type 0
IsAhead finished late worker = (late.epoch ≤ get_or finished worker 0) × (worker ≤ late.worker → late.epoch < get_or finished worker 0)

pub reached-from : (finished : List ℕ) (workers : ℕ) (late : TaskName) → ((worker : ℕ) → worker < workers → IsAhead finished late worker) → IsReached finished workers late
reached-from finished workers late ahead before own not_behind = ⊎_elim
    (λ (earlier : Before before late). ⊎_elim
    (λ (e : before.epoch < late.epoch). omega (arith, e, (ahead before.worker own).0))
    (λ (e : (before.epoch ≡ late.epoch) × (before.worker < late.worker)). omega (arith, e.0, (ahead before.worker own).1 (omega (arith, e.1))))
    earlier)
    (λ (same : Same late before). omega (arith, same.0, (ahead before.worker own).1 (omega (arith, same.1))))
    (not_before-means late before not_behind)

same_worker : (late : TaskName) (worker : ℕ) → worker ≤ late.worker → is_before late (task late.epoch worker) ≡ false
same_worker late worker h = ⊎_elim
    (λ (less : worker < late.worker). not_before-from late (task late.epoch worker) (inl (inr (refl, less))))
    (λ (most : late.worker ≤ worker). not_before-from late (task late.epoch worker) (inr (refl, omega arith)))
    (cases_lt worker late.worker)

pub ahead-from : (finished : List ℕ) (workers : ℕ) (late : TaskName) → IsReached finished workers late → (worker : ℕ) → worker < workers → IsAhead finished late worker
ahead-from finished workers late reached worker own = (
  ⊎_elim
      (λ (some : 0 < late.epoch).
      let last : late.epoch - 1 < get_or finished worker 0 = reached (task (late.epoch - 1) worker) own (not_before-from late (task (late.epoch - 1) worker) (inl (inl (omega arith)))) in
      omega arith)
      (λ (none : late.epoch ≤ 0). omega arith)
      (cases_lt 0 late.epoch),
  λ h. reached (task late.epoch worker) own (same_worker late worker h),
)

-- with a task each task before it is reached
pub reached-earlier : (finished : List ℕ) (workers : ℕ) (first late : TaskName) → Before first late → IsReached finished workers late → IsReached finished workers first
reached-earlier finished workers first late before reached = reached-from finished workers first (λ worker own.
    let ahead : IsAhead finished late worker = ahead-from finished workers late reached worker own in ⊎_elim
    (λ (e : first.epoch < late.epoch). (omega (arith, e, ahead.0), λ h. omega (arith, e, ahead.0)))
    (λ (e : (first.epoch ≡ late.epoch) × (first.worker < late.worker)). (omega (arith, e.0, ahead.0), λ h. omega (arith, e.0, ahead.1 (omega (arith, e.1, h)))))
    before)
