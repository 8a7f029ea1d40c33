-- A walk over tasks in their order, and what holds of all that it has passed.
use Rattle.std.proofs.Common.{◌≡◌, ℕ, ◌+◌, ◌*◌, ◌<◌, ◌≤◌, ◌==◌, Bool, true, false, not, ◌&&◌, nat_lt, nat_le, List, length, inl, inr, ⊎_elim, ap, sym, subst, ◌∙◌, get_or, max, Option, arith}
use Rattle.std.proofs.lemmas.Bool.{and_parts, cases_lt, cases_Bool, ltb-true, leb-true, eqb-true, true≢false, or_cases}
use Rattle.std.proofs.Math.Nat.{mul-le-mul_right, add-mul}
use Rattle.nest_syntax.specs.declared.names.TaskName.{TaskName}
use Rattle.epoch_plan.specs.declared.tasks.Seen.{Seen}
use Rattle.epoch_plan.specs.Tasks.{task, saw, is_unordered}
use Rattle.spec_checker.specs.Order.{Pair, is_before, is_passed}
use Rattle.spec_checker.specs.Due.{IsReached, HasEntries, seen_by, is_open_with, IsDue, NoneIsOpen, NoneOpenWith, IsFirstOpenWith}
use Rattle.spec_checker.proofs.Tests.{Before, Same, before-means, compared}
use Rattle.spec_checker.proofs.Reached.{IsAhead, ahead-from, reached-earlier}

-- what holds of every task of these workers before one
abbrev pub AllBefore : (TaskName → Type 0) → ℕ → TaskName → Type 0
AllBefore P workers here = (early : TaskName) → early.worker < workers → Before early here → P early

pub same-is : (first second : TaskName) → Same first second → first ≡ second
same-is first second same = λ i. record { epoch = same.0 i; worker = same.1 i }

module _ (P : TaskName → Type 0) (workers : ℕ) where
  pub all-start : (epoch : ℕ) → ((early : TaskName) → early.worker < workers → early.epoch < epoch → P early) → AllBefore P workers (task epoch 0)
  all-start epoch all early own before = ⊎_elim (λ (h : early.epoch < epoch). all early own h) (λ (h : (early.epoch ≡ epoch) × (early.worker < 0)). absurd (omega (arith, h.1))) before

  pub all-next : (epoch worker : ℕ) → AllBefore P workers (task epoch worker) → P (task epoch worker) → AllBefore P workers (task epoch (worker + 1))
  all-next epoch worker all here early own before = ⊎_elim
      (λ (h : early.epoch < epoch). all early own (inl h))
      (λ (h : (early.epoch ≡ epoch) × (early.worker < worker + 1)). ⊎_elim
      (λ (less : early.worker < worker). all early own (inr (h.0, less)))
      (λ (most : worker ≤ early.worker). let same : early.worker ≡ worker = omega (arith, most, h.1) in subst P (sym (same-is early (task epoch worker) (h.0, same))) here)
      (cases_lt early.worker worker))
      before

  pub all-row : (epoch end : ℕ) → workers ≤ end → AllBefore P workers (task epoch end) → AllBefore P workers (task (epoch + 1) 0)
  all-row epoch end whole all early own before = ⊎_elim
      (λ (h : early.epoch < epoch + 1). ⊎_elim
      (λ (less : early.epoch < epoch). all early own (inl less))
      (λ (most : epoch ≤ early.epoch). let same : early.epoch ≡ epoch = omega arith in all early own (inr (same, omega (arith, own, whole))))
      (cases_lt early.epoch epoch))
      (λ (h : (early.epoch ≡ epoch + 1) × (early.worker < 0)). absurd (omega (arith, h.1)))
      before

pub unordered-rises : (seen : Seen) (early late : TaskName) → is_unordered seen early late ≡ true → (early.epoch < late.epoch) × (saw seen early.worker ≤ early.epoch)
unordered-rises seen early late is =
    let before = nat_lt early.epoch late.epoch in
    let apart = not (early.worker == late.worker) in
    let outer = and_parts (before && apart) (nat_le (saw seen early.worker) early.epoch) is in
    (ltb-true early.epoch late.epoch (and_parts before apart outer.0).0, leb-true (saw seen early.worker) early.epoch outer.1)

module _ (last : Option Pair) (seen : Seen) (late : TaskName) where
  abbrev IsOpen : TaskName → Bool
  IsOpen early = is_open_with last seen late early

  pub open-parts : (early : TaskName) → IsOpen early ≡ true → (is_unordered seen early late ≡ true) × (is_passed last (early, late) ≡ false)
  open-parts early is =
      let both = and_parts (is_unordered seen early late) (not (is_passed last (early, late))) is in
      (both.0, ⊎_elim (λ yes. absurd (true≢false (sym both.1 ∙ ap not yes))) (λ no. no) (cases_Bool (is_passed last (early, late))))

  pub closed-from : (early : TaskName) → (is_unordered seen early late ≡ true → is_passed last (early, late) ≡ true) → IsOpen early ≡ false
  closed-from early passed = ⊎_elim
      (λ is. let both = open-parts early is in absurd (true≢false (sym (passed both.0) ∙ both.1)))
      (λ is. is)
      (cases_Bool (IsOpen early))

  module _ (workers : ℕ) where
    abbrev pub Closed : TaskName → Type 0
    Closed early = IsOpen early ≡ false

    -- before the first epoch that is looked at
    pub closed-start : (start first least : ℕ) → start ≡ max first least → ((early : TaskName) → early.epoch < late.epoch → early.epoch < first → is_passed last (early, late) ≡ true)
        → ((worker : ℕ) → worker < workers → least ≤ saw seen worker) → AllBefore Closed workers (task start 0)
    closed-start start first least e passed seen_least = all-start Closed workers start (λ early own below. closed-from early (λ is.
        let rises = unordered-rises seen early late is in ⊎_elim
        (λ (h : early.epoch < first). passed early rises.0 h)
        (λ (h : first ≤ early.epoch). absurd (omega (arith, e, below, h, rises.1, seen_least early.worker own)))
        (cases_lt early.epoch first)))

    pub closed-end : (epoch : ℕ) → AllBefore Closed workers (task epoch 0) → late.epoch ≤ epoch → NoneOpenWith last seen workers late
    closed-end epoch all h early own = ⊎_elim
        (λ (before : early.epoch < epoch). all early own (inl before))
        (λ (behind : epoch ≤ early.epoch). closed-from early (λ is. absurd (omega (arith, h, behind, (unordered-rises seen early late is).0))))
        (cases_lt early.epoch epoch)

    pub first-here : (epoch worker : ℕ) → worker < workers → AllBefore Closed workers (task epoch worker) → IsOpen (task epoch worker) ≡ true → IsFirstOpenWith last seen workers late (task epoch worker)
    first-here epoch worker own all open_here = record {
      own = own;
      unpassed = open_here;
      first = λ other own is. all other own (before-means other (task epoch worker) is);
    }

module _ (last : Option Pair) (workers : ℕ) (seen : List Seen) where
  -- a late task that has no pair left
  abbrev pub IsThrough : TaskName → Type 0
  IsThrough late = NoneOpenWith last (seen_by seen workers late) workers late

  pub through-start : (epoch : ℕ) → ((pair : Pair) → pair.1.epoch < epoch → is_passed last pair ≡ true) → AllBefore IsThrough workers (task epoch 0)
  through-start epoch passed = all-start IsThrough workers epoch (λ late own below early _. closed-from last (seen_by seen workers late) late early (λ _. passed (early, late) below))

module _ (last : Option Pair) (finished : List ℕ) (workers : ℕ) (seen : List Seen) where
  abbrev IsThroughHere : TaskName → Type 0
  IsThroughHere late = IsThrough last workers seen late

  pub none-unreached : (epoch worker : ℕ) → AllBefore IsThroughHere workers (task epoch worker) → (IsReached finished workers (task epoch worker) → ⊥) → NoneIsOpen last finished workers seen
  none-unreached epoch worker all unreached pair are reached = ⊎_elim
      (λ before. all pair.1 are.1 before pair.0 are.0)
      (λ rest. absurd (⊎_elim
      (λ (same : Same pair.1 (task epoch worker)). unreached (subst (IsReached finished workers) (same-is pair.1 (task epoch worker) same) reached))
      (λ (behind : Before (task epoch worker) pair.1). unreached (reached-earlier finished workers (task epoch worker) pair.1 behind reached))
      rest))
      (compared pair.1 (task epoch worker))

  pub none-end : (epoch : ℕ) → AllBefore IsThroughHere workers (task epoch 0) → 0 < workers → get_or finished 0 0 ≤ epoch → NoneIsOpen last finished workers seen
  none-end epoch all some h pair are reached =
      let ahead : IsAhead finished pair.1 0 = ahead-from finished workers pair.1 reached 0 some in
      all pair.1 are.1 (inl (omega (arith, h, ahead.1 (omega arith)))) pair.0 are.0

  pub due-here : (late early : TaskName) → late.worker < workers → AllBefore IsThroughHere workers late → IsReached finished workers late → IsFirstOpenWith last (seen_by seen workers late) workers late early
      → IsDue last finished workers seen (early, late)
  due-here late early own all reached found = record {
    tasks = (found.own, own);
    unpassed = found.unpassed;
    first = λ other are before. ⊎_elim
        (λ earlier. all other.1 are.1 (before-means other.1 late earlier) other.0 are.0)
        (λ rest.
        let both = and_parts (other.1.epoch == late.epoch && other.1.worker == late.worker) (is_before other.0 early) rest in
        let same = and_parts (other.1.epoch == late.epoch) (other.1.worker == late.worker) both.0 in
        subst (λ (l : TaskName). is_open_with last (seen_by seen workers l) l other.0 ≡ false)
        (sym (same-is other.1 late (eqb-true other.1.epoch late.epoch same.0, eqb-true other.1.worker late.worker same.1)))
        (found.first other.0 are.0 both.1))
        (or_cases (is_before other.1 late) ((other.1.epoch == late.epoch && other.1.worker == late.worker) && is_before other.0 early) before);
    reached = reached;
  }

  -- there is an entry for what a finished task saw
  pub entry-within : HasEntries finished workers seen → (late : TaskName) → late.worker < workers → IsReached finished workers late → late.epoch * workers + late.worker < length seen
  entry-within entries late own reached =
      let ahead : IsAhead finished late late.worker = ahead-from finished workers late reached late.worker own in
      let next : late.epoch + 1 ≤ get_or finished late.worker 0 = omega (arith, ahead.1 (omega arith)) in
      omega (arith, own, entries late.worker own, mul-le-mul_right workers next, add-mul late.epoch 1 workers)
