-- The names that are written are those of the unordered tasks, and there is room for them.
use Rattle.std.proofs.Common.{◌≡◌, ◌≢◌, ℕ, zero, suc, ◌+◌, ◌-◌, ◌*◌, ◌<◌, ◌≤◌, ◌==◌, Bool, true, false, ◌&&◌, not, nat_lt, nat_le, List, [], ◌∷◌, ◌++◌, length, drop, set, get_or, ⊎_elim, ap, subst, sym, ◌∙◌, append_assoc, append-nil, length-append, cond, arith}
use Rattle.std.specs.List.{filter}
use Rattle.std.proofs.lemmas.Bool.{cases_Bool, cases_lt, eq-eqb, and_parts, true≢false}
use Rattle.std.proofs.lemmas.List.Elements.{filter-append}
use Rattle.std.proofs.Math.Seq.{drop-cons, set-append_seam}
use Rattle.std.proofs.Math.Nat.{mul-le-mul_right}
use Rattle.nest_syntax.specs.declared.names.TaskName.{TaskName}
use Rattle.epoch_plan.specs.declared.tasks.Seen.{Seen}
use Rattle.epoch_plan.specs.Tasks.{task, tasks_in, tasks_below, saw, is_unordered}

-- that a list stands at the front of an old one, whose rest is as it was
pub record IsFront (old found : List TaskName) (count : ℕ) (names : List TaskName) : Type 0 where
  pub counted : count ≡ length found
  pub written : names ≡ found ++ drop count old

pub front-more : (old found : List TaskName) (count : ℕ) (names : List TaskName) (more : TaskName) → IsFront old found count names → count < length old
    → IsFront old (found ++ more ∷ []) (count + 1) (set names count more)
front-more old found count names more front free =
    let next : suc count ≡ count + 1 = omega arith in record {
      counted = omega (arith, front.counted, length-append found (more ∷ []));
      written =
          ap (λ xs. set xs count more) front.written
          ∙ ap (λ ys. set (found ++ ys) count more) (drop-cons old count more free)
          ∙ ap (λ k. set (found ++ get_or old count more ∷ drop (suc count) old) k more) front.counted
          ∙ set-append_seam found (get_or old count more) (drop (suc count) old) more
          ∙ ap (λ k. found ++ more ∷ drop k old) next
          ∙ sym (append_assoc found (more ∷ []) (drop (count + 1) old));
    }

module _ (seen : Seen) (late : TaskName) where
  abbrev pub passes : TaskName → Bool
  passes early = is_unordered seen early late

  -- only another worker's task is unordered
  pub others : (early : TaskName) → passes early ≡ true → early.worker ≢ late.worker
  others early is same =
      let before = nat_lt early.epoch late.epoch in
      let apart = and_parts before (not (early.worker == late.worker)) (and_parts (before && not (early.worker == late.worker)) (nat_le (saw seen early.worker) early.epoch) is).0 in
      true≢false (sym apart.1 ∙ ap not (eq-eqb early.worker late.worker same))

  -- the unordered ones among the first tasks, and one more task
  pub one-more : (tasks : List TaskName) (early : TaskName) → passes early ≡ true → filter passes (tasks ++ early ∷ []) ≡ filter passes tasks ++ early ∷ []
  one-more tasks early is = filter-append passes tasks (early ∷ []) ∙ ap (λ b. filter passes tasks ++ cond b (early ∷ []) []) is

  pub none-more : (tasks : List TaskName) (early : TaskName) → passes early ≡ false → filter passes (tasks ++ early ∷ []) ≡ filter passes tasks
  none-more tasks early is = filter-append passes tasks (early ∷ []) ∙ ap (λ b. filter passes tasks ++ cond b (early ∷ []) []) is ∙ append-nil (filter passes tasks)

  -- Of the first workers of an epoch at most all have an unordered task, and the late task's own has none.
  abbrev HasRoom : ℕ → ℕ → Type 0
  HasRoom count workers = (count ≤ workers) × (late.worker < workers → count < workers)

  in_row : (epoch workers : ℕ) → HasRoom (length (filter passes (tasks_in epoch workers))) workers
  in_row epoch zero = (omega arith, λ h. absurd (omega (arith, h)))
  in_row epoch (suc worker) =
      let room = in_row epoch worker in
      let before = filter passes (tasks_in epoch worker) in
      ⊎_elim
      (λ is. let apart = others (task epoch worker) is in
      let more = length-append before (task epoch worker ∷ []) in
      subst (λ (names : List TaskName). HasRoom (length names) (suc worker)) (sym (one-more (tasks_in epoch worker) (task epoch worker) is))
      (omega (arith, room.0, more), λ h. omega (arith, h, apart, room.1, more)))
      (λ is. subst (λ (names : List TaskName). HasRoom (length names) (suc worker)) (sym (none-more (tasks_in epoch worker) (task epoch worker) is))
      (omega (arith, room.0), λ h. omega (arith, room.0)))
      (cases_Bool (passes (task epoch worker)))

  module _ (workers : ℕ) (own : late.worker < workers) where
    in_rows : (epoch : ℕ) → length (filter passes (tasks_below workers epoch)) ≤ epoch * (workers - 1)
    in_rows zero = omega arith
    in_rows (suc epoch) =
        let parts = ap length (filter-append passes (tasks_below workers epoch) (tasks_in epoch workers)) ∙ length-append (filter passes (tasks_below workers epoch)) (filter passes (tasks_in epoch workers)) in
        omega (arith, parts, in_rows epoch, (in_row epoch workers).1 own)

    with-next : (epoch worker : ℕ) → tasks_below workers epoch ++ tasks_in epoch (worker + 1) ≡ (tasks_below workers epoch ++ tasks_in epoch worker) ++ task epoch worker ∷ []
    with-next epoch worker =
        let next : worker + 1 ≡ suc worker = omega arith in
        ap (λ k. tasks_below workers epoch ++ tasks_in epoch k) next ∙ sym (append_assoc (tasks_below workers epoch) (tasks_in epoch worker) (task epoch worker ∷ []))

    -- there is room for one name more
    pub room : (epoch worker places : ℕ) → worker < workers → epoch < late.epoch → late.epoch * (workers - 1) ≤ places → passes (task epoch worker) ≡ true
        → length (filter passes (tasks_below workers epoch ++ tasks_in epoch worker)) < places
    room epoch worker places below earlier all is =
        let apart = others (task epoch worker) is in
        let parts = ap length (filter-append passes (tasks_below workers epoch) (tasks_in epoch worker)) ∙ length-append (filter passes (tasks_below workers epoch)) (filter passes (tasks_in epoch worker)) in
        let next : epoch + 1 ≤ late.epoch = omega arith in
        let rows = mul-le-mul_right (workers - 1) next in
        let row = in_row epoch worker in
        let last : length (filter passes (tasks_in epoch worker)) < workers - 1 =
        ⊎_elim (λ (h : late.worker < worker). omega (arith, row.1 h)) (λ (h : worker ≤ late.worker). omega (arith, row.0, apart)) (cases_lt late.worker worker) in
        omega (arith, parts, in_rows epoch, rows, last, all)

    -- the names with one task more
    pub passed-more : (old names : List TaskName) (epoch worker count : ℕ) → worker < workers → epoch < late.epoch → late.epoch * (workers - 1) ≤ length old → passes (task epoch worker) ≡ true
        → IsFront old (filter passes (tasks_below workers epoch ++ tasks_in epoch worker)) count names
        → IsFront old (filter passes (tasks_below workers epoch ++ tasks_in epoch (worker + 1))) (count + 1) (set names count (task epoch worker))
    passed-more old names epoch worker count below earlier all is front =
        let free : count < length old = omega (arith, front.counted, room epoch worker (length old) below earlier all is) in
        subst (λ found. IsFront old found (count + 1) (set names count (task epoch worker)))
        (sym (ap (filter passes) (with-next epoch worker) ∙ one-more (tasks_below workers epoch ++ tasks_in epoch worker) (task epoch worker) is))
        (front-more old (filter passes (tasks_below workers epoch ++ tasks_in epoch worker)) count names (task epoch worker) front free)

    pub passed-same : (old names : List TaskName) (epoch worker count : ℕ) → passes (task epoch worker) ≡ false
        → IsFront old (filter passes (tasks_below workers epoch ++ tasks_in epoch worker)) count names
        → IsFront old (filter passes (tasks_below workers epoch ++ tasks_in epoch (worker + 1))) count names
    passed-same old names epoch worker count is front =
        subst (λ found. IsFront old found count names)
        (sym (ap (filter passes) (with-next epoch worker) ∙ none-more (tasks_below workers epoch ++ tasks_in epoch worker) (task epoch worker) is)) front
