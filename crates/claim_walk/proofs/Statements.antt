-- The walk of a body holds its turn: an induction over statements.
use Rattle.std.proofs.Common.{◌≡◌, ℕ, zero, suc, ◌+◌, ◌==◌, ℤ, Bool, true, false, not, ◌||◌, ◌&&◌, if◌then◌else◌, Option, Some, None, Result, Ok, Err, List, [], ◌∷◌, ◌++◌, map, length, length-append, refl, sym, ap, ◌∙◌, subst, arith}
use Rattle.std.specs.Option.{option_map_or}
use Rattle.std.proofs.lemmas.Bool.{eqb-true}
use Rattle.nest_syntax.specs.declared.names.Line.{Line}
use Rattle.nest_syntax.specs.declared.operators.Bin.{Bin}
use Rattle.nest_syntax.specs.declared.operators.Bin.TheVariants as bin
use Rattle.nest_syntax.specs.declared.operators.Op.{Op as Change}
use Rattle.nest_syntax.specs.declared.operators.Op.TheVariants as op
use Rattle.nest_syntax.specs.declared.operators.Cause.{Cause}
use Rattle.nest_syntax.specs.declared.tree.Expr.{Expr}
use Rattle.nest_syntax.specs.declared.tree.Arm.{Arm}
use Rattle.nest_syntax.specs.declared.tree.Loop.{Loop}
use Rattle.nest_syntax.specs.declared.tree.Stmt.{Stmt}
use Rattle.nest_syntax.specs.declared.tree.Stmt.TheVariants as stmt
use Rattle.nest_syntax.specs.Among.{Each, is_among}
use Rattle.nest_syntax.specs.Words.{is_zero, apply, operation_of, assigned, turns, counted, variable}
use Rattle.nest_syntax.specs.Arrays.{sizes_of, located, word_number}
use Rattle.nest_syntax.specs.Value.{and_then, scalar_at, with_scalar}
use Rattle.nest_syntax.specs.Locals.{locals_of, with_zeros}
use Rattle.nest_syntax.specs.Turn.{Turn, Finished, Load, Store, Op, Go, Reckoning, reckoning, done_with, inside, assigning, writing, effect, loop_effect, looping, turn_of}
use Rattle.nest_syntax.specs.Turn as turn
use Rattle.nest_syntax.proofs.Equations.{arm_effect, effect-declare, effect-assign, effect-write, effect-if, effect-loop, arm_effect-is, loop_effect-is}
use Rattle.nest_syntax.proofs.Inductions.{stmt_induction, each_left, each_right}
use Rattle.settle_law.specs.Claims.{Claims}
use Rattle.claim_walk.specs.Walk.{Step, Passes, Touches, Sweeps, Walk, Goes, Stops, Walked, Ends, Traps, Setting, Effect, Tried, met, behind, meets, trap, is_slice, value_of, at_place, anywhere, access, walk, steps_of, known_after, steps_before, after, then_do, ends, data_branch, sequence, given, assign, write, by_test, tried, choose, repeat, looped, turned, walk_stmt, walk_arm, walk_loop, walk_block}
use Rattle.claim_walk.specs.Walk as walks
use Rattle.claim_walk.proofs.Equations.{walk-declare, walk-assign, walk-write, walk-if, walk-loop, walk_arm-is, walk_loop-is}
use Rattle.claim_walk.proofs.Held.{has, Held, more, All, IsClaimed, IsGoing, Follows, all_more}
use Rattle.claim_walk.proofs.Expressions.{IsPlaced, is_placed, TellsConst, IsTold, expr_follows}
use Rattle.claim_walk.proofs.Fits.{Fitting, Arm_fitting, Test, in_arms, is_seen, sees, gives, bounds_fit, fit, fit_arm, fit_block, behind_block, fit-declare, fit-assign, fit-write, fit-if, fit-loop, fit_arm-is, fit_loop-is}
use Rattle.claim_walk.proofs.Agreeing.{and_left, and_right, not_false, Agree, agree_refl, agree_sym, agree_trans, Wider, agree_narrower, one_wider, set_other, agree_given, data_given, unseen_given, agree_in}

-- `=`, and every `op=`
module _ (P : Change → Type 0) (at_set : P op.Set) (at_change : (o : Change) (operation : Bin) → operation_of o ≡ Some operation → walks.assigning o ≡ Passes ∷ Passes ∷ []
    → ((set : Setting) (name : ℕ) (known : List ℤ) (place : Expr) → write set o name known place ≡ behind (access set true false name known place) (behind (meets Passes) (access set true true name known place))) → P o) where
  pub by_change : (o : Change) → P o
  by_change op.Set = at_set
  by_change op.Add = at_change op.Add bin.Add refl refl (λ set name known place. refl)
  by_change op.Sub = at_change op.Sub bin.Sub refl refl (λ set name known place. refl)
  by_change op.Mul = at_change op.Mul bin.Mul refl refl (λ set name known place. refl)
  by_change op.Div = at_change op.Div bin.Div refl refl (λ set name known place. refl)
  by_change op.Rem = at_change op.Rem bin.Rem refl refl (λ set name known place. refl)
  by_change op.Shl = at_change op.Shl bin.Shl refl refl (λ set name known place. refl)
  by_change op.Shr = at_change op.Shr bin.Shr refl refl (λ set name known place. refl)
  by_change op.And = at_change op.And bin.And refl refl (λ set name known place. refl)
  by_change op.Xor = at_change op.Xor bin.Xor refl refl (λ set name known place. refl)
  by_change op.Or = at_change op.Or bin.Or refl refl (λ set name known place. refl)

abbrev pub IsEnding : Walked → Type 0
IsEnding (Ends steps known) = Unit {0}
IsEnding (Traps steps known) = ⊥

module _ (set : Setting) (hidden : ℕ → Bool) (fixed : ℕ → Option ℤ) (claims : Claims) (tells : TellsConst set.arrays set.words fixed) where
  abbrev pub sizes : List ℕ
  sizes = sizes_of set.arrays

  abbrev pub held : Turn → ℕ → Type 0
  held = Held sizes fixed claims

  abbrev pub claimed : List Step → Type 0
  claimed = All sizes fixed claims

  abbrev pub follows : Walk → (ℤ → Type 0) → ((ℤ → Turn) → Turn) → Type 0
  follows = Follows sizes fixed claims

  abbrev pub agree : List ℕ → List ℤ → List ℤ → Type 0
  agree = Agree set hidden

  -- What a statement does, of any turns that follow it, where all that its walk meets is claimed: if its turn goes on with
  -- scalars that are so beside the known ones, it is held with the steps of the walk on top.
  abbrev pub Runs : Walked → (List ℤ → List ℤ → Type 0) → ((List ℤ → Turn) → Turn) → Type 0
  Runs w R does = claimed (steps_of w) → (go : List ℤ → Turn) (m : ℕ) → (IsEnding w → (later : List ℤ) → R (known_after w) later → held (go later) m) → held (does go) (length (steps_of w) + m)

  steps_first : (steps : List Step) (w : Walked) → claimed (steps_of (steps_before steps w)) → claimed steps × claimed (steps_of w)
  steps_first steps (Ends others known) all = (each_left (IsClaimed sizes fixed claims) steps others all, each_right (IsClaimed sizes fixed claims) steps others all)
  steps_first steps (Traps others known) all = (each_left (IsClaimed sizes fixed claims) steps others all, each_right (IsClaimed sizes fixed claims) steps others all)

  steps_most : (steps : List Step) (w : Walked) (m : ℕ) → length steps + (length (steps_of w) + m) ≡ length (steps_of (steps_before steps w)) + m
  steps_most steps (Ends others known) m = all_more sizes fixed claims steps others m (length steps + (length others + m)) refl
  steps_most steps (Traps others known) m = all_more sizes fixed claims steps others m (length steps + (length others + m)) refl

  ending_same : (steps : List Step) (w : Walked) (R : List ℤ → List ℤ → Type 0) (go : List ℤ → Turn) (m : ℕ) → (IsEnding (steps_before steps w) → (later : List ℤ) → R (known_after (steps_before steps w)) later → held (go later) m)
      → IsEnding w → (later : List ℤ) → R (known_after w) later → held (go later) m
  ending_same steps (Ends others known) R go m h = h
  ending_same steps (Traps others known) R go m h = h

  after_runs : (w : Walk) (P : ℤ → Type 0) (does : (ℤ → Turn) → Turn) → follows w P does → (next : Effect) (known : List ℤ) (R : List ℤ → List ℤ → Type 0) (rest : ℤ → (List ℤ → Turn) → Turn)
      → (IsGoing sizes fixed claims w → (v : ℤ) → P v → Runs (next known) R (rest v)) → Runs (after w next known) R (λ go. does (λ v. rest v go))
  after_runs (Stops steps) P does p next known R rest q all go m h = p all (λ v. rest v go) m (λ going v holds. absurd going)
  after_runs (Goes steps) P does p next known R rest q all go m h =
      let parts = steps_first steps (next known) all in
      subst (held (does (λ v. rest v go))) (steps_most steps (next known) m)
      (p parts.0 (λ v. rest v go) (length (steps_of (next known)) + m) (λ going v holds. q tt v holds parts.1 go m (ending_same steps (next known) R go m h)))

  then_runs : (w : Walked) (P : List ℤ → List ℤ → Type 0) (does : (List ℤ → Turn) → Turn) → Runs w P does → (next : Effect) (R : List ℤ → List ℤ → Type 0) (rest : List ℤ → (List ℤ → Turn) → Turn)
      → (IsEnding w → (later : List ℤ) → P (known_after w) later → Runs (next (known_after w)) R (rest later)) → Runs (then_do w next) R (λ go. does (λ later. rest later go))
  then_runs (Traps steps known) P does p next R rest q all go m h = p all (λ later. rest later go) m (λ going later holds. absurd going)
  then_runs (Ends steps known) P does p next R rest q all go m h =
      let parts = steps_first steps (next known) all in
      subst (held (does (λ later. rest later go))) (steps_most steps (next known) m)
      (p parts.0 (λ later. rest later go) (length (steps_of (next known)) + m) (λ going later holds. q tt later holds parts.1 go m (ending_same steps (next known) R go m h)))

  pause_runs : (next : Effect) (known : List ℤ) (R : List ℤ → List ℤ → Type 0) (does : (List ℤ → Turn) → Turn) → Runs (next known) R does → Runs (after (meets Passes) next known) R (λ go. Go (does go))
  pause_runs next known R does p all go m h =
      let parts = steps_first (Passes ∷ []) (next known) all in
      subst (held (Go (does go))) (steps_most (Passes ∷ []) (next known) m)
      (length (steps_of (next known)) + m, omega arith, p parts.1 go m (ending_same (Passes ∷ []) (next known) R go m h))

  weaker : (w : Walked) (P R : List ℤ → List ℤ → Type 0) (does : (List ℤ → Turn) → Turn) → Runs w P does → ((later : List ℤ) → P (known_after w) later → R (known_after w) later) → Runs w R does
  weaker w P R does p holds all go m h = p all go m (λ ending later is. h ending later (holds later is))

  -- what is so of the scalars behind a part: the known ones agree with them where these names are bound, and under a data
  -- test they are what they were
  abbrev pub Leaves : List ℕ → List ℕ → Bool → List ℤ → List ℤ → List ℤ → Type 0
  Leaves bound wide under scalars known later = agree wide known later × (under ≡ true → agree bound scalars later)

  -- a part of a body: what it does and how it is walked
  abbrev pub IsHeld : Effect → turn.Effect → Test → (List ℕ → List ℕ) → Type 0
  IsHeld walked does fits wider = (bound : List ℕ) (under : Bool) → fits bound under ≡ true → (known scalars : List ℤ) → agree bound known scalars
      → Runs (walked known) (Leaves bound (wider bound) under scalars) (does scalars)

  -- under a data test nothing that is known changes
  abbrev pub IsKept : Effect → Test → Type 0
  IsKept walked fits = (bound : List ℕ) → fits bound true ≡ true → (known : List ℤ) → agree bound known (known_after (walked known))

  abbrev pub Widens : (List ℕ → List ℕ) → Type 0
  Widens wider = (bound : List ℕ) → Wider set hidden bound (wider bound)

  pub record Part (walked : Effect) (does : turn.Effect) (fits : Test) (wider : List ℕ → List ℕ) : Type 0 where
    pub runs : IsHeld walked does fits wider
    pub kept : IsKept walked fits
    pub wide : Widens wider

  abbrev pub StmtPart : Stmt → Type 0
  StmtPart s = Part (walk_stmt set s) (effect set.arrays s) (fit set hidden s).fits (fit set hidden s).behind

  -- what is known behind two parts
  kept_before : (steps : List Step) (w : Walked) → known_after (steps_before steps w) ≡ known_after w
  kept_before steps (Ends others known) = refl
  kept_before steps (Traps others known) = refl

  kept_after : (bound : List ℕ) (w : Walk) (next : Effect) (known : List ℤ) → agree bound known (known_after (next known)) → agree bound known (known_after (after w next known))
  kept_after bound (Goes steps) next known a = subst (agree bound known) (sym (kept_before steps (next known))) a
  kept_after bound (Stops steps) next known a = agree_refl set hidden bound known

  kept_then : (bound : List ℕ) (w : Walked) (next : Effect) (known : List ℤ) → agree bound known (known_after w) → agree bound (known_after w) (known_after (next (known_after w))) → agree bound known (known_after (then_do w next))
  kept_then bound (Ends steps later) next known a b = subst (agree bound known) (sym (kept_before steps (next later))) (agree_trans set hidden bound known later (known_after (next later)) a b)
  kept_then bound (Traps steps later) next known a b = a

  kept_branch : (bound : List ℕ) (w : Walked) (known : List ℤ) → agree bound known (known_after w) → agree bound known (known_after (data_branch w))
  kept_branch bound (Ends steps later) known a = a
  kept_branch bound (Traps steps later) known a = a

  -- an assignment, behind the walk of its value
  module _ (bound : List ℕ) (under : Bool) (known scalars : List ℤ) (a : agree bound known scalars) (name : ℕ) (e : Expr) (v : ℤ) (told : IsTold set fixed claims tells e known v) (gives_it : gives set hidden under name e ≡ true) (line : Line) where
    abbrev Left : List ℤ → List ℤ → Type 0
    Left = Leaves bound (name ∷ bound) under scalars

    abbrev does_assign : Option Bin → (List ℤ → Turn) → Turn
    does_assign o go = assigning line o (scalar_at scalars name) v (λ new. Op (go (with_scalar scalars name new)))

    -- of a data local nothing is known
    left_data : set.is_data_local name ≡ true → (new : ℤ) → Left known (with_scalar scalars name new)
    left_data is new = (
      record {
        as_many = a.as_many ∙ (data_given set hidden bound scalars name new is).as_many;
        each = λ other sliced seen. by other sliced (other == name) refl seen;
      },
      λ u. data_given set hidden bound scalars name new is,
    )
      where
        by : (other : ℕ) → set.is_data_local other ≡ false → (b : Bool) → (other == name) ≡ b → ((b || is_among bound other) || not (hidden other)) ≡ true → scalar_at known other ≡ scalar_at (with_scalar scalars name new) other
        by other sliced true same seen = absurd (let no : true ≡ false = sym is ∙ sym (ap set.is_data_local (eqb-true other name same)) ∙ sliced in cc)
        by other sliced false apart seen = a.each other sliced seen ∙ sym (set_other scalars name other new apart)

    left_slice : under ≡ false → (new : ℤ) → Left (with_scalar known name new) (with_scalar scalars name new)
    left_slice free new = (agree_given set hidden bound known scalars name new a, λ u. absurd (let no : true ≡ false = sym u ∙ free in cc))

    by_data : set.is_data_local name ≡ true → (r : Result ℤ Cause) → Runs (Ends (Passes ∷ Passes ∷ []) known) Left (λ go. done_with line r (λ new. Op (go (with_scalar scalars name new))))
    by_data is (Ok new) all go m h = (suc m, omega arith, (m, omega arith, h tt (with_scalar scalars name new) (left_data is new)))
    by_data is (Err cause) all go m h = tt

    by_slice : (o : Change) (r : Result ℤ Cause) → under ≡ false → walks.assigning o ≡ Passes ∷ Passes ∷ [] → Runs (given o name r known) Left (λ go. done_with line r (λ new. Op (go (with_scalar scalars name new))))
    by_slice o (Ok new) free two = subst (λ steps. Runs (Ends steps (with_scalar known name new)) Left (λ go. Op (Op (go (with_scalar scalars name new))))) (sym two)
        (λ all go m h. (suc m, omega arith, (m, omega arith, h tt (with_scalar scalars name new) (left_slice free new))))
    by_slice o (Err cause) free two = λ all go m h. tt

    sliced : set.is_data_local name ≡ false → (is_slice set e ≡ true) × (under ≡ false)
    sliced is =
        let both : (is_slice set e && not under) ≡ true = sym (ap (λ b. b || (is_slice set e && not under)) is) ∙ gives_it in
        (and_left (is_slice set e) (not under) both, not_false under (and_right (is_slice set e) (not under) both))

    set_runs : Runs (assign set op.Set name e known) Left (does_assign None)
    set_runs = by (set.is_data_local name) refl
      where
        by : (b : Bool) → set.is_data_local name ≡ b → Runs (if b then Ends (Passes ∷ []) known else given op.Set name (and_then (value_of set known e) (assigned None (scalar_at known name))) known) Left (does_assign None)
        by true is = λ all go m h. (m, omega arith, h tt (with_scalar scalars name v) (left_data is v))
        by false is = subst (λ r. Runs (given op.Set name (and_then r (assigned None (scalar_at known name))) known) Left (does_assign None)) (sym (told (sliced is).0))
            (λ all go m h. (m, omega arith, h tt (with_scalar scalars name v) (left_slice (sliced is).1 v)))

    -- behind `op=` the old value is read, which is known of a slice local
    abbrev IsOld : Type 0
    IsOld = set.is_data_local name ≡ false → scalar_at known name ≡ scalar_at scalars name

    change_runs : (o : Change) (operation : Bin) → operation_of o ≡ Some operation → walks.assigning o ≡ Passes ∷ Passes ∷ [] → IsOld → Runs (assign set o name e known) Left (does_assign (operation_of o))
    change_runs o operation is_op two old = subst (λ p. Runs (if set.is_data_local name then Ends (walks.assigning o) known else given o name (and_then (value_of set known e) (assigned p (scalar_at known name))) known) Left (does_assign p)) (sym is_op)
        (by (set.is_data_local name) refl)
      where
        by : (b : Bool) → set.is_data_local name ≡ b → Runs (if b then Ends (walks.assigning o) known else given o name (and_then (value_of set known e) (apply operation (scalar_at known name))) known) Left (does_assign (Some operation))
        by true is = subst (λ steps. Runs (Ends steps known) Left (does_assign (Some operation))) (sym two) (by_data is (apply operation (scalar_at scalars name) v))
        by false is = subst (λ r. Runs (given o name (and_then r (apply operation (scalar_at known name))) known) Left (does_assign (Some operation))) (sym (told (sliced is).0))
            (subst (λ x. Runs (given o name (apply operation x v) known) Left (does_assign (Some operation))) (sym (old is)) (by_slice o (apply operation (scalar_at scalars name) v) (sliced is).1 two))

    assign_runs : (o : Change) → IsOld → Runs (assign set o name e known) Left (does_assign (operation_of o))
    assign_runs = by_change (λ o. IsOld → Runs (assign set o name e known) Left (does_assign (operation_of o))) (λ old. set_runs) (λ o operation is_op two written old. change_runs o operation is_op two old)

  -- an assignment under a data test leaves what is known
  assign_kept : (bound : List ℕ) (known : List ℤ) (o : Change) (name : ℕ) (e : Expr) → gives set hidden true name e ≡ true → agree bound known (known_after (assign set o name e known))
  assign_kept bound known o name e gives_it = by (set.is_data_local name) gives_it
    where
      by : (b : Bool) → (b || (is_slice set e && false)) ≡ true → agree bound known (known_after (if b then Ends (walks.assigning o) known else given o name (and_then (value_of set known e) (assigned (operation_of o) (scalar_at known name))) known))
      by true is = agree_refl set hidden bound known
      by false is = absurd (let no : false ≡ true = and_right (is_slice set e) false is in cc)

  -- the write of a word, behind the walks of its subscript and its value
  module _ (bound : List ℕ) (under : Bool) (known scalars : List ℤ) (a : agree bound known scalars) (name : ℕ) (place : Expr) (at : ℤ) (told : IsTold set fixed claims tells place known at) (right : ℤ) (line : Line) where
    abbrev Unchanged : List ℤ → List ℤ → Type 0
    Unchanged = Leaves bound bound under scalars

    abbrev does_write : Option Bin → Option (ℕ × ℕ) → (List ℤ → Turn) → Turn
    does_write o p go = inside line p (λ array n. writing line o array n right (go scalars))

    -- the step that the walk meets at a place, and what it claims there
    record Meets (p : ℕ × ℕ) : Type 0 where
      step : Bool → Step
      is_met : (kind : Bool) → access set true kind name known place ≡ meets (step kind)
      covers : (kind : Bool) → IsClaimed sizes fixed claims (step kind) → has claims kind (word_number sizes p.0 p.1) ≡ true

    meets_at : (p : ℕ × ℕ) → located set.arrays name at ≡ Some p → Meets p
    meets_at p there = by (is_slice set place) refl
      where
        placed : IsPlaced set.arrays name p
        placed = is_placed set.arrays name at p there

        by : (b : Bool) → is_slice set place ≡ b → Meets p
        by true is = record {
          step = λ kind. Touches p.0 p.1 kind;
          is_met = λ kind. ap (λ b. if b then at_place set true kind name (value_of set known place) else anywhere set true kind name) is ∙ ap (at_place set true kind name) (told is)
              ∙ ap (λ o. option_map_or (λ (q : ℕ × ℕ). meets (Touches q.0 q.1 kind)) o trap) there;
          covers = λ kind is_claimed. is_claimed;
        }
        by false is = record {
          step = λ kind. Sweeps p.0 kind;
          is_met = λ kind. ap (λ b. if b then at_place set true kind name (value_of set known place) else anywhere set true kind name) is
              ∙ ap (λ o. option_map_or (λ (n : ℕ). meets (Sweeps n kind)) o trap) placed.1;
          covers = λ kind is_claimed. is_claimed p.1 placed.0;
        }

    left : Unchanged known scalars
    left = (a, λ u. agree_refl set hidden bound scalars)

    abbrev Writes : Change → Type 0
    Writes o = Runs (after (write set o name known place) ends known) Unchanged (does_write (operation_of o) (located set.arrays name at))

    set_writes : Writes op.Set
    set_writes = by (located set.arrays name at) refl
      where
        by : (p : Option (ℕ × ℕ)) → located set.arrays name at ≡ p → Runs (after (access set true true name known place) ends known) Unchanged (does_write None p)
        by None there = λ all go m h. tt
        by (Some p) there = let at_p = meets_at p there in
            subst (λ w. Runs (after w ends known) Unchanged (does_write None (Some p))) (sym (at_p.is_met true)) (λ all go m h. (m, omega arith, at_p.covers true all.0, h tt scalars left))

    change_writes : (o : Change) (operation : Bin) → operation_of o ≡ Some operation
        → ((s : Setting) (n : ℕ) (k : List ℤ) (e : Expr) → write s o n k e ≡ behind (access s true false n k e) (behind (meets Passes) (access s true true n k e))) → Writes o
    change_writes o operation is_op written = subst (λ q. Runs (after (write set o name known place) ends known) Unchanged (does_write q (located set.arrays name at))) (sym is_op)
        (subst (λ w. Runs (after w ends known) Unchanged (does_write (Some operation) (located set.arrays name at))) (sym (written set name known place)) (by (located set.arrays name at) refl))
      where
        stores : (p : ℕ × ℕ) (go : List ℤ → Turn) (m : ℕ) → claims.written (word_number sizes p.0 p.1) ≡ true → held (go scalars) m → (r : Result ℤ Cause) → held (done_with line r (λ new. Store p.0 p.1 new (go scalars))) (suc (suc m))
        stores p go m is_claimed rest (Ok new) = (suc m, omega arith, (m, omega arith, is_claimed, rest))
        stores p go m is_claimed rest (Err cause) = tt

        by : (p : Option (ℕ × ℕ)) → located set.arrays name at ≡ p → Runs (after (behind (access set true false name known place) (behind (meets Passes) (access set true true name known place))) ends known) Unchanged (does_write (Some operation) p)
        by None there = λ all go m h. tt
        by (Some p) there = let at_p = meets_at p there in
            subst (λ w. Runs (after (behind w (behind (meets Passes) (access set true true name known place))) ends known) Unchanged (does_write (Some operation) (Some p))) (sym (at_p.is_met false))
            (subst (λ w. Runs (after (behind (meets (at_p.step false)) (behind (meets Passes) w)) ends known) Unchanged (does_write (Some operation) (Some p))) (sym (at_p.is_met true))
            (λ all go m h. (suc (suc m), omega arith, λ none. at_p.covers false all.0, λ old can. stores p go m (at_p.covers true all.1.1.0) (h tt scalars left) (apply operation old right))))

    write_runs : (o : Change) → Writes o
    write_runs = by_change Writes set_writes (λ o operation is_op two written. change_writes o operation is_op written)

  -- a block
  block_part : (stmts : List Stmt) → Each StmtPart stmts → Part (walk_block set stmts) (turn.sequence (map (effect set.arrays) stmts)) (fit_block set hidden stmts) (behind_block set hidden stmts)
  block_part [] each = record {
    runs = λ bound under fits known scalars a all go m h. more sizes fixed claims (go scalars) m (0 + m) (omega arith) (h tt scalars (a, λ u. agree_refl set hidden bound scalars));
    kept = λ bound fits known. agree_refl set hidden bound known;
    wide = λ bound name is. is;
  }
  block_part (s ∷ stmts) each =
      let rest = block_part stmts each.1 in
      let own = each.0 in record {
        runs = λ bound under fits known scalars a.
            let here = and_left ((fit set hidden s).fits bound under) (fit_block set hidden stmts ((fit set hidden s).behind bound) under) fits in
            let others = and_right ((fit set hidden s).fits bound under) (fit_block set hidden stmts ((fit set hidden s).behind bound) under) fits in
            let next = (fit set hidden s).behind bound in
            then_runs (walk_stmt set s known) (Leaves bound next under scalars) (effect set.arrays s scalars) (own.runs bound under here known scalars a) (walk_block set stmts) (Leaves bound (behind_block set hidden stmts next) under scalars)
            (λ later. turn.sequence (map (effect set.arrays) stmts) later)
            (λ ending later left. weaker (walk_block set stmts (known_after (walk_stmt set s known))) (Leaves next (behind_block set hidden stmts next) under later) (Leaves bound (behind_block set hidden stmts next) under scalars) (turn.sequence (map (effect set.arrays) stmts) later)
            (rest.runs next under others (known_after (walk_stmt set s known)) later left.0)
            (λ last more_left. (more_left.0, λ u. agree_trans set hidden bound scalars later last (left.1 u) (agree_narrower set hidden bound next later last (own.wide bound) (more_left.1 u)))));
        kept = λ bound fits known.
            let next = (fit set hidden s).behind bound in
            let here = and_left ((fit set hidden s).fits bound true) (fit_block set hidden stmts next true) fits in
            let others = and_right ((fit set hidden s).fits bound true) (fit_block set hidden stmts next true) fits in
            let now = known_after (walk_stmt set s known) in
            kept_then bound (walk_stmt set s known) (walk_block set stmts) known (own.kept bound here known)
            (agree_narrower set hidden bound next now (known_after (walk_block set stmts now)) (own.wide bound) (rest.kept next others now));
        wide = λ bound name is. rest.wide ((fit set hidden s).behind bound) name (own.wide bound name is);
      }

  -- an arm before the others: its test decides, or both are data branches
  module _ (test : Expr) (line : Line) (walked rest : Effect) (does otherwise : turn.Effect) (fits others : Test) (wider : List ℕ → List ℕ) (body : Part walked does fits wider) (left : Part rest otherwise others (λ bound. bound)) where
    abbrev is_data : Bool
    is_data = not (is_slice set test)

    abbrev arm_does : turn.Effect
    arm_does scalars go = reckoning set.arrays test line scalars (λ v. Go (if is_zero v then otherwise scalars go else does scalars go))

    abbrev arm_walked : Effect
    arm_walked known = after (walk set known test) (after (meets Passes) (tried set test walked rest)) known

    abbrev arm_fits : Test
    arm_fits bound under = sees set hidden bound test && (fits bound (under || is_data) && others bound (under || is_data))

    or_same : (a b : Bool) → b ≡ false → (a || b) ≡ a
    or_same true b e = refl
    or_same false b e = e

    or_true : (a b : Bool) → b ≡ true → (a || b) ≡ true
    or_true true b e = refl
    or_true false b e = e

    -- a decided arm
    taken : (bound : List ℕ) (under : Bool) → fits bound under ≡ true → others bound under ≡ true → (known scalars : List ℤ) → agree bound known scalars → (v : ℤ)
        → Runs (by_test (Ok v) walked rest known) (Leaves bound bound under scalars) (λ go. if is_zero v then otherwise scalars go else does scalars go)
    taken bound under fit_body fit_rest known scalars a v = by (is_zero v)
      where
        by : (b : Bool) → Runs (if b then rest known else walked known) (Leaves bound bound under scalars) (λ go. if b then otherwise scalars go else does scalars go)
        by true = left.runs bound under fit_rest known scalars a
        by false = weaker (walked known) (Leaves bound (wider bound) under scalars) (Leaves bound bound under scalars) (does scalars) (body.runs bound under fit_body known scalars a)
            (λ later is. (agree_narrower set hidden bound (wider bound) (known_after (walked known)) later (body.wide bound) is.0, is.1))

    -- two data branches
    split : (bound : List ℕ) (under : Bool) → fits bound true ≡ true → others bound true ≡ true → (known scalars : List ℤ) → agree bound known scalars → (v : ℤ)
        → Runs (then_do (data_branch (walked known)) (λ later. data_branch (rest later))) (Leaves bound bound under scalars) (λ go. if is_zero v then otherwise scalars go else does scalars go)
    split bound under fit_body fit_rest known scalars a v = by_walks (walked known) refl (is_zero v)
      where
        first : agree bound known (known_after (walked known))
        first = body.kept bound fit_body known

        second : agree bound (known_after (walked known)) (known_after (rest (known_after (walked known))))
        second = left.kept bound fit_rest (known_after (walked known))

        -- both branches, of any walks that they have
        one : (w x : Walked) → Runs w (Leaves bound (wider bound) true scalars) (does scalars) → agree bound known (known_after x) → Runs (Ends (steps_of w ++ steps_of x) (known_after x)) (Leaves bound bound under scalars) (does scalars)
        one w x runs still all go m h =
            let both : length (steps_of w ++ steps_of x) ≡ length (steps_of w) + length (steps_of x) = length-append (steps_of w) (steps_of x) in
            more sizes fixed claims (does scalars go) (length (steps_of w) + m) (length (steps_of w ++ steps_of x) + m) (omega (arith, both))
            (runs (each_left (IsClaimed sizes fixed claims) (steps_of w) (steps_of x) all) go m (λ ending later is. h tt later
            (agree_trans set hidden bound (known_after x) known later (agree_sym set hidden bound known (known_after x) still) (agree_trans set hidden bound known scalars later a (is.1 refl)), λ u. is.1 refl)))

        two : (w x : Walked) → Runs x (Leaves bound bound true scalars) (otherwise scalars) → agree bound known (known_after x) → Runs (Ends (steps_of w ++ steps_of x) (known_after x)) (Leaves bound bound under scalars) (otherwise scalars)
        two w x runs still all go m h =
            let both : length (steps_of w ++ steps_of x) ≡ length (steps_of w) + length (steps_of x) = length-append (steps_of w) (steps_of x) in
            more sizes fixed claims (otherwise scalars go) (length (steps_of x) + m) (length (steps_of w ++ steps_of x) + m) (omega (arith, both))
            (runs (each_right (IsClaimed sizes fixed claims) (steps_of w) (steps_of x) all) go m (λ ending later is. h tt later
            (agree_trans set hidden bound (known_after x) known later (agree_sym set hidden bound known (known_after x) still) (agree_trans set hidden bound known scalars later a (is.1 refl)), λ u. is.1 refl)))

        joined : (w : Walked) → then_do (data_branch w) (λ later. data_branch (rest later)) ≡ Ends (steps_of w ++ steps_of (rest (known_after w))) (known_after (rest (known_after w)))
        joined (Ends steps k) = by_rest (rest k)
          where
            by_rest : (x : Walked) → steps_before steps (data_branch x) ≡ Ends (steps ++ steps_of x) (known_after x)
            by_rest (Ends others l) = refl
            by_rest (Traps others l) = refl
        joined (Traps steps k) = by_rest (rest k)
          where
            by_rest : (x : Walked) → steps_before steps (data_branch x) ≡ Ends (steps ++ steps_of x) (known_after x)
            by_rest (Ends others l) = refl
            by_rest (Traps others l) = refl

        still : agree bound known (known_after (rest (known_after (walked known))))
        still = agree_trans set hidden bound known (known_after (walked known)) (known_after (rest (known_after (walked known)))) first second

        agree_now : agree bound (known_after (walked known)) scalars
        agree_now = agree_trans set hidden bound (known_after (walked known)) known scalars (agree_sym set hidden bound known (known_after (walked known)) first) a

        by_walks : (w : Walked) → walked known ≡ w → (b : Bool) → Runs (then_do (data_branch (walked known)) (λ later. data_branch (rest later))) (Leaves bound bound under scalars) (λ go. if b then otherwise scalars go else does scalars go)
        by_walks w is true = subst (λ z. Runs z (Leaves bound bound under scalars) (otherwise scalars)) (sym (joined (walked known))) (two (walked known) (rest (known_after (walked known))) (left.runs bound true fit_rest (known_after (walked known)) scalars agree_now) still)
        by_walks w is false = subst (λ z. Runs z (Leaves bound bound under scalars) (does scalars)) (sym (joined (walked known))) (one (walked known) (rest (known_after (walked known))) (body.runs bound true fit_body known scalars a) still)

    arm_part : Part arm_walked arm_does arm_fits (λ bound. bound)
    arm_part = record {
      runs = λ bound under fits_all known scalars a.
          let sees_test = and_left (sees set hidden bound test) (fits bound (under || is_data) && others bound (under || is_data)) fits_all in
          let both = and_right (sees set hidden bound test) (fits bound (under || is_data) && others bound (under || is_data)) fits_all in
          let fit_body = and_left (fits bound (under || is_data)) (others bound (under || is_data)) both in
          let fit_rest = and_right (fits bound (under || is_data)) (others bound (under || is_data)) both in
          after_runs (walk set known test) (IsTold set fixed claims tells test known) (reckoning set.arrays test line scalars) (expr_follows set fixed claims tells test line known scalars (agree_in set hidden bound known scalars test sees_test a))
          (after (meets Passes) (tried set test walked rest)) known (Leaves bound bound under scalars) (λ v go. Go (if is_zero v then otherwise scalars go else does scalars go))
          (λ going v told. pause_runs (tried set test walked rest) known (Leaves bound bound under scalars) (λ go. if is_zero v then otherwise scalars go else does scalars go)
          (by_kind bound under known scalars a v told fit_body fit_rest (is_slice set test) refl));
      kept = λ bound fits_all known.
          let both = and_right (sees set hidden bound test) (fits bound true && others bound true) fits_all in
          kept_after bound (walk set known test) (after (meets Passes) (tried set test walked rest)) known
          (kept_after bound (meets Passes) (tried set test walked rest) known (kept_tried bound known (and_left (fits bound true) (others bound true) both) (and_right (fits bound true) (others bound true) both)));
      wide = λ bound name is. is;
    }
      where
        by_kind : (bound : List ℕ) (under : Bool) (known scalars : List ℤ) → agree bound known scalars → (v : ℤ) → IsTold set fixed claims tells test known v → fits bound (under || is_data) ≡ true → others bound (under || is_data) ≡ true → (b : Bool) → is_slice set test ≡ b
            → Runs (if b then by_test (value_of set known test) walked rest known else then_do (data_branch (walked known)) (λ later. data_branch (rest later))) (Leaves bound bound under scalars) (λ go. if is_zero v then otherwise scalars go else does scalars go)
        by_kind bound under known scalars a v told fit_body fit_rest true is =
            let same : (under || is_data) ≡ under = or_same under is_data (ap not is) in
            subst (λ r. Runs (by_test r walked rest known) (Leaves bound bound under scalars) (λ go. if is_zero v then otherwise scalars go else does scalars go)) (sym (told is))
            (taken bound under (subst (λ u. fits bound u ≡ true) same fit_body) (subst (λ u. others bound u ≡ true) same fit_rest) known scalars a v)
        by_kind bound under known scalars a v told fit_body fit_rest false is =
            let same : (under || is_data) ≡ true = or_true under is_data (ap not is) in
            split bound under (subst (λ u. fits bound u ≡ true) same fit_body) (subst (λ u. others bound u ≡ true) same fit_rest) known scalars a v

        kept_tried : (bound : List ℕ) (known : List ℤ) → fits bound true ≡ true → others bound true ≡ true → agree bound known (known_after (tried set test walked rest known))
        kept_tried bound known fit_body fit_rest = by (is_slice set test)
          where
            by_result : (r : Result ℤ Cause) → agree bound known (known_after (by_test r walked rest known))
            by_result (Err cause) = agree_refl set hidden bound known
            by_result (Ok v) = by_zero (is_zero v)
              where
                by_zero : (b : Bool) → agree bound known (known_after (if b then rest known else walked known))
                by_zero true = left.kept bound fit_rest known
                by_zero false = body.kept bound fit_body known

            by : (b : Bool) → agree bound known (known_after (if b then by_test (value_of set known test) walked rest known else then_do (data_branch (walked known)) (λ later. data_branch (rest later))))
            by true = by_result (value_of set known test)
            by false = kept_then bound (data_branch (walked known)) (λ later. data_branch (rest later)) known (kept_branch bound (walked known) known (body.kept bound fit_body known))
                (let now = known_after (data_branch (walked known)) in kept_branch bound (rest now) now (left.kept bound fit_rest now))

  -- the arms of an `if`, and its last block
  arms_part : (arms : List Arm) (other : List Stmt) → Each (λ (b : Arm). Each StmtPart b.body) arms → Each StmtPart other
      → Part (choose set (map (walk_arm set) arms) (walk_block set other)) (λ scalars go. turn.choose (map (arm_effect set.arrays) arms) (turn.sequence (map (effect set.arrays) other)) scalars go) (in_arms (map (fit_arm set hidden) arms) (fit_block set hidden other)) (λ bound. bound)
  arms_part [] other arms_each other_each =
      let block = block_part other other_each in record {
        runs = λ bound under fits known scalars a. weaker (walk_block set other known) (Leaves bound (behind_block set hidden other bound) under scalars) (Leaves bound bound under scalars) (turn.sequence (map (effect set.arrays) other) scalars) (block.runs bound under fits known scalars a)
            (λ later is. (agree_narrower set hidden bound (behind_block set hidden other bound) (known_after (walk_block set other known)) later (block.wide bound) is.0, is.1));
        kept = block.kept;
        wide = λ bound name is. is;
      }
  arms_part (b ∷ arms) other arms_each other_each =
      subst (λ (t : Tried). Part (choose set (t ∷ map (walk_arm set) arms) (walk_block set other)) (λ scalars go. turn.choose (map (arm_effect set.arrays) (b ∷ arms)) (turn.sequence (map (effect set.arrays) other)) scalars go) (in_arms (map (fit_arm set hidden) (b ∷ arms)) (fit_block set hidden other)) (λ bound. bound)) (sym (walk_arm-is set b))
      (subst (λ (t : turn.Arm_effect). Part (choose set ((b.test, λ known. walk set known b.test, walk_block set b.body) ∷ map (walk_arm set) arms) (walk_block set other)) (λ scalars go. turn.choose (t ∷ map (arm_effect set.arrays) arms) (turn.sequence (map (effect set.arrays) other)) scalars go) (in_arms (map (fit_arm set hidden) (b ∷ arms)) (fit_block set hidden other)) (λ bound. bound)) (sym (arm_effect-is set.arrays b))
      (subst (λ (t : Arm_fitting). Part (choose set ((b.test, λ known. walk set known b.test, walk_block set b.body) ∷ map (walk_arm set) arms) (walk_block set other)) (λ scalars go. reckoning set.arrays b.test b.line scalars (λ v. Go (if is_zero v then turn.choose (map (arm_effect set.arrays) arms) (turn.sequence (map (effect set.arrays) other)) scalars go else turn.sequence (map (effect set.arrays) b.body) scalars go))) (in_arms (t ∷ map (fit_arm set hidden) arms) (fit_block set hidden other)) (λ bound. bound)) (sym (fit_arm-is set hidden b))
      (arm_part b.test b.line (walk_block set b.body) (choose set (map (walk_arm set) arms) (walk_block set other)) (turn.sequence (map (effect set.arrays) b.body)) (turn.choose (map (arm_effect set.arrays) arms) (turn.sequence (map (effect set.arrays) other)))
      (fit_block set hidden b.body) (in_arms (map (fit_arm set hidden) arms) (fit_block set hidden other)) (behind_block set hidden b.body) (block_part b.body arms_each.0) (arms_part arms other arms_each.1 other_each))))

  -- a loop, whose variable may not be used before it
  module _ (name : ℕ) (variable_in : ℕ → ℤ) (walked : Effect) (does : turn.Effect) (fits : Test) (wider : List ℕ → List ℕ) (body : Part walked does fits wider) (bound : List ℕ) (unseen : is_seen set hidden bound name ≡ false) where
    one_turn : (under : Bool) → fits (name ∷ bound) under ≡ true → (k : ℕ) (known scalars : List ℤ) → agree bound known scalars
        → Runs (walked (with_scalar known name (variable_in k))) (Leaves bound bound under scalars) (does (with_scalar scalars name (variable_in k)))
    one_turn under fit_body k known scalars a =
        let x = with_scalar known name (variable_in k) in
        let y = with_scalar scalars name (variable_in k) in
        weaker (walked x) (Leaves (name ∷ bound) (wider (name ∷ bound)) under y) (Leaves bound bound under scalars) (does y) (body.runs (name ∷ bound) under fit_body x y (agree_given set hidden bound known scalars name (variable_in k) a))
        (λ later is. (
          agree_narrower set hidden bound (wider (name ∷ bound)) (known_after (walked x)) later (λ other has_it. body.wide (name ∷ bound) other (one_wider set hidden bound name other has_it)) is.0,
          λ u. agree_trans set hidden bound scalars y later (unseen_given set hidden bound scalars name (variable_in k) unseen) (agree_narrower set hidden bound (name ∷ bound) y later (one_wider set hidden bound name) (is.1 u)),
        ))

    turns_run : (under : Bool) → fits (name ∷ bound) under ≡ true → (n k : ℕ) (known scalars : List ℤ) → agree bound known scalars
        → Runs (repeat n k variable_in name walked known) (Leaves bound bound under scalars) (turn.repeat n k variable_in name does scalars)
    turns_run under fit_body zero k known scalars a = λ all go m h. more sizes fixed claims (go scalars) m (0 + m) (omega arith) (h tt scalars (a, λ u. agree_refl set hidden bound scalars))
    turns_run under fit_body (suc n) k known scalars a =
        let x = with_scalar known name (variable_in k) in
        then_runs (walked x) (Leaves bound bound under scalars) (does (with_scalar scalars name (variable_in k))) (one_turn under fit_body k known scalars a)
        (after (meets Passes) (repeat n (suc k) variable_in name walked)) (Leaves bound bound under scalars) (λ later go. Go (turn.repeat n (suc k) variable_in name does later go))
        (λ ending later is. pause_runs (repeat n (suc k) variable_in name walked) (known_after (walked x)) (Leaves bound bound under scalars) (turn.repeat n (suc k) variable_in name does later)
        (weaker (repeat n (suc k) variable_in name walked (known_after (walked x))) (Leaves bound bound under later) (Leaves bound bound under scalars) (turn.repeat n (suc k) variable_in name does later)
        (turns_run under fit_body n (suc k) (known_after (walked x)) later is.0) (λ last left. (left.0, λ u. agree_trans set hidden bound scalars later last (is.1 u) (left.1 u)))))

    turns_kept : fits (name ∷ bound) true ≡ true → (n k : ℕ) (known : List ℤ) → agree bound known (known_after (repeat n k variable_in name walked known))
    turns_kept fit_body zero k known = agree_refl set hidden bound known
    turns_kept fit_body (suc n) k known =
        let x = with_scalar known name (variable_in k) in
        kept_then bound (walked x) (after (meets Passes) (repeat n (suc k) variable_in name walked)) known
        (agree_trans set hidden bound known x (known_after (walked x)) (unseen_given set hidden bound known name (variable_in k) unseen) (agree_narrower set hidden bound (name ∷ bound) x (known_after (walked x)) (one_wider set hidden bound name) (body.kept (name ∷ bound) fit_body x)))
        (kept_after bound (meets Passes) (repeat n (suc k) variable_in name walked) (known_after (walked x)) (turns_kept fit_body n (suc k) (known_after (walked x))))

    looped_runs : (under : Bool) → fits (name ∷ bound) under ≡ true → (line : Line) (r : Result ℕ Cause) (known scalars : List ℤ) → agree bound known scalars
        → Runs (looped r variable_in name walked known) (Leaves bound bound under scalars) (looping line r variable_in name does scalars)
    looped_runs under fit_body line (Ok n) known scalars a = pause_runs (repeat n 0 variable_in name walked) known (Leaves bound bound under scalars) (turn.repeat n 0 variable_in name does scalars) (turns_run under fit_body n 0 known scalars a)
    looped_runs under fit_body line (Err cause) known scalars a = λ all go m h. tt

    looped_kept : fits (name ∷ bound) true ≡ true → (r : Result ℕ Cause) (known : List ℤ) → agree bound known (known_after (looped r variable_in name walked known))
    looped_kept fit_body (Ok n) known = kept_after bound (meets Passes) (repeat n 0 variable_in name walked) known (turns_kept fit_body n 0 known)
    looped_kept fit_body (Err cause) known = agree_refl set hidden bound known

  or_false : (a b : Bool) → a ≡ false → b ≡ false → (a || b) ≡ false
  or_false true b e f = absurd (let no : true ≡ false = e in cc)
  or_false false b e f = f

  -- the parts of what a loop's header has to keep
  record Header (bound : List ℕ) (l : Loop) : Type 0 where
    low : is_slice set l.low ≡ true
    high : is_slice set l.high ≡ true
    sees_low : sees set hidden bound l.low ≡ true
    sees_high : sees set hidden bound l.high ≡ true
    unseen : is_seen set hidden bound l.name ≡ false

  header_of : (bound : List ℕ) (l : Loop) → bounds_fit set hidden bound l.name l.low l.high ≡ true → Header bound l
  header_of bound l e =
      let slices = and_left (is_slice set l.low && is_slice set l.high) ((sees set hidden bound l.low && sees set hidden bound l.high) && (hidden l.name && not (is_among bound l.name))) e in
      let rest = and_right (is_slice set l.low && is_slice set l.high) ((sees set hidden bound l.low && sees set hidden bound l.high) && (hidden l.name && not (is_among bound l.name))) e in
      let seen = and_left (sees set hidden bound l.low && sees set hidden bound l.high) (hidden l.name && not (is_among bound l.name)) rest in
      let own = and_right (sees set hidden bound l.low && sees set hidden bound l.high) (hidden l.name && not (is_among bound l.name)) rest in
      record {
        low = and_left (is_slice set l.low) (is_slice set l.high) slices;
        high = and_right (is_slice set l.low) (is_slice set l.high) slices;
        sees_low = and_left (sees set hidden bound l.low) (sees set hidden bound l.high) seen;
        sees_high = and_right (sees set hidden bound l.low) (sees set hidden bound l.high) seen;
        unseen = or_false (is_among bound l.name) (not (hidden l.name)) (not_false (is_among bound l.name) (and_right (hidden l.name) (not (is_among bound l.name)) own)) (ap not (and_left (hidden l.name) (not (is_among bound l.name)) own));
      }

  module _ (l : Loop) (each : Each StmtPart l.body) where
    abbrev block : Part (walk_block set l.body) (turn.sequence (map (effect set.arrays) l.body)) (fit_block set hidden l.body) (behind_block set hidden l.body)
    block = block_part l.body each

    abbrev loop_walked : Effect
    loop_walked known = after (walk set known l.low) (after (walk set known l.high) (turned l.step l.through l.name (walk_block set l.body) (value_of set known l.low) (value_of set known l.high))) known

    abbrev loop_does : turn.Effect
    loop_does scalars go = reckoning set.arrays l.low l.line scalars (λ low. reckoning set.arrays l.high l.line scalars (λ high. looping l.line (counted (turns low high l.step l.through)) (variable low l.step) l.name (turn.sequence (map (effect set.arrays) l.body)) scalars go))

    abbrev loop_fits : Test
    loop_fits bound under = bounds_fit set hidden bound l.name l.low l.high && fit_block set hidden l.body (l.name ∷ bound) under

    loop_part : Part loop_walked loop_does loop_fits (λ bound. bound)
    loop_part = record {
      runs = λ bound under fits known scalars a.
          let header = header_of bound l (and_left (bounds_fit set hidden bound l.name l.low l.high) (fit_block set hidden l.body (l.name ∷ bound) under) fits) in
          let fit_body = and_right (bounds_fit set hidden bound l.name l.low l.high) (fit_block set hidden l.body (l.name ∷ bound) under) fits in
          after_runs (walk set known l.low) (IsTold set fixed claims tells l.low known) (reckoning set.arrays l.low l.line scalars) (expr_follows set fixed claims tells l.low l.line known scalars (agree_in set hidden bound known scalars l.low header.sees_low a))
          (after (walk set known l.high) (turned l.step l.through l.name (walk_block set l.body) (value_of set known l.low) (value_of set known l.high))) known (Leaves bound bound under scalars)
          (λ low go. reckoning set.arrays l.high l.line scalars (λ high. looping l.line (counted (turns low high l.step l.through)) (variable low l.step) l.name (turn.sequence (map (effect set.arrays) l.body)) scalars go))
          (λ going low told_low. after_runs (walk set known l.high) (IsTold set fixed claims tells l.high known) (reckoning set.arrays l.high l.line scalars) (expr_follows set fixed claims tells l.high l.line known scalars (agree_in set hidden bound known scalars l.high header.sees_high a))
          (turned l.step l.through l.name (walk_block set l.body) (value_of set known l.low) (value_of set known l.high)) known (Leaves bound bound under scalars)
          (λ high go. looping l.line (counted (turns low high l.step l.through)) (variable low l.step) l.name (turn.sequence (map (effect set.arrays) l.body)) scalars go)
          (λ going high told_high.
          subst (λ r. Runs (turned l.step l.through l.name (walk_block set l.body) r (value_of set known l.high) known) (Leaves bound bound under scalars) (looping l.line (counted (turns low high l.step l.through)) (variable low l.step) l.name (turn.sequence (map (effect set.arrays) l.body)) scalars)) (sym (told_low header.low))
          (subst (λ r. Runs (turned l.step l.through l.name (walk_block set l.body) (Ok low) r known) (Leaves bound bound under scalars) (looping l.line (counted (turns low high l.step l.through)) (variable low l.step) l.name (turn.sequence (map (effect set.arrays) l.body)) scalars)) (sym (told_high header.high))
          (looped_runs l.name (variable low l.step) (walk_block set l.body) (turn.sequence (map (effect set.arrays) l.body)) (fit_block set hidden l.body) (behind_block set hidden l.body) block bound header.unseen under fit_body l.line (counted (turns low high l.step l.through)) known scalars a))));
      kept = λ bound fits known.
          let header = header_of bound l (and_left (bounds_fit set hidden bound l.name l.low l.high) (fit_block set hidden l.body (l.name ∷ bound) true) fits) in
          let fit_body = and_right (bounds_fit set hidden bound l.name l.low l.high) (fit_block set hidden l.body (l.name ∷ bound) true) fits in
          kept_after bound (walk set known l.low) (after (walk set known l.high) (turned l.step l.through l.name (walk_block set l.body) (value_of set known l.low) (value_of set known l.high))) known
          (kept_after bound (walk set known l.high) (turned l.step l.through l.name (walk_block set l.body) (value_of set known l.low) (value_of set known l.high)) known (turned_kept bound known header.unseen fit_body (value_of set known l.low) (value_of set known l.high)));
      wide = λ bound name is. is;
    }
      where
        turned_kept : (bound : List ℕ) (known : List ℤ) → is_seen set hidden bound l.name ≡ false → fit_block set hidden l.body (l.name ∷ bound) true ≡ true → (low high : Result ℤ Cause) → agree bound known (known_after (turned l.step l.through l.name (walk_block set l.body) low high known))
        turned_kept bound known unseen fit_body (Ok low) (Ok high) = looped_kept l.name (variable low l.step) (walk_block set l.body) (turn.sequence (map (effect set.arrays) l.body)) (fit_block set hidden l.body) (behind_block set hidden l.body) block bound unseen fit_body (counted (turns low high l.step l.through)) known
        turned_kept bound known unseen fit_body (Ok low) (Err cause) = agree_refl set hidden bound known
        turned_kept bound known unseen fit_body (Err cause) (Ok high) = agree_refl set hidden bound known
        turned_kept bound known unseen fit_body (Err cause) (Err other) = agree_refl set hidden bound known

  -- each kind of statement, by its equations
  as_is : (s : Stmt) (walked : Effect) (does : turn.Effect) (fitting : Fitting) → walk_stmt set s ≡ walked → effect set.arrays s ≡ does → fit set hidden s ≡ fitting → Part walked does fitting.fits fitting.behind → StmtPart s
  as_is s walked does fitting walks_it does_it fits_it part =
      subst (λ (f : Fitting). Part (walk_stmt set s) (effect set.arrays s) f.fits f.behind) (sym fits_it)
      (subst (λ d. Part (walk_stmt set s) d fitting.fits fitting.behind) (sym does_it)
      (subst (λ w. Part w does fitting.fits fitting.behind) (sym walks_it) part))

  declare_part : (line : Line) (name : ℕ) (e : Expr) → StmtPart (stmt.Declare line name e)
  declare_part line name e = as_is (stmt.Declare line name e) _ _ _ (walk-declare set line name e) (effect-declare set.arrays line name e) (fit-declare set hidden line name e) (record {
    runs = λ bound under fits known scalars a.
        after_runs (walk set known e) (IsTold set fixed claims tells e known) (reckoning set.arrays e line scalars) (expr_follows set fixed claims tells e line known scalars (agree_in set hidden bound known scalars e (and_left (sees set hidden bound e) (gives set hidden under name e) fits) a))
        (assign set op.Set name e) known (Leaves bound (name ∷ bound) under scalars) (λ v go. Op (go (with_scalar scalars name v)))
        (λ going v told. set_runs bound under known scalars a name e v told (and_right (sees set hidden bound e) (gives set hidden under name e) fits) line);
    kept = λ bound fits known. kept_after bound (walk set known e) (assign set op.Set name e) known (assign_kept bound known op.Set name e (and_right (sees set hidden bound e) (gives set hidden true name e) fits));
    wide = λ bound. one_wider set hidden bound name;
  })

  assign_part : (line : Line) (name : ℕ) (o : Change) (e : Expr) → StmtPart (stmt.Assign line name o e)
  assign_part line name o e = as_is (stmt.Assign line name o e) _ _ _ (walk-assign set line name o e) (effect-assign set.arrays line name o e) (fit-assign set hidden line name o e) (record {
    runs = λ bound under fits known scalars a.
        let seen = and_left (is_seen set hidden bound name) (sees set hidden bound e && gives set hidden under name e) fits in
        let rest = and_right (is_seen set hidden bound name) (sees set hidden bound e && gives set hidden under name e) fits in
        after_runs (walk set known e) (IsTold set fixed claims tells e known) (reckoning set.arrays e line scalars) (expr_follows set fixed claims tells e line known scalars (agree_in set hidden bound known scalars e (and_left (sees set hidden bound e) (gives set hidden under name e) rest) a))
        (assign set o name e) known (Leaves bound bound under scalars) (λ v go. assigning line (operation_of o) (scalar_at scalars name) v (λ new. Op (go (with_scalar scalars name new))))
        (λ going v told. weaker (assign set o name e known) (Leaves bound (name ∷ bound) under scalars) (Leaves bound bound under scalars) (λ go. assigning line (operation_of o) (scalar_at scalars name) v (λ new. Op (go (with_scalar scalars name new))))
        (assign_runs bound under known scalars a name e v told (and_right (sees set hidden bound e) (gives set hidden under name e) rest) line o (λ sliced. a.each name sliced seen))
        (λ later is. (agree_narrower set hidden bound (name ∷ bound) (known_after (assign set o name e known)) later (one_wider set hidden bound name) is.0, is.1)));
    kept = λ bound fits known. kept_after bound (walk set known e) (assign set o name e) known
        (assign_kept bound known o name e (and_right (sees set hidden bound e) (gives set hidden true name e) (and_right (is_seen set hidden bound name) (sees set hidden bound e && gives set hidden true name e) fits)));
    wide = λ bound name is. is;
  })

  write_part : (line : Line) (name : ℕ) (p : Expr) (o : Change) (e : Expr) → StmtPart (stmt.Write line name p o e)
  write_part line name p o e = as_is (stmt.Write line name p o e) _ _ _ (walk-write set line name p o e) (effect-write set.arrays line name p o e) (fit-write set hidden line name p o e) (record {
    runs = λ bound under fits known scalars a.
        after_runs (walk set known p) (IsTold set fixed claims tells p known) (reckoning set.arrays p line scalars) (expr_follows set fixed claims tells p line known scalars (agree_in set hidden bound known scalars p (and_left (sees set hidden bound p) (sees set hidden bound e) fits) a))
        (after (walk set known e) (after (write set o name known p) ends)) known (Leaves bound bound under scalars)
        (λ at go. reckoning set.arrays e line scalars (λ right. inside line (located set.arrays name at) (λ array n. writing line (operation_of o) array n right (go scalars))))
        (λ going at told. after_runs (walk set known e) (IsTold set fixed claims tells e known) (reckoning set.arrays e line scalars) (expr_follows set fixed claims tells e line known scalars (agree_in set hidden bound known scalars e (and_right (sees set hidden bound p) (sees set hidden bound e) fits) a))
        (after (write set o name known p) ends) known (Leaves bound bound under scalars) (λ right go. inside line (located set.arrays name at) (λ array n. writing line (operation_of o) array n right (go scalars)))
        (λ going right told_right. write_runs bound under known scalars a name p at told right line o));
    kept = λ bound fits known. kept_after bound (walk set known p) (after (walk set known e) (after (write set o name known p) ends)) known
        (kept_after bound (walk set known e) (after (write set o name known p) ends) known (kept_after bound (write set o name known p) ends known (agree_refl set hidden bound known)));
    wide = λ bound name is. is;
  })

  pub stmt_part : (s : Stmt) → StmtPart s
  stmt_part = stmt_induction StmtPart declare_part assign_part write_part
      (λ arms other in_arms_each in_other. as_is (stmt.If arms other) _ _ _ (walk-if set arms other) (effect-if set.arrays arms other) (fit-if set hidden arms other) (arms_part arms other in_arms_each in_other))
      (λ l each. as_is (stmt.Loop l) _ _ _ (walk-loop set l ∙ walk_loop-is set l) (effect-loop set.arrays l ∙ loop_effect-is set.arrays l) (fit-loop set hidden l ∙ ap (λ t. record { fits = t; behind = λ bound. bound }) (fit_loop-is set hidden l)) (loop_part l each))

  each_part : (stmts : List Stmt) → Each StmtPart stmts
  each_part [] = tt
  each_part (s ∷ stmts) = (stmt_part s, each_part stmts)

  -- the turn of a body, where all that its walk meets is claimed
  pub body_held : (body : List Stmt) (bound : List ℕ) (scalars : List ℤ) → fit_block set hidden body bound false ≡ true → claimed (steps_of (walks.walk_body set body scalars))
      → held (turn_of set.arrays body scalars) (length (steps_of (walks.walk_body set body scalars)) + 0)
  body_held body bound scalars fits all =
      let start = with_zeros (locals_of body) scalars in
      (block_part body (each_part body)).runs bound false fits start start (agree_refl set hidden bound start) all (λ later. Finished) 0 (λ ending later is. tt)
