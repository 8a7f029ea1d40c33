-- Scalars that agree where a part of a body begins, and words with the same `const` ones, lead the walk through the same
-- steps, and what is known agrees where it ends.
use Rattle.std.proofs.Common.{◌≡◌, ℕ, zero, suc, ◌==◌, ℤ, pos, Bool, true, false, not, ◌||◌, ◌&&◌, if◌then◌else◌, Option, Some, Result, Ok, Err, List, [], ◌∷◌, ◌++◌, map, refl, sym, ap, ◌∙◌, subst, eq-eqb}
use Rattle.std.proofs.lemmas.Bool.{or_left, eqb-true}
use Rattle.nest_syntax.specs.declared.names.Line.{Line}
use Rattle.nest_syntax.specs.declared.operators.Bin.{Bin}
use Rattle.nest_syntax.specs.declared.operators.Bin.TheVariants as bin
use Rattle.nest_syntax.specs.declared.operators.Op.{Op as Change}
use Rattle.nest_syntax.specs.declared.operators.Op.TheVariants as op
use Rattle.nest_syntax.specs.declared.operators.Cause.{Cause}
use Rattle.nest_syntax.specs.declared.tree.Expr.{Expr}
use Rattle.nest_syntax.specs.declared.tree.Expr.TheVariants as expr
use Rattle.nest_syntax.specs.declared.tree.Arm.{Arm}
use Rattle.nest_syntax.specs.declared.tree.Loop.{Loop}
use Rattle.nest_syntax.specs.declared.tree.Stmt.{Stmt}
use Rattle.nest_syntax.specs.declared.tree.Stmt.TheVariants as stmt
use Rattle.nest_syntax.specs.Among.{Each, is_among}
use Rattle.nest_syntax.specs.Words.{is_zero, apply, apply_un, operation_of, assigned, turns, counted, variable}
use Rattle.nest_syntax.specs.Value.{and_then, operate, read, scalar_at, with_scalar, is_written}
use Rattle.nest_syntax.proofs.Equations.{value-number, value-scalar, value-word, value-unary, value-binary, value-choice}
use Rattle.nest_syntax.proofs.Inductions.{expr_induction, stmt_induction}
use Rattle.data_local.specs.Names.{scalars_in}
use Rattle.claim_walk.specs.Walk.{Step, Passes, Walk, Goes, Stops, Walked, Ends, Traps, Setting, Effect, Tried, behind, meets, nothing, branch, operation, is_slice, value_of, by_value, decided, at_place, anywhere, access, operated, walk, steps_of, steps_before, after, then_do, ends, data_branch, given, assign, write, by_test, tried, choose, repeat, looped, turned, walk_stmt, walk_arm, walk_loop, walk_block}
use Rattle.claim_walk.specs.Walk as walks
use Rattle.claim_walk.proofs.Equations.{walk-number, walk-scalar, walk-word, walk-unary, walk-binary, walk-choice, walk-declare, walk-assign, walk-write, walk-if, walk-loop, walk_arm-is, walk_loop-is, scalars-scalar}
use Rattle.claim_walk.proofs.Slices.{AgreeIn, slice_scalar, slice_word, slice_unary, slice_binary, slice_choice, agree_word, agree_unary, agree_left, agree_right, agree_test, agree_first, agree_second}
use Rattle.claim_walk.proofs.Fits.{Fitting, Arm_fitting, Test, in_arms, is_seen, sees, gives, bounds_fit, fit, fit_arm, fit_block, behind_block, fit-declare, fit-assign, fit-write, fit-if, fit-loop, fit_arm-is, fit_loop-is}
use Rattle.claim_walk.proofs.Agreeing.{and_left, and_right, Agree, Wider, agree_narrower, one_wider, agree_given, agree_in}
use Rattle.claim_walk.proofs.Statements.{by_change}

own_name : (name : ℕ) → is_among (scalars_in (expr.Scalar name)) name ≡ true
own_name name = ap (λ l. is_among l name) (scalars-scalar name) ∙ or_left (name == name) false (eq-eqb name name refl)

module _ (set : Setting) (words : List ℤ) (same : (name : ℕ) (at : ℤ) → is_written set.arrays name ≡ false → read set.arrays set.words name at ≡ read set.arrays words name at) where
  -- the setting with the other words
  abbrev pub other : Setting
  other = record { arrays = set.arrays; words = words; is_data_local = set.is_data_local }

  -- expressions
  module _ (xs ys : List ℤ) where
    abbrev HasSame : Expr → Type 0
    HasSame e = is_slice set e ≡ true → AgreeIn set e xs ys → value_of set xs e ≡ value_of other ys e

    same_read : (name : ℕ) → is_written set.arrays name ≡ false → (r : Result ℤ Cause) → and_then r (read set.arrays set.words name) ≡ and_then r (read set.arrays words name)
    same_read name const (Ok at) = same name at const
    same_read name const (Err cause) = refl

    pub same_value : (e : Expr) → HasSame e
    same_value = expr_induction HasSame
        (λ n slice agree. value-number set.arrays xs set.words n ∙ sym (value-number set.arrays ys words n))
        (λ name slice agree. value-scalar set.arrays xs set.words name ∙ ap Ok (agree name (own_name name) (slice_scalar set name slice)) ∙ sym (value-scalar set.arrays ys words name))
        (λ name p is slice agree. let parts = slice_word set name p slice in
        value-word set.arrays xs set.words name p ∙ ap (λ r. and_then r (read set.arrays set.words name)) (is parts.1 (agree_word set xs ys name p agree))
        ∙ same_read name parts.0 (value_of other ys p) ∙ sym (value-word set.arrays ys words name p))
        (λ o a is slice agree.
        value-unary set.arrays xs set.words o a ∙ ap (λ r. and_then r (λ v. Ok (apply_un o v))) (is (slice_unary set o a slice) (agree_unary set xs ys o a agree)) ∙ sym (value-unary set.arrays ys words o a))
        (λ o a b is is_too slice agree. let parts = slice_binary set o a b slice in
        value-binary set.arrays xs set.words o a b
        ∙ ap (λ r. and_then r (λ v. operate o v (value_of set xs b))) (is parts.0 (agree_left set xs ys o a b agree))
        ∙ ap (λ r. and_then (value_of other ys a) (λ v. operate o v r)) (is_too parts.1 (agree_right set xs ys o a b agree))
        ∙ sym (value-binary set.arrays ys words o a b))
        (λ t a b is is_too is_three slice agree. let parts = slice_choice set t a b slice in
        value-choice set.arrays xs set.words t a b
        ∙ ap (λ r. and_then r (λ v. if is_zero v then value_of set xs b else value_of set xs a)) (is parts.0 (agree_test set xs ys t a b agree))
        ∙ ap (λ r. and_then (value_of other ys t) (λ v. if is_zero v then value_of set xs b else r)) (is_too parts.1 (agree_first set xs ys t a b agree))
        ∙ ap (λ r. and_then (value_of other ys t) (λ v. if is_zero v then r else value_of other ys a)) (is_three parts.2 (agree_second set xs ys t a b agree))
        ∙ sym (value-choice set.arrays ys words t a b))

    pub same_access : (is_claimed kind : Bool) (name : ℕ) (p : Expr) → AgreeIn set p xs ys → access set is_claimed kind name xs p ≡ access other is_claimed kind name ys p
    same_access is_claimed kind name p agree = by (is_slice set p) refl
      where
        by : (b : Bool) → is_slice set p ≡ b → (if b then at_place set is_claimed kind name (value_of set xs p) else anywhere set is_claimed kind name) ≡ (if b then at_place other is_claimed kind name (value_of other ys p) else anywhere other is_claimed kind name)
        by true slice = ap (at_place set is_claimed kind name) (same_value p slice agree)
        by false slice = refl

    same_decided : (t : Expr) → AgreeIn set t xs ys → (one zero_one one' zero_one' : Walk) → one ≡ one' → zero_one ≡ zero_one' → decided set xs t one zero_one ≡ decided other ys t one' zero_one'
    same_decided t agree one zero_one one' zero_one' e f = by (is_slice set t) refl
      where
        by : (b : Bool) → is_slice set t ≡ b → (if b then by_value (value_of set xs t) one zero_one else behind (branch one) (branch zero_one)) ≡ (if b then by_value (value_of other ys t) one' zero_one' else behind (branch one') (branch zero_one'))
        by true slice = ap (λ r. by_value r one zero_one) (same_value t slice agree) ∙ ap (λ w. by_value (value_of other ys t) w zero_one) e ∙ ap (λ w. by_value (value_of other ys t) one' w) f
        by false slice = ap (λ w. behind (branch w) (branch zero_one)) e ∙ ap (λ w. behind (branch one') (branch w)) f

    -- a binary operation behind its left part
    module _ (a b : Expr) (agree_a : AgreeIn set a xs ys) (agree_b : AgreeIn set b xs ys) (walked : walk set xs b ≡ walk other ys b) where
      abbrev Operates : Bin → Type 0
      Operates o = operated set xs o a (b, walk set xs b) ≡ operated other ys o a (b, walk other ys b)

      plainly : (o : Bin) → behind (walk set xs b) (operation (if is_slice set a && is_slice set b then and_then (value_of set xs a) (λ v. and_then (value_of set xs b) (apply o v)) else Ok (pos 0)))
          ≡ behind (walk other ys b) (operation (if is_slice other a && is_slice other b then and_then (value_of other ys a) (λ v. and_then (value_of other ys b) (apply o v)) else Ok (pos 0)))
      plainly o = ap (λ w. behind w (operation (if is_slice set a && is_slice set b then and_then (value_of set xs a) (λ v. and_then (value_of set xs b) (apply o v)) else Ok (pos 0)))) walked
          ∙ ap (λ r. behind (walk other ys b) (operation r)) (by (is_slice set a) refl (is_slice set b) refl)
        where
          by : (c : Bool) → is_slice set a ≡ c → (d : Bool) → is_slice set b ≡ d → (if c && d then and_then (value_of set xs a) (λ v. and_then (value_of set xs b) (apply o v)) else Ok (pos 0)) ≡ (if c && d then and_then (value_of other ys a) (λ v. and_then (value_of other ys b) (apply o v)) else Ok (pos 0))
          by true slice true slice_too = ap (λ r. and_then r (λ v. and_then (value_of set xs b) (apply o v))) (same_value a slice agree_a) ∙ ap (λ r. and_then (value_of other ys a) (λ v. and_then r (apply o v))) (same_value b slice_too agree_b)
          by true slice false slice_too = refl
          by false slice d slice_too = refl

      tested : behind (walk set xs b) (meets Passes) ≡ behind (walk other ys b) (meets Passes)
      tested = ap (λ w. behind w (meets Passes)) walked

      same_operated : (o : Bin) → Operates o
      same_operated bin.Both = ap (behind (meets Passes)) (same_decided a agree_a (behind (walk set xs b) (meets Passes)) nothing (behind (walk other ys b) (meets Passes)) nothing tested refl)
      same_operated bin.Either = ap (behind (meets Passes)) (same_decided a agree_a nothing (behind (walk set xs b) (meets Passes)) nothing (behind (walk other ys b) (meets Passes)) refl tested)
      same_operated bin.Add = plainly bin.Add
      same_operated bin.Sub = plainly bin.Sub
      same_operated bin.Mul = plainly bin.Mul
      same_operated bin.Div = plainly bin.Div
      same_operated bin.Rem = plainly bin.Rem
      same_operated bin.Shl = plainly bin.Shl
      same_operated bin.Shr = plainly bin.Shr
      same_operated bin.And = plainly bin.And
      same_operated bin.Xor = plainly bin.Xor
      same_operated bin.Or = plainly bin.Or
      same_operated bin.Less = plainly bin.Less
      same_operated bin.LessEq = plainly bin.LessEq
      same_operated bin.More = plainly bin.More
      same_operated bin.MoreEq = plainly bin.MoreEq
      same_operated bin.Equal = plainly bin.Equal
      same_operated bin.NotEqual = plainly bin.NotEqual

    abbrev pub IsWalkedAlike : Expr → Type 0
    IsWalkedAlike e = AgreeIn set e xs ys → walk set xs e ≡ walk other ys e

    pub same_walk : (e : Expr) → IsWalkedAlike e
    same_walk = expr_induction IsWalkedAlike
        (λ n agree. walk-number set xs n ∙ sym (walk-number other ys n))
        (λ name agree. walk-scalar set xs name ∙ sym (walk-scalar other ys name))
        (λ name p is agree. let agree_p = agree_word set xs ys name p agree in
        walk-word set xs name p
        ∙ ap (λ w. behind w (access set (is_written set.arrays name) false name xs p)) (is agree_p)
        ∙ ap (behind (walk other ys p)) (same_access (is_written set.arrays name) false name p agree_p)
        ∙ sym (walk-word other ys name p))
        (λ o a is agree. walk-unary set xs o a ∙ ap (λ w. behind w (meets Passes)) (is (agree_unary set xs ys o a agree)) ∙ sym (walk-unary other ys o a))
        (λ o a b is is_too agree. let agree_a = agree_left set xs ys o a b agree in let agree_b = agree_right set xs ys o a b agree in
        walk-binary set xs o a b
        ∙ ap (λ w. behind w (operated set xs o a (b, walk set xs b))) (is agree_a)
        ∙ ap (behind (walk other ys a)) (same_operated a b agree_a agree_b (is_too agree_b) o)
        ∙ sym (walk-binary other ys o a b))
        (λ t a b is is_too is_three agree. let agree_t = agree_test set xs ys t a b agree in
        walk-choice set xs t a b
        ∙ ap (λ w. behind w (behind (meets Passes) (decided set xs t (walk set xs a) (walk set xs b)))) (is agree_t)
        ∙ ap (λ w. behind (walk other ys t) (behind (meets Passes) w)) (same_decided t agree_t (walk set xs a) (walk set xs b) (walk other ys a) (walk other ys b) (is_too (agree_first set xs ys t a b agree)) (is_three (agree_second set xs ys t a b agree)))
        ∙ sym (walk-choice other ys t a b))

    -- the write of a word
    pub same_write : (name : ℕ) (p : Expr) → AgreeIn set p xs ys → (o : Change) → write set o name xs p ≡ write other o name ys p
    same_write name p agree = by_change (λ o. write set o name xs p ≡ write other o name ys p)
        (same_access true true name p agree)
        (λ o operation is_op two written. written set name xs p
        ∙ ap (λ w. behind w (behind (meets Passes) (access set true true name xs p))) (same_access true false name p agree)
        ∙ ap (λ w. behind (access other true false name ys p) (behind (meets Passes) w)) (same_access true true name p agree)
        ∙ sym (written other name ys p))

  -- statements
  module _ (hidden : ℕ → Bool) where
    abbrev pub agree : List ℕ → List ℤ → List ℤ → Type 0
    agree = Agree set hidden

    -- two walks meet the same and end the same way, and what is known then agrees
    abbrev pub Alike : List ℕ → List ℕ → Walked → Walked → Type 0
    Alike bound wide (Ends steps known) (Ends steps' known') = (steps ≡ steps') × agree wide known known'
    Alike bound wide (Traps steps known) (Traps steps' known') = (steps ≡ steps') × agree bound known known'
    Alike bound wide (Ends steps known) (Traps steps' known') = ⊥
    Alike bound wide (Traps steps known) (Ends steps' known') = ⊥

    pub same_steps : (bound wide : List ℕ) (v w : Walked) → Alike bound wide v w → steps_of v ≡ steps_of w
    same_steps bound wide (Ends steps known) (Ends steps' known') a = a.0
    same_steps bound wide (Traps steps known) (Traps steps' known') a = a.0
    same_steps bound wide (Ends steps known) (Traps steps' known') a = absurd a
    same_steps bound wide (Traps steps known) (Ends steps' known') a = absurd a

    alike_less : (bound less wide : List ℕ) (v w : Walked) → Wider set hidden less wide → Alike bound wide v w → Alike bound less v w
    alike_less bound less wide (Ends steps known) (Ends steps' known') wider a = (a.0, agree_narrower set hidden less wide known known' wider a.1)
    alike_less bound less wide (Traps steps known) (Traps steps' known') wider a = a
    alike_less bound less wide (Ends steps known) (Traps steps' known') wider a = absurd a
    alike_less bound less wide (Traps steps known) (Ends steps' known') wider a = absurd a

    alike_from : (bound from wide : List ℕ) (v w : Walked) → Wider set hidden bound from → Alike from wide v w → Alike bound wide v w
    alike_from bound from wide (Ends steps known) (Ends steps' known') wider a = a
    alike_from bound from wide (Traps steps known) (Traps steps' known') wider a = (a.0, agree_narrower set hidden bound from known known' wider a.1)
    alike_from bound from wide (Ends steps known) (Traps steps' known') wider a = absurd a
    alike_from bound from wide (Traps steps known) (Ends steps' known') wider a = absurd a

    alike_before : (bound wide : List ℕ) (first first' : List Step) (v w : Walked) → first ≡ first' → Alike bound wide v w → Alike bound wide (steps_before first v) (steps_before first' w)
    alike_before bound wide first first' (Ends steps known) (Ends steps' known') e a = (ap (λ s. s ++ steps) e ∙ ap (λ s. first' ++ s) a.0, a.1)
    alike_before bound wide first first' (Traps steps known) (Traps steps' known') e a = (ap (λ s. s ++ steps) e ∙ ap (λ s. first' ++ s) a.0, a.1)
    alike_before bound wide first first' (Ends steps known) (Traps steps' known') e a = absurd a
    alike_before bound wide first first' (Traps steps known) (Ends steps' known') e a = absurd a

    after_alike : (bound wide : List ℕ) (v w : Walk) → v ≡ w → (next next' : Effect) (xs ys : List ℤ) → agree bound xs ys → Alike bound wide (next xs) (next' ys) → Alike bound wide (after v next xs) (after w next' ys)
    after_alike bound wide v w e next next' xs ys a alike = subst (λ z. Alike bound wide (after v next xs) (after z next' ys)) e (by v)
      where
        by : (z : Walk) → Alike bound wide (after z next xs) (after z next' ys)
        by (Goes steps) = alike_before bound wide steps steps (next xs) (next' ys) refl alike
        by (Stops steps) = (refl, a)

    then_alike : (bound mid wide : List ℕ) (v w : Walked) (next next' : Effect) → Wider set hidden bound mid → Alike bound mid v w → ((xs ys : List ℤ) → agree mid xs ys → Alike mid wide (next xs) (next' ys)) → Alike bound wide (then_do v next) (then_do w next')
    then_alike bound mid wide (Ends steps known) (Ends steps' known') next next' wider a rest = alike_before bound wide steps steps' (next known) (next' known') a.0 (alike_from bound mid wide (next known) (next' known') wider (rest known known' a.1))
    then_alike bound mid wide (Traps steps known) (Traps steps' known') next next' wider a rest = a
    then_alike bound mid wide (Ends steps known) (Traps steps' known') next next' wider a rest = absurd a
    then_alike bound mid wide (Traps steps known) (Ends steps' known') next next' wider a rest = absurd a

    branch_alike : (bound : List ℕ) (v w : Walked) → Alike bound bound v w → Alike bound bound (data_branch v) (data_branch w)
    branch_alike bound (Ends steps known) (Ends steps' known') a = a
    branch_alike bound (Traps steps known) (Traps steps' known') a = a
    branch_alike bound (Ends steps known) (Traps steps' known') a = absurd a
    branch_alike bound (Traps steps known) (Ends steps' known') a = absurd a

    pub record Part (walked walked' : Effect) (fits : Test) (wider : List ℕ → List ℕ) : Type 0 where
      pub alike : (bound : List ℕ) (under : Bool) → fits bound under ≡ true → (xs ys : List ℤ) → agree bound xs ys → Alike bound (wider bound) (walked xs) (walked' ys)
      pub wide : (bound : List ℕ) → Wider set hidden bound (wider bound)

    abbrev StmtPart : Stmt → Type 0
    StmtPart s = Part (walk_stmt set s) (walk_stmt other s) (fit set hidden s).fits (fit set hidden s).behind

    itself : (bound : List ℕ) → Wider set hidden bound bound
    itself bound name is = is

    -- an assignment, behind the walk of its value
    module _ (bound : List ℕ) (under : Bool) (xs ys : List ℤ) (a : agree bound xs ys) (name : ℕ) (e : Expr) (sees_it : sees set hidden bound e ≡ true) (gives_it : gives set hidden under name e ≡ true) (o : Change)
        (old : set.is_data_local name ≡ false → (v : ℤ) → assigned (operation_of o) (scalar_at xs name) v ≡ assigned (operation_of o) (scalar_at ys name) v) where
      given_alike : (r : Result ℤ Cause) → Alike bound (name ∷ bound) (given o name r xs) (given o name r ys)
      given_alike (Ok new) = (refl, agree_given set hidden bound xs ys name new a)
      given_alike (Err cause) = (refl, a)

      with_data : set.is_data_local name ≡ true → agree (name ∷ bound) xs ys
      with_data is = record { as_many = a.as_many; each = λ one sliced seen. by one sliced (one == name) refl seen }
        where
          by : (one : ℕ) → set.is_data_local one ≡ false → (b : Bool) → (one == name) ≡ b → ((b || is_among bound one) || not (hidden one)) ≡ true → scalar_at xs one ≡ scalar_at ys one
          by one sliced true eq seen = absurd (let no : true ≡ false = sym is ∙ sym (ap set.is_data_local (eqb-true one name eq)) ∙ sliced in cc)
          by one sliced false eq seen = a.each one sliced seen

      pub assign_alike : Alike bound (name ∷ bound) (assign set o name e xs) (assign other o name e ys)
      assign_alike = by (set.is_data_local name) refl gives_it
        where
          new_value : set.is_data_local name ≡ false → is_slice set e ≡ true → and_then (value_of set xs e) (assigned (operation_of o) (scalar_at xs name)) ≡ and_then (value_of other ys e) (assigned (operation_of o) (scalar_at ys name))
          new_value is slice = ap (λ r. and_then r (assigned (operation_of o) (scalar_at xs name))) (same_value xs ys e slice (agree_in set hidden bound xs ys e sees_it a)) ∙ by_result (value_of other ys e)
            where
              by_result : (r : Result ℤ Cause) → and_then r (assigned (operation_of o) (scalar_at xs name)) ≡ and_then r (assigned (operation_of o) (scalar_at ys name))
              by_result (Ok v) = old is v
              by_result (Err cause) = refl

          by : (b : Bool) → set.is_data_local name ≡ b → (b || (is_slice set e && not under)) ≡ true
              → Alike bound (name ∷ bound) (if b then Ends (walks.assigning o) xs else given o name (and_then (value_of set xs e) (assigned (operation_of o) (scalar_at xs name))) xs) (if b then Ends (walks.assigning o) ys else given o name (and_then (value_of other ys e) (assigned (operation_of o) (scalar_at ys name))) ys)
          by true is g = (refl, with_data is)
          by false is g = subst (λ r. Alike bound (name ∷ bound) (given o name (and_then (value_of set xs e) (assigned (operation_of o) (scalar_at xs name))) xs) (given o name r ys)) (new_value is (and_left (is_slice set e) (not under) g))
              (given_alike (and_then (value_of set xs e) (assigned (operation_of o) (scalar_at xs name))))

    -- a block
    block_part : (stmts : List Stmt) → Each StmtPart stmts → Part (walk_block set stmts) (walk_block other stmts) (fit_block set hidden stmts) (behind_block set hidden stmts)
    block_part [] each = record { alike = λ bound under fits xs ys a. (refl, a); wide = itself }
    block_part (s ∷ stmts) each =
        let rest = block_part stmts each.1 in
        let own = each.0 in record {
          alike = λ bound under fits xs ys a.
              let next = (fit set hidden s).behind bound in
              then_alike bound next (behind_block set hidden stmts next) (walk_stmt set s xs) (walk_stmt other s ys) (walk_block set stmts) (walk_block other stmts) (own.wide bound)
              (own.alike bound under (and_left ((fit set hidden s).fits bound under) (fit_block set hidden stmts next under) fits) xs ys a)
              (rest.alike next under (and_right ((fit set hidden s).fits bound under) (fit_block set hidden stmts next under) fits));
          wide = λ bound name is. rest.wide ((fit set hidden s).behind bound) name (own.wide bound name is);
        }

    -- an arm before the others
    module _ (test : Expr) (walked walked' rest rest' : Effect) (fits others : Test) (wider : List ℕ → List ℕ) (body : Part walked walked' fits wider) (left : Part rest rest' others (λ bound. bound)) where
      abbrev is_data : Bool
      is_data = not (is_slice set test)

      abbrev arm_fits : Test
      arm_fits bound under = sees set hidden bound test && (fits bound (under || is_data) && others bound (under || is_data))

      tried_alike : (bound : List ℕ) (under : Bool) → sees set hidden bound test ≡ true → fits bound (under || is_data) ≡ true → others bound (under || is_data) ≡ true → (xs ys : List ℤ) → agree bound xs ys
          → Alike bound bound (tried set test walked rest xs) (tried other test walked' rest' ys)
      tried_alike bound under sees_test fit_body fit_rest xs ys a = by (is_slice set test) refl
        where
          one : Alike bound bound (walked xs) (walked' ys)
          one = alike_less bound bound (wider bound) (walked xs) (walked' ys) (body.wide bound) (body.alike bound (under || is_data) fit_body xs ys a)

          by_result : (r : Result ℤ Cause) → Alike bound bound (by_test r walked rest xs) (by_test r walked' rest' ys)
          by_result (Err cause) = (refl, a)
          by_result (Ok v) = by_zero (is_zero v)
            where
              by_zero : (b : Bool) → Alike bound bound (if b then rest xs else walked xs) (if b then rest' ys else walked' ys)
              by_zero true = left.alike bound (under || is_data) fit_rest xs ys a
              by_zero false = one

          by : (b : Bool) → is_slice set test ≡ b → Alike bound bound (if b then by_test (value_of set xs test) walked rest xs else then_do (data_branch (walked xs)) (λ later. data_branch (rest later))) (if b then by_test (value_of other ys test) walked' rest' ys else then_do (data_branch (walked' ys)) (λ later. data_branch (rest' later)))
          by true slice = subst (λ r. Alike bound bound (by_test (value_of set xs test) walked rest xs) (by_test r walked' rest' ys)) (same_value xs ys test slice (agree_in set hidden bound xs ys test sees_test a)) (by_result (value_of set xs test))
          by false slice = then_alike bound bound bound (data_branch (walked xs)) (data_branch (walked' ys)) (λ later. data_branch (rest later)) (λ later. data_branch (rest' later)) (itself bound)
              (branch_alike bound (walked xs) (walked' ys) one)
              (λ now now' agrees. branch_alike bound (rest now) (rest' now') (left.alike bound (under || is_data) fit_rest now now' agrees))

      arm_part : Part (λ known. after (walk set known test) (after (meets Passes) (tried set test walked rest)) known) (λ known. after (walk other known test) (after (meets Passes) (tried other test walked' rest')) known) arm_fits (λ bound. bound)
      arm_part = record {
        alike = λ bound under fits_all xs ys a.
            let sees_test = and_left (sees set hidden bound test) (fits bound (under || is_data) && others bound (under || is_data)) fits_all in
            let both = and_right (sees set hidden bound test) (fits bound (under || is_data) && others bound (under || is_data)) fits_all in
            after_alike bound bound (walk set xs test) (walk other ys test) (same_walk xs ys test (agree_in set hidden bound xs ys test sees_test a)) (after (meets Passes) (tried set test walked rest)) (after (meets Passes) (tried other test walked' rest')) xs ys a
            (after_alike bound bound (meets Passes) (meets Passes) refl (tried set test walked rest) (tried other test walked' rest') xs ys a
            (tried_alike bound under sees_test (and_left (fits bound (under || is_data)) (others bound (under || is_data)) both) (and_right (fits bound (under || is_data)) (others bound (under || is_data)) both) xs ys a));
        wide = itself;
      }

    arms_part : (arms : List Arm) (last : List Stmt) → Each (λ (b : Arm). Each StmtPart b.body) arms → Each StmtPart last
        → Part (choose set (map (walk_arm set) arms) (walk_block set last)) (choose other (map (walk_arm other) arms) (walk_block other last)) (in_arms (map (fit_arm set hidden) arms) (fit_block set hidden last)) (λ bound. bound)
    arms_part [] last arms_each last_each =
        let block = block_part last last_each in record {
          alike = λ bound under fits xs ys a. alike_less bound bound (behind_block set hidden last bound) (walk_block set last xs) (walk_block other last ys) (block.wide bound) (block.alike bound under fits xs ys a);
          wide = itself;
        }
    arms_part (b ∷ arms) last arms_each last_each =
        subst (λ (t : Tried). Part (choose set (t ∷ map (walk_arm set) arms) (walk_block set last)) (choose other (map (walk_arm other) (b ∷ arms)) (walk_block other last)) (in_arms (map (fit_arm set hidden) (b ∷ arms)) (fit_block set hidden last)) (λ bound. bound)) (sym (walk_arm-is set b))
        (subst (λ (t : Tried). Part (choose set ((b.test, λ known. walk set known b.test, walk_block set b.body) ∷ map (walk_arm set) arms) (walk_block set last)) (choose other (t ∷ map (walk_arm other) arms) (walk_block other last)) (in_arms (map (fit_arm set hidden) (b ∷ arms)) (fit_block set hidden last)) (λ bound. bound)) (sym (walk_arm-is other b))
        (subst (λ (t : Arm_fitting). Part (choose set ((b.test, λ known. walk set known b.test, walk_block set b.body) ∷ map (walk_arm set) arms) (walk_block set last)) (choose other ((b.test, λ known. walk other known b.test, walk_block other b.body) ∷ map (walk_arm other) arms) (walk_block other last)) (in_arms (t ∷ map (fit_arm set hidden) arms) (fit_block set hidden last)) (λ bound. bound)) (sym (fit_arm-is set hidden b))
        (arm_part b.test (walk_block set b.body) (walk_block other b.body) (choose set (map (walk_arm set) arms) (walk_block set last)) (choose other (map (walk_arm other) arms) (walk_block other last)) (fit_block set hidden b.body) (in_arms (map (fit_arm set hidden) arms) (fit_block set hidden last)) (behind_block set hidden b.body) (block_part b.body arms_each.0) (arms_part arms last arms_each.1 last_each))))

    -- a loop
    module _ (name : ℕ) (variable_in : ℕ → ℤ) (walked walked' : Effect) (fits : Test) (wider : List ℕ → List ℕ) (body : Part walked walked' fits wider) (bound : List ℕ) (under : Bool) (fit_body : fits (name ∷ bound) under ≡ true) where
      behind_turn : Wider set hidden bound (wider (name ∷ bound))
      behind_turn one has_it = body.wide (name ∷ bound) one (one_wider set hidden bound name one has_it)

      turns_alike : (n k : ℕ) (xs ys : List ℤ) → agree bound xs ys → Alike bound bound (repeat n k variable_in name walked xs) (repeat n k variable_in name walked' ys)
      turns_alike zero k xs ys a = (refl, a)
      turns_alike (suc n) k xs ys a =
          let x = with_scalar xs name (variable_in k) in
          let y = with_scalar ys name (variable_in k) in
          then_alike bound bound bound (walked x) (walked' y) (after (meets Passes) (repeat n (suc k) variable_in name walked)) (after (meets Passes) (repeat n (suc k) variable_in name walked')) (itself bound)
          (alike_less bound bound (wider (name ∷ bound)) (walked x) (walked' y) behind_turn
          (alike_from bound (name ∷ bound) (wider (name ∷ bound)) (walked x) (walked' y) (one_wider set hidden bound name) (body.alike (name ∷ bound) under fit_body x y (agree_given set hidden bound xs ys name (variable_in k) a))))
          (λ now now' agrees. after_alike bound bound (meets Passes) (meets Passes) refl (repeat n (suc k) variable_in name walked) (repeat n (suc k) variable_in name walked') now now' agrees (turns_alike n (suc k) now now' agrees))

      looped_alike : (r : Result ℕ Cause) (xs ys : List ℤ) → agree bound xs ys → Alike bound bound (looped r variable_in name walked xs) (looped r variable_in name walked' ys)
      looped_alike (Ok n) xs ys a = after_alike bound bound (meets Passes) (meets Passes) refl (repeat n 0 variable_in name walked) (repeat n 0 variable_in name walked') xs ys a (turns_alike n 0 xs ys a)
      looped_alike (Err cause) xs ys a = (refl, a)

    module _ (l : Loop) (each : Each StmtPart l.body) where
      abbrev block : Part (walk_block set l.body) (walk_block other l.body) (fit_block set hidden l.body) (behind_block set hidden l.body)
      block = block_part l.body each

      turned_alike : (bound : List ℕ) (under : Bool) → fit_block set hidden l.body (l.name ∷ bound) under ≡ true → (low high : Result ℤ Cause) (xs ys : List ℤ) → agree bound xs ys
          → Alike bound bound (turned l.step l.through l.name (walk_block set l.body) low high xs) (turned l.step l.through l.name (walk_block other l.body) low high ys)
      turned_alike bound under fit_body (Ok low) (Ok high) xs ys a = looped_alike l.name (variable low l.step) (walk_block set l.body) (walk_block other l.body) (fit_block set hidden l.body) (behind_block set hidden l.body) block bound under fit_body (counted (turns low high l.step l.through)) xs ys a
      turned_alike bound under fit_body (Ok low) (Err cause) xs ys a = (refl, a)
      turned_alike bound under fit_body (Err cause) (Ok high) xs ys a = (refl, a)
      turned_alike bound under fit_body (Err cause) (Err too) xs ys a = (refl, a)

      abbrev walked_in : Setting → Effect
      walked_in s known = after (walk s known l.low) (after (walk s known l.high) (turned l.step l.through l.name (walk_block s l.body) (value_of s known l.low) (value_of s known l.high))) known

      loop_part : Part (walked_in set) (walked_in other) (λ bound under. bounds_fit set hidden bound l.name l.low l.high && fit_block set hidden l.body (l.name ∷ bound) under) (λ bound. bound)
      loop_part = record {
        alike = λ bound under fits xs ys a.
            let header = and_left (bounds_fit set hidden bound l.name l.low l.high) (fit_block set hidden l.body (l.name ∷ bound) under) fits in
            let fit_body = and_right (bounds_fit set hidden bound l.name l.low l.high) (fit_block set hidden l.body (l.name ∷ bound) under) fits in
            let own = hidden l.name && not (is_among bound l.name) in
            let slices = and_left (is_slice set l.low && is_slice set l.high) ((sees set hidden bound l.low && sees set hidden bound l.high) && own) header in
            let seen = and_left (sees set hidden bound l.low && sees set hidden bound l.high) own (and_right (is_slice set l.low && is_slice set l.high) ((sees set hidden bound l.low && sees set hidden bound l.high) && own) header) in
            let low = agree_in set hidden bound xs ys l.low (and_left (sees set hidden bound l.low) (sees set hidden bound l.high) seen) a in
            let high = agree_in set hidden bound xs ys l.high (and_right (sees set hidden bound l.low) (sees set hidden bound l.high) seen) a in
            after_alike bound bound (walk set xs l.low) (walk other ys l.low) (same_walk xs ys l.low low)
            (after (walk set xs l.high) (turned l.step l.through l.name (walk_block set l.body) (value_of set xs l.low) (value_of set xs l.high)))
            (after (walk other ys l.high) (turned l.step l.through l.name (walk_block other l.body) (value_of other ys l.low) (value_of other ys l.high))) xs ys a
            (after_alike bound bound (walk set xs l.high) (walk other ys l.high) (same_walk xs ys l.high high)
            (turned l.step l.through l.name (walk_block set l.body) (value_of set xs l.low) (value_of set xs l.high))
            (turned l.step l.through l.name (walk_block other l.body) (value_of other ys l.low) (value_of other ys l.high)) xs ys a
            (subst (λ r. Alike bound bound (turned l.step l.through l.name (walk_block set l.body) (value_of set xs l.low) (value_of set xs l.high) xs) (turned l.step l.through l.name (walk_block other l.body) r (value_of other ys l.high) ys)) (same_value xs ys l.low (and_left (is_slice set l.low) (is_slice set l.high) slices) low)
            (subst (λ r. Alike bound bound (turned l.step l.through l.name (walk_block set l.body) (value_of set xs l.low) (value_of set xs l.high) xs) (turned l.step l.through l.name (walk_block other l.body) (value_of set xs l.low) r ys)) (same_value xs ys l.high (and_right (is_slice set l.low) (is_slice set l.high) slices) high)
            (turned_alike bound under fit_body (value_of set xs l.low) (value_of set xs l.high) xs ys a))));
        wide = itself;
      }

    -- each kind of statement, by its equations
    as_is : (s : Stmt) (walked walked' : Effect) (fitting : Fitting) → walk_stmt set s ≡ walked → walk_stmt other s ≡ walked' → fit set hidden s ≡ fitting → Part walked walked' fitting.fits fitting.behind → StmtPart s
    as_is s walked walked' fitting is is_too fits_it part =
        subst (λ (f : Fitting). Part (walk_stmt set s) (walk_stmt other s) f.fits f.behind) (sym fits_it)
        (subst (λ w. Part (walk_stmt set s) w fitting.fits fitting.behind) (sym is_too)
        (subst (λ w. Part w walked' fitting.fits fitting.behind) (sym is) part))

    declare_part : (line : Line) (name : ℕ) (e : Expr) → StmtPart (stmt.Declare line name e)
    declare_part line name e = as_is (stmt.Declare line name e) _ _ _ (walk-declare set line name e) (walk-declare other line name e) (fit-declare set hidden line name e) (record {
      alike = λ bound under fits xs ys a.
          let seen = and_left (sees set hidden bound e) (gives set hidden under name e) fits in
          after_alike bound (name ∷ bound) (walk set xs e) (walk other ys e) (same_walk xs ys e (agree_in set hidden bound xs ys e seen a)) (assign set op.Set name e) (assign other op.Set name e) xs ys a
          (assign_alike bound under xs ys a name e seen (and_right (sees set hidden bound e) (gives set hidden under name e) fits) op.Set (λ is v. refl));
      wide = λ bound. one_wider set hidden bound name;
    })

    assign_part : (line : Line) (name : ℕ) (o : Change) (e : Expr) → StmtPart (stmt.Assign line name o e)
    assign_part line name o e = as_is (stmt.Assign line name o e) _ _ _ (walk-assign set line name o e) (walk-assign other line name o e) (fit-assign set hidden line name o e) (record {
      alike = λ bound under fits xs ys a.
          let rest = and_right (is_seen set hidden bound name) (sees set hidden bound e && gives set hidden under name e) fits in
          let seen = and_left (sees set hidden bound e) (gives set hidden under name e) rest in
          after_alike bound bound (walk set xs e) (walk other ys e) (same_walk xs ys e (agree_in set hidden bound xs ys e seen a)) (assign set o name e) (assign other o name e) xs ys a
          (alike_less bound bound (name ∷ bound) (assign set o name e xs) (assign other o name e ys) (one_wider set hidden bound name)
          (assign_alike bound under xs ys a name e seen (and_right (sees set hidden bound e) (gives set hidden under name e) rest) o
          (λ is v. ap (λ old. assigned (operation_of o) old v) (a.each name is (and_left (is_seen set hidden bound name) (sees set hidden bound e && gives set hidden under name e) fits)))));
      wide = itself;
    })

    write_part : (line : Line) (name : ℕ) (p : Expr) (o : Change) (e : Expr) → StmtPart (stmt.Write line name p o e)
    write_part line name p o e = as_is (stmt.Write line name p o e) _ _ _ (walk-write set line name p o e) (walk-write other line name p o e) (fit-write set hidden line name p o e) (record {
      alike = λ bound under fits xs ys a.
          let place = agree_in set hidden bound xs ys p (and_left (sees set hidden bound p) (sees set hidden bound e) fits) a in
          let value = agree_in set hidden bound xs ys e (and_right (sees set hidden bound p) (sees set hidden bound e) fits) a in
          after_alike bound bound (walk set xs p) (walk other ys p) (same_walk xs ys p place) (after (walk set xs e) (after (write set o name xs p) ends)) (after (walk other ys e) (after (write other o name ys p) ends)) xs ys a
          (after_alike bound bound (walk set xs e) (walk other ys e) (same_walk xs ys e value) (after (write set o name xs p) ends) (after (write other o name ys p) ends) xs ys a
          (after_alike bound bound (write set o name xs p) (write other o name ys p) (same_write xs ys name p place o) ends ends xs ys a (refl, a)));
      wide = itself;
    })

    stmt_part : (s : Stmt) → StmtPart s
    stmt_part = stmt_induction StmtPart declare_part assign_part write_part
        (λ arms last in_arms_each in_last. as_is (stmt.If arms last) _ _ _ (walk-if set arms last) (walk-if other arms last) (fit-if set hidden arms last) (arms_part arms last in_arms_each in_last))
        (λ l each. as_is (stmt.Loop l) _ _ _ (walk-loop set l ∙ walk_loop-is set l) (walk-loop other l ∙ walk_loop-is other l) (fit-loop set hidden l ∙ ap (λ t. record { fits = t; behind = λ bound. bound }) (fit_loop-is set hidden l)) (loop_part l each))

    each_part : (stmts : List Stmt) → Each StmtPart stmts
    each_part [] = tt
    each_part (s ∷ stmts) = (stmt_part s, each_part stmts)

    pub block_alike : (stmts : List Stmt) (bound : List ℕ) (under : Bool) → fit_block set hidden stmts bound under ≡ true → (xs ys : List ℤ) → agree bound xs ys → steps_of (walk_block set stmts xs) ≡ steps_of (walk_block other stmts ys)
    block_alike stmts bound under fits xs ys a = same_steps bound (behind_block set hidden stmts bound) (walk_block set stmts xs) (walk_block other stmts ys) ((block_part stmts (each_part stmts)).alike bound under fits xs ys a)
