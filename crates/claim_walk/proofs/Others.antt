-- The walk changes no scalar but those that the body gives values.
use Rattle.std.proofs.Common.{◌≡◌, ℕ, zero, suc, ◌==◌, ℤ, pos, Bool, true, false, if◌then◌else◌, Result, Ok, Err, List, [], ◌∷◌, ◌++◌, map, refl, sym, ap, ◌∙◌, subst}
use Rattle.std.specs.List.{concat}
use Rattle.std.proofs.lemmas.List.Folds.{list_any-append}
use Rattle.nest_syntax.specs.declared.operators.Op.{Op as Change}
use Rattle.nest_syntax.specs.declared.operators.Op.TheVariants as op
use Rattle.nest_syntax.specs.declared.operators.Cause.{Cause}
use Rattle.nest_syntax.specs.declared.tree.Expr.{Expr}
use Rattle.nest_syntax.specs.declared.tree.Arm.{Arm}
use Rattle.nest_syntax.specs.declared.tree.Stmt.{Stmt}
use Rattle.nest_syntax.specs.declared.tree.Stmt.TheVariants as stmt
use Rattle.nest_syntax.specs.Among.{Each, is_among}
use Rattle.nest_syntax.specs.Words.{is_zero, operation_of, assigned, turns, counted, variable}
use Rattle.nest_syntax.specs.Value.{and_then, scalar_at, with_scalar}
use Rattle.nest_syntax.specs.Locals.{given, given_in_arm, names_given, locals_of, with_zeros}
use Rattle.nest_syntax.specs.Shape.{bodies_of}
use Rattle.nest_syntax.specs.Outcome.{body_at}
use Rattle.nest_syntax.proofs.Equations.{given-declare, given-assign, given-if, given-loop, given_in_arm-is, given_in_loop-is}
use Rattle.nest_syntax.proofs.Inductions.{stmt_induction}
use Rattle.body_names.specs.Laws.{AssignsLocals}
use Rattle.body_names.proofs.Assigned.{bodies_assign}
use Rattle.claim_walk.specs.Walk.{Walk, Goes, Stops, Walked, Ends, Traps, Setting, Effect, Tried, meets, Passes, is_slice, value_of, walk, known_after, steps_before, after, then_do, ends, data_branch, assign, by_test, tried, choose, repeat, looped, turned, walk_stmt, walk_arm, walk_loop, walk_block, walk_body}
use Rattle.claim_walk.specs.Walk as walks
use Rattle.claim_walk.specs.Laws.{setting_of, WalksKeepOthers}
use Rattle.claim_walk.proofs.Equations.{walk-declare, walk-assign, walk-write, walk-if, walk-loop, walk_arm-is, walk_loop-is}
use Rattle.claim_walk.proofs.Slices.{or_none}
use Rattle.claim_walk.proofs.Agreeing.{set_other}

out_first : (xs ys : List ℕ) (name : ℕ) → is_among (xs ++ ys) name ≡ false → is_among xs name ≡ false
out_first xs ys name out = (or_none (is_among xs name) (is_among ys name) (sym (list_any-append (λ other. name == other) xs ys) ∙ out)).0

out_second : (xs ys : List ℕ) (name : ℕ) → is_among (xs ++ ys) name ≡ false → is_among ys name ≡ false
out_second xs ys name out = (or_none (is_among xs name) (is_among ys name) (sym (list_any-append (λ other. name == other) xs ys) ∙ out)).1

module _ (set : Setting) (name : ℕ) where
  -- the scalar of the name has its value behind a part
  abbrev Keeps : Effect → Type 0
  Keeps walked = (known : List ℤ) → scalar_at (known_after (walked known)) name ≡ scalar_at known name

  before : (steps : List walks.Step) (w : Walked) → known_after (steps_before steps w) ≡ known_after w
  before steps (Ends others known) = refl
  before steps (Traps others known) = refl

  after_keeps : (w : Walk) (next : Effect) (known : List ℤ) → scalar_at (known_after (next known)) name ≡ scalar_at known name → scalar_at (known_after (after w next known)) name ≡ scalar_at known name
  after_keeps (Goes steps) next known e = ap (λ k. scalar_at k name) (before steps (next known)) ∙ e
  after_keeps (Stops steps) next known e = refl

  then_keeps : (w : Walked) (next : Effect) (known : List ℤ) → scalar_at (known_after w) name ≡ scalar_at known name → Keeps next → scalar_at (known_after (then_do w next)) name ≡ scalar_at known name
  then_keeps (Ends steps later) next known e keeps = ap (λ k. scalar_at k name) (before steps (next later)) ∙ keeps later ∙ e
  then_keeps (Traps steps later) next known e keeps = e

  branch_keeps : (w : Walked) (known : List ℤ) → scalar_at (known_after w) name ≡ scalar_at known name → scalar_at (known_after (data_branch w)) name ≡ scalar_at known name
  branch_keeps (Ends steps later) known e = e
  branch_keeps (Traps steps later) known e = e

  given_keeps : (o : Change) (other : ℕ) (r : Result ℤ Cause) (known : List ℤ) → (name == other) ≡ false → scalar_at (known_after (walks.given o other r known)) name ≡ scalar_at known name
  given_keeps o other (Ok new) known apart = set_other known other name new apart
  given_keeps o other (Err cause) known apart = refl

  assign_keeps : (o : Change) (other : ℕ) (e : Expr) → (name == other) ≡ false → Keeps (assign set o other e)
  assign_keeps o other e apart known = by (set.is_data_local other)
    where
      by : (b : Bool) → scalar_at (known_after (if b then Ends (walks.assigning o) known else walks.given o other (and_then (value_of set known e) (assigned (operation_of o) (scalar_at known other))) known)) name ≡ scalar_at known name
      by true = refl
      by false = given_keeps o other (and_then (value_of set known e) (assigned (operation_of o) (scalar_at known other))) known apart

  abbrev StmtKeeps : Stmt → Type 0
  StmtKeeps s = is_among (given true s) name ≡ false → Keeps (walk_stmt set s)

  block_keeps : (stmts : List Stmt) → Each StmtKeeps stmts → is_among (names_given true stmts) name ≡ false → Keeps (walk_block set stmts)
  block_keeps [] each out known = refl
  block_keeps (s ∷ stmts) each out known =
      then_keeps (walk_stmt set s known) (walk_block set stmts) known (each.0 (out_first (given true s) (names_given true stmts) name out) known)
      (block_keeps stmts each.1 (out_second (given true s) (names_given true stmts) name out))

  tried_keeps : (test : Expr) (body others : Effect) → Keeps body → Keeps others → Keeps (tried set test body others)
  tried_keeps test body others keeps keeps_too known = by (is_slice set test)
    where
      by_result : (r : Result ℤ Cause) → scalar_at (known_after (by_test r body others known)) name ≡ scalar_at known name
      by_result (Err cause) = refl
      by_result (Ok v) = by_zero (is_zero v)
        where
          by_zero : (b : Bool) → scalar_at (known_after (if b then others known else body known)) name ≡ scalar_at known name
          by_zero true = keeps_too known
          by_zero false = keeps known

      by : (b : Bool) → scalar_at (known_after (if b then by_test (value_of set known test) body others known else then_do (data_branch (body known)) (λ later. data_branch (others later)))) name ≡ scalar_at known name
      by true = by_result (value_of set known test)
      by false = then_keeps (data_branch (body known)) (λ later. data_branch (others later)) known (branch_keeps (body known) known (keeps known)) (λ later. branch_keeps (others later) later (keeps_too later))

  arms_keep : (arms : List Arm) (other : List Stmt) → Each (λ (a : Arm). Each StmtKeeps a.body) arms → Each StmtKeeps other → is_among (concat (map (given_in_arm true) arms)) name ≡ false → is_among (names_given true other) name ≡ false
      → Keeps (choose set (map (walk_arm set) arms) (walk_block set other))
  arms_keep [] other arms_each other_each out out_too known = block_keeps other other_each out_too known
  arms_keep (a ∷ arms) other arms_each other_each out out_too known =
      let own = out_first (given_in_arm true a) (concat (map (given_in_arm true) arms)) name out in
      let rest = out_second (given_in_arm true a) (concat (map (given_in_arm true) arms)) name out in
      let body : Keeps (walk_block set a.body) = block_keeps a.body arms_each.0 (ap (λ l. is_among l name) (sym (given_in_arm-is true a)) ∙ own) in
      let others : Keeps (choose set (map (walk_arm set) arms) (walk_block set other)) = arms_keep arms other arms_each.1 other_each rest out_too in
      subst (λ (t : Tried). scalar_at (known_after (choose set (t ∷ map (walk_arm set) arms) (walk_block set other) known)) name ≡ scalar_at known name) (sym (walk_arm-is set a))
      (after_keeps (walk set known a.test) (after (meets Passes) (tried set a.test (walk_block set a.body) (choose set (map (walk_arm set) arms) (walk_block set other)))) known
      (after_keeps (meets Passes) (tried set a.test (walk_block set a.body) (choose set (map (walk_arm set) arms) (walk_block set other))) known
      (tried_keeps a.test (walk_block set a.body) (choose set (map (walk_arm set) arms) (walk_block set other)) body others known)))

  turns_keep : (n k : ℕ) (variable_in : ℕ → ℤ) (other : ℕ) (body : Effect) → (name == other) ≡ false → Keeps body → Keeps (repeat n k variable_in other body)
  turns_keep zero k variable_in other body apart keeps known = refl
  turns_keep (suc n) k variable_in other body apart keeps known =
      then_keeps (body (with_scalar known other (variable_in k))) (after (meets Passes) (repeat n (suc k) variable_in other body)) known
      (keeps (with_scalar known other (variable_in k)) ∙ set_other known other name (variable_in k) apart)
      (λ later. after_keeps (meets Passes) (repeat n (suc k) variable_in other body) later (turns_keep n (suc k) variable_in other body apart keeps later))

  looped_keeps : (r : Result ℕ Cause) (variable_in : ℕ → ℤ) (other : ℕ) (body : Effect) → (name == other) ≡ false → Keeps body → Keeps (looped r variable_in other body)
  looped_keeps (Ok n) variable_in other body apart keeps known = after_keeps (meets Passes) (repeat n 0 variable_in other body) known (turns_keep n 0 variable_in other body apart keeps known)
  looped_keeps (Err cause) variable_in other body apart keeps known = refl

  turned_keeps : (step : ℕ) (through : Bool) (other : ℕ) (body : Effect) (low high : Result ℤ Cause) → (name == other) ≡ false → Keeps body → Keeps (turned step through other body low high)
  turned_keeps step through other body (Ok low) (Ok high) apart keeps known = looped_keeps (counted (turns low high step through)) (variable low step) other body apart keeps known
  turned_keeps step through other body (Ok low) (Err cause) apart keeps known = refl
  turned_keeps step through other body (Err cause) (Ok high) apart keeps known = refl
  turned_keeps step through other body (Err cause) (Err too) apart keeps known = refl

  as_is : (s : Stmt) (walked : Effect) → walk_stmt set s ≡ walked → Keeps walked → Keeps (walk_stmt set s)
  as_is s walked e keeps = subst Keeps (sym e) keeps

  -- what isn't the one name that is given
  apart_from : (other : ℕ) (rest names : List ℕ) → names ≡ other ∷ rest → is_among names name ≡ false → (name == other) ≡ false
  apart_from other rest names e out = (or_none (name == other) (is_among rest name) (ap (λ l. is_among l name) (sym e) ∙ out)).0

  stmt_keeps : (s : Stmt) → StmtKeeps s
  stmt_keeps = stmt_induction StmtKeeps
      (λ line other e out. as_is (stmt.Declare line other e) _ (walk-declare set line other e)
      (λ known. after_keeps (walk set known e) (assign set op.Set other e) known (assign_keeps op.Set other e (apart_from other [] (given true (stmt.Declare line other e)) (given-declare true line other e) out) known)))
      (λ line other o e out. as_is (stmt.Assign line other o e) _ (walk-assign set line other o e)
      (λ known. after_keeps (walk set known e) (assign set o other e) known (assign_keeps o other e (apart_from other [] (given true (stmt.Assign line other o e)) (given-assign true line other o e) out) known)))
      (λ line other p o e out. as_is (stmt.Write line other p o e) _ (walk-write set line other p o e)
      (λ known. after_keeps (walk set known p) (after (walk set known e) (after (walks.write set o other known p) ends)) known (after_keeps (walk set known e) (after (walks.write set o other known p) ends) known (after_keeps (walks.write set o other known p) ends known refl))))
      (λ arms other in_arms in_other out.
      let parts : is_among (concat (map (given_in_arm true) arms) ++ names_given true other) name ≡ false = ap (λ l. is_among l name) (sym (given-if true arms other)) ∙ out in
      as_is (stmt.If arms other) _ (walk-if set arms other)
      (arms_keep arms other in_arms in_other (out_first (concat (map (given_in_arm true) arms)) (names_given true other) name parts) (out_second (concat (map (given_in_arm true) arms)) (names_given true other) name parts)))
      (λ l each out.
      let names : given true (stmt.Loop l) ≡ l.name ∷ names_given true l.body = given-loop true l ∙ given_in_loop-is true l in
      let inside : is_among (names_given true l.body) name ≡ false = (or_none (name == l.name) (is_among (names_given true l.body) name) (ap (λ ls. is_among ls name) (sym names) ∙ out)).1 in
      as_is (stmt.Loop l) _ (walk-loop set l ∙ walk_loop-is set l)
      (λ known. after_keeps (walk set known l.low) (after (walk set known l.high) (turned l.step l.through l.name (walk_block set l.body) (value_of set known l.low) (value_of set known l.high))) known
      (after_keeps (walk set known l.high) (turned l.step l.through l.name (walk_block set l.body) (value_of set known l.low) (value_of set known l.high)) known
      (turned_keeps l.step l.through l.name (walk_block set l.body) (value_of set known l.low) (value_of set known l.high) (apart_from l.name (names_given true l.body) (given true (stmt.Loop l)) names out) (block_keeps l.body each inside) known))))

  each_keeps : (stmts : List Stmt) → Each StmtKeeps stmts
  each_keeps [] = tt
  each_keeps (s ∷ stmts) = (stmt_keeps s, each_keeps stmts)

  zeros_keep : (names : List ℕ) (scalars : List ℤ) → is_among names name ≡ false → scalar_at (with_zeros names scalars) name ≡ scalar_at scalars name
  zeros_keep [] scalars out = refl
  zeros_keep (other ∷ names) scalars out =
      let parts = or_none (name == other) (is_among names name) out in
      zeros_keep names (with_scalar scalars other (pos 0)) parts.1 ∙ set_other scalars other name (pos 0) parts.0

  body_keeps : (body : List Stmt) (scalars : List ℤ) → is_among (locals_of body) name ≡ false → is_among (names_given true body) name ≡ false → scalar_at (known_after (walk_body set body scalars)) name ≡ scalar_at scalars name
  body_keeps body scalars out out_too = block_keeps body (each_keeps body) out_too (with_zeros (locals_of body) scalars) ∙ zeros_keep (locals_of body) scalars out

-- a body of a program assigns its locals alone
assigns_at : (bodies : List (List Stmt)) → Each AssignsLocals bodies → (n : ℕ) → AssignsLocals (body_at bodies n)
assigns_at [] each n name out = refl
assigns_at (b ∷ bodies) each zero name out = each.0 name out
assigns_at (b ∷ bodies) each (suc n) name out = assigns_at bodies each.1 n name out

pub walks_keep : WalksKeepOthers
walks_keep program keeps body data_locals scalars words name out =
    body_keeps (setting_of program words data_locals) name (body_at (bodies_of program) body) scalars out
    (assigns_at (bodies_of program) (bodies_assign program keeps.known keeps.variables keeps.scheduled) body name out)
