-- The walk keeps as many scalars as there were.
use Rattle.std.proofs.Common.{◌≡◌, ℕ, zero, suc, ℤ, pos, Bool, true, false, if◌then◌else◌, Result, Ok, Err, List, [], ◌∷◌, map, length, refl, sym, ap, ◌∙◌, subst}
use Rattle.std.proofs.lemmas.List.{length-set}
use Rattle.nest_syntax.specs.declared.operators.Op.{Op as Change}
use Rattle.nest_syntax.specs.declared.operators.Op.TheVariants as op
use Rattle.nest_syntax.specs.declared.operators.Cause.{Cause}
use Rattle.nest_syntax.specs.declared.tree.Expr.{Expr}
use Rattle.nest_syntax.specs.declared.tree.Arm.{Arm}
use Rattle.nest_syntax.specs.declared.tree.Stmt.{Stmt}
use Rattle.nest_syntax.specs.declared.tree.Stmt.TheVariants as stmt
use Rattle.nest_syntax.specs.Among.{Each}
use Rattle.nest_syntax.specs.Words.{is_zero, operation_of, assigned, turns, counted, variable}
use Rattle.nest_syntax.specs.Value.{and_then, scalar_at, with_scalar}
use Rattle.nest_syntax.specs.Locals.{locals_of, with_zeros}
use Rattle.nest_syntax.proofs.Inductions.{stmt_induction}
use Rattle.claim_walk.specs.Walk.{Step, Walk, Goes, Stops, Walked, Ends, Traps, Setting, Effect, Tried, meets, Passes, is_slice, value_of, walk, known_after, steps_before, after, then_do, ends, data_branch, assigning, given, assign, write, by_test, tried, choose, repeat, looped, turned, walk_stmt, walk_arm, walk_block, walk_body}
use Rattle.claim_walk.proofs.Equations.{walk-declare, walk-assign, walk-write, walk-if, walk-loop, walk_arm-is, walk_loop-is}

pub zeros_long : (names : List ℕ) (scalars : List ℤ) → length (with_zeros names scalars) ≡ length scalars
zeros_long [] scalars = refl
zeros_long (name ∷ names) scalars = zeros_long names (with_scalar scalars name (pos 0)) ∙ length-set scalars name (pos 0)

module _ (set : Setting) where
  abbrev Long : Effect → Type 0
  Long walked = (known : List ℤ) → length (known_after (walked known)) ≡ length known

  before : (steps : List Step) (w : Walked) → known_after (steps_before steps w) ≡ known_after w
  before steps (Ends others known) = refl
  before steps (Traps others known) = refl

  after_long : (w : Walk) (next : Effect) (known : List ℤ) → length (known_after (next known)) ≡ length known → length (known_after (after w next known)) ≡ length known
  after_long (Goes steps) next known e = ap length (before steps (next known)) ∙ e
  after_long (Stops steps) next known e = refl

  then_long : (w : Walked) (next : Effect) (known : List ℤ) → length (known_after w) ≡ length known → Long next → length (known_after (then_do w next)) ≡ length known
  then_long (Ends steps later) next known e long = ap length (before steps (next later)) ∙ long later ∙ e
  then_long (Traps steps later) next known e long = e

  branch_long : (w : Walked) (known : List ℤ) → length (known_after w) ≡ length known → length (known_after (data_branch w)) ≡ length known
  branch_long (Ends steps later) known e = e
  branch_long (Traps steps later) known e = e

  given_long : (o : Change) (name : ℕ) (r : Result ℤ Cause) (known : List ℤ) → length (known_after (given o name r known)) ≡ length known
  given_long o name (Ok new) known = length-set known name new
  given_long o name (Err cause) known = refl

  assign_long : (o : Change) (name : ℕ) (e : Expr) → Long (assign set o name e)
  assign_long o name e known = by (set.is_data_local name)
    where
      by : (b : Bool) → length (known_after (if b then Ends (assigning o) known else given o name (and_then (value_of set known e) (assigned (operation_of o) (scalar_at known name))) known)) ≡ length known
      by true = refl
      by false = given_long o name (and_then (value_of set known e) (assigned (operation_of o) (scalar_at known name))) known

  abbrev StmtLong : Stmt → Type 0
  StmtLong s = Long (walk_stmt set s)

  block_long : (stmts : List Stmt) → Each StmtLong stmts → Long (walk_block set stmts)
  block_long [] each known = refl
  block_long (s ∷ stmts) each known = then_long (walk_stmt set s known) (walk_block set stmts) known (each.0 known) (block_long stmts each.1)

  tried_long : (test : Expr) (body others : Effect) → Long body → Long others → Long (tried set test body others)
  tried_long test body others long long_too known = by (is_slice set test)
    where
      by_result : (r : Result ℤ Cause) → length (known_after (by_test r body others known)) ≡ length known
      by_result (Err cause) = refl
      by_result (Ok v) = by_zero (is_zero v)
        where
          by_zero : (b : Bool) → length (known_after (if b then others known else body known)) ≡ length known
          by_zero true = long_too known
          by_zero false = long known

      by : (b : Bool) → length (known_after (if b then by_test (value_of set known test) body others known else then_do (data_branch (body known)) (λ later. data_branch (others later)))) ≡ length known
      by true = by_result (value_of set known test)
      by false = then_long (data_branch (body known)) (λ later. data_branch (others later)) known (branch_long (body known) known (long known)) (λ later. branch_long (others later) later (long_too later))

  arms_long : (arms : List Arm) (other : List Stmt) → Each (λ (a : Arm). Each StmtLong a.body) arms → Each StmtLong other → Long (choose set (map (walk_arm set) arms) (walk_block set other))
  arms_long [] other arms_each other_each known = block_long other other_each known
  arms_long (a ∷ arms) other arms_each other_each known =
      subst (λ (t : Tried). length (known_after (choose set (t ∷ map (walk_arm set) arms) (walk_block set other) known)) ≡ length known) (sym (walk_arm-is set a))
      (after_long (walk set known a.test) (after (meets Passes) (tried set a.test (walk_block set a.body) (choose set (map (walk_arm set) arms) (walk_block set other)))) known
      (after_long (meets Passes) (tried set a.test (walk_block set a.body) (choose set (map (walk_arm set) arms) (walk_block set other))) known
      (tried_long a.test (walk_block set a.body) (choose set (map (walk_arm set) arms) (walk_block set other)) (block_long a.body arms_each.0) (arms_long arms other arms_each.1 other_each) known)))

  turns_long : (n k : ℕ) (variable_in : ℕ → ℤ) (name : ℕ) (body : Effect) → Long body → Long (repeat n k variable_in name body)
  turns_long zero k variable_in name body long known = refl
  turns_long (suc n) k variable_in name body long known =
      then_long (body (with_scalar known name (variable_in k))) (after (meets Passes) (repeat n (suc k) variable_in name body)) known
      (long (with_scalar known name (variable_in k)) ∙ length-set known name (variable_in k))
      (λ later. after_long (meets Passes) (repeat n (suc k) variable_in name body) later (turns_long n (suc k) variable_in name body long later))

  looped_long : (r : Result ℕ Cause) (variable_in : ℕ → ℤ) (name : ℕ) (body : Effect) → Long body → Long (looped r variable_in name body)
  looped_long (Ok n) variable_in name body long known = after_long (meets Passes) (repeat n 0 variable_in name body) known (turns_long n 0 variable_in name body long known)
  looped_long (Err cause) variable_in name body long known = refl

  turned_long : (step : ℕ) (through : Bool) (name : ℕ) (body : Effect) (low high : Result ℤ Cause) → Long body → Long (turned step through name body low high)
  turned_long step through name body (Ok low) (Ok high) long known = looped_long (counted (turns low high step through)) (variable low step) name body long known
  turned_long step through name body (Ok low) (Err cause) long known = refl
  turned_long step through name body (Err cause) (Ok high) long known = refl
  turned_long step through name body (Err cause) (Err too) long known = refl

  as_is : (s : Stmt) (walked : Effect) → walk_stmt set s ≡ walked → Long walked → StmtLong s
  as_is s walked e long = subst Long (sym e) long

  stmt_long : (s : Stmt) → StmtLong s
  stmt_long = stmt_induction StmtLong
      (λ line name e. as_is (stmt.Declare line name e) _ (walk-declare set line name e) (λ known. after_long (walk set known e) (assign set op.Set name e) known (assign_long op.Set name e known)))
      (λ line name o e. as_is (stmt.Assign line name o e) _ (walk-assign set line name o e) (λ known. after_long (walk set known e) (assign set o name e) known (assign_long o name e known)))
      (λ line name p o e. as_is (stmt.Write line name p o e) _ (walk-write set line name p o e)
      (λ known. after_long (walk set known p) (after (walk set known e) (after (write set o name known p) ends)) known (after_long (walk set known e) (after (write set o name known p) ends) known (after_long (write set o name known p) ends known refl))))
      (λ arms other in_arms in_other. as_is (stmt.If arms other) _ (walk-if set arms other) (arms_long arms other in_arms in_other))
      (λ l each. as_is (stmt.Loop l) _ (walk-loop set l ∙ walk_loop-is set l)
      (λ known. after_long (walk set known l.low) (after (walk set known l.high) (turned l.step l.through l.name (walk_block set l.body) (value_of set known l.low) (value_of set known l.high))) known
      (after_long (walk set known l.high) (turned l.step l.through l.name (walk_block set l.body) (value_of set known l.low) (value_of set known l.high)) known
      (turned_long l.step l.through l.name (walk_block set l.body) (value_of set known l.low) (value_of set known l.high) (block_long l.body each) known))))

  each_long : (stmts : List Stmt) → Each StmtLong stmts
  each_long [] = tt
  each_long (s ∷ stmts) = (stmt_long s, each_long stmts)

  pub body_long : (body : List Stmt) (scalars : List ℤ) → length (known_after (walk_body set body scalars)) ≡ length scalars
  body_long body scalars = block_long body (each_long body) (with_zeros (locals_of body) scalars) ∙ zeros_long (locals_of body) scalars
