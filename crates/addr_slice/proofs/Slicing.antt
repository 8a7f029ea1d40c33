-- What is put into a set of claims in the walk of an iteration is what the iteration claims, and holds its turn.
use Rattle.std.proofs.Common.{◌≡◌, ℕ, zero, suc, ◌+◌, ◌-◌, ◌^◌, ℤ, Bool, true, false, min, Some, Result, List, [], ◌∷◌, length, slice_index_or, sum, refl, sym, ap, ◌∙◌, subst, arith}
use Rattle.nest_syntax.specs.declared.tree.Stmt.{Stmt}
use Rattle.nest_syntax.specs.declared.tree.Program.{Program}
use Rattle.nest_syntax.specs.Named.{IsWellNamed}
use Rattle.nest_syntax.specs.Among.{is_among}
use Rattle.nest_syntax.specs.Arrays.{Array, arrays_of, sizes_of, word_at}
use Rattle.nest_syntax.specs.Value.{scalar_at}
use Rattle.nest_syntax.specs.Locals.{locals_of, with_zeros}
use Rattle.nest_syntax.specs.Course.{bodies_of}
use Rattle.nest_syntax.specs.Outcome.{body_at, turn_in}
use Rattle.data_local.specs.DataLocals.{AreDataLocals}
use Rattle.nest_check.specs.Kept.{KeepsRules}
use Rattle.nest_check.proofs.Inside.{turns_stay_inside}
use Rattle.settle_law.specs.Cuts.{HoldsFixed}
use Rattle.settle_law.specs.Reading.{WithinTurn, told, is_fixed_word, fixed_in}
use Rattle.nest_partition.specs.Split.{Parts, IsSplitOf}
use Rattle.claim_walk.specs.Walk.{Setting, Step, cost_met, walk_block, walk_body}
use Rattle.claim_walk.specs.Laws.{steps_in, AgreeAt}
use Rattle.claim_walk.specs.Rounds.{data_locals_of}
use Rattle.claim_walk.proofs.Whole.{claims_hold, steps_of_locals}
use Rattle.claim_walk.proofs.Rounds.{are_data_locals}
use Rattle.claim_walk.proofs.Scope.{steps_of_scope}
use Rattle.claim_walk.proofs.Others.{walks_keep}
use Rattle.claim_walk.proofs.Lengths.{body_long}
use Rattle.addr_slice.specs.declared.slices.Trapped.{Trapped}
use Rattle.addr_slice.specs.Claims.{Claimed, no_claims, by_word}
use Rattle.addr_slice.specs.Slice.{claims_of_steps, steps_met, claims_of, cost_of, ClaimsHold, ClaimsAreOfScope}
use Rattle.addr_slice.specs.Met.{with_cost, Does}
use Rattle.addr_slice.proofs.Claiming.{steps_are_claims, cost_of_steps}
use Rattle.addr_slice.proofs.Flags.{held_by_flags}

-- the laws
pub claims_hold_turns : ClaimsHold
claims_hold_turns program named keeps opening body scalars =
    let arrays = arrays_of program.decls in
    let stmts = body_at (bodies_of program) body in
    held_by_flags arrays (fixed_in arrays opening) (steps_met program opening (body, scalars)) (turn_in arrays (bodies_of program) body scalars) (turns_stay_inside program named keeps body scalars)
    (claims_hold program named keeps body (data_locals_of arrays stmts) (are_data_locals arrays stmts) scalars opening)

same_steps : (program : Program) → IsWellNamed program → KeepsRules program → (opening words : List ℤ) → HoldsFixed (fixed_in (arrays_of program.decls) opening) words → (body : ℕ) (some others : List ℤ) → AgreeAt program body some others
    → steps_met program words (body, some) ≡ steps_met program opening (body, others)
same_steps program named keeps opening words holds body some others agree =
    let stmts = body_at (bodies_of program) body in
    steps_of_scope program named keeps body (data_locals_of (arrays_of program.decls) stmts) (are_data_locals (arrays_of program.decls) stmts) opening words holds some others agree

pub claims_are_of_scope : ClaimsAreOfScope
claims_are_of_scope program named keeps opening words holds body some others agree =
    let same = same_steps program named keeps opening words holds body some others agree in
    (ap (claims_of_steps (sizes_of (arrays_of program.decls))) same, ap (λ steps. min (cost_met steps) (2 ^ 64 - 1)) same)

-- the words and the scalars themselves
holds_itself : (arrays : List Array) (words : List ℤ) → HoldsFixed (fixed_in arrays words) words
holds_itself arrays words w value = by (is_fixed_word arrays w)
  where
    by : (b : Bool) → told b (word_at words w) ≡ Some value → word_at words w ≡ value
    by true is = cc
    by false is = cc

agrees_itself : (program : Program) (body : ℕ) (scalars : List ℤ) → AgreeAt program body scalars scalars
agrees_itself program body scalars = record { as_many = refl; scheduled = λ name number is. refl; variable = λ l is. refl }

body_same : (bodies : List (List Stmt)) (n : ℕ) → slice_index_or bodies n [] ≡ body_at bodies n
body_same [] n = refl
body_same (body ∷ bodies) zero = refl
body_same (body ∷ bodies) (suc n) = body_same bodies n

-- The walk of a body, with the data locals of a split.
module _ (program : Program) (named : IsWellNamed program) (keeps : KeepsRules program) (parts : Parts) (split : IsSplitOf program parts) (body : ℕ) (words : List ℤ) where
  abbrev arrays : List Array
  arrays = arrays_of program.decls

  abbrev stmts : List Stmt
  stmts = body_at (bodies_of program) body

  abbrev locals : List ℕ
  locals = slice_index_or parts.locals body []

  by_split : (scalars : List ℤ) → steps_in program words locals body scalars ≡ steps_met program words (body, scalars)
  by_split scalars = steps_of_locals program body locals (data_locals_of arrays stmts) (subst (λ b. AreDataLocals arrays b locals) (body_same (bodies_of program) body) (split.locals.each body)) (are_data_locals arrays stmts) scalars words

  module _ (scalars known : List ℤ) (result : Result (Unit {0}) Trapped) (n : ℕ) (room : n ≡ sum (sizes_of arrays)) (new : Claimed) (cost : ℕ) (set : Setting) (block : List Stmt) (begun : List ℤ)
      (is_set : set ≡ record { arrays = arrays; words = words; is_data_local = is_among locals }) (is_block : block ≡ stmts) (is_begun : begun ≡ with_zeros (locals_of block) scalars) (does : Does (sizes_of arrays) (walk_block set block begun) result known (no_claims n) 2 new cost) where
    walked : Does (sizes_of arrays) (walk_body (record { arrays = arrays; words = words; is_data_local = is_among locals }) stmts scalars) result known (no_claims n) 2 new cost
    walked = subst (λ b. Does (sizes_of arrays) (walk_block (record { arrays = arrays; words = words; is_data_local = is_among locals }) b (with_zeros (locals_of b) scalars)) result known (no_claims n) 2 new cost) is_block
        (subst (λ s. Does (sizes_of arrays) (walk_block (record { arrays = arrays; words = words; is_data_local = is_among locals }) block s) result known (no_claims n) 2 new cost) is_begun
        (subst (λ w. Does (sizes_of arrays) (walk_block w block begun) result known (no_claims n) 2 new cost) is_set does))

    abbrev Same : List ℤ → List ℤ → Type 0
    Same opening others = HoldsFixed (fixed_in arrays opening) words → AgreeAt program body scalars others → steps_in program words locals body scalars ≡ steps_met program opening (body, others)

    steps_as : (opening others : List ℤ) → Same opening others
    steps_as opening others holds agree = by_split scalars ∙ same_steps program named keeps opening words holds body scalars others agree

    pub claims_as : (opening others : List ℤ) → HoldsFixed (fixed_in arrays opening) words → AgreeAt program body scalars others → new ≡ claims_of program opening (body, others)
    claims_as opening others holds agree = walked.meets.claims ∙ steps_are_claims (sizes_of arrays) n (steps_in program words locals body scalars) room ∙ ap (claims_of_steps (sizes_of arrays)) (steps_as opening others holds agree)

    cost_as_met : (steps : List Step) → with_cost 2 steps ≡ min (cost_met steps) (2 ^ 64 - 1)
    cost_as_met steps = cost_of_steps 2 steps (omega arith) ∙ ap (λ k. min k (2 ^ 64 - 1)) (let flipped : 2 + length steps ≡ length steps + 2 = omega arith in flipped)

    pub cost_as : (opening others : List ℤ) → HoldsFixed (fixed_in arrays opening) words → AgreeAt program body scalars others → cost ≡ cost_of program opening (body, others)
    cost_as opening others holds agree = walked.meets.cost ∙ cost_as_met (steps_in program words locals body scalars) ∙ ap (λ steps. min (cost_met steps) (2 ^ 64 - 1)) (steps_as opening others holds agree)

    pub holds_as : WithinTurn (sizes_of arrays) (fixed_in arrays words) (by_word new) (turn_in arrays (bodies_of program) body scalars)
    holds_as = subst (λ c. WithinTurn (sizes_of arrays) (fixed_in arrays words) (by_word c) (turn_in arrays (bodies_of program) body scalars)) (sym (claims_as words scalars (holds_itself arrays words) (agrees_itself program body scalars))) (claims_hold_turns program named keeps words body scalars)

    pub others_as : (name : ℕ) → is_among (locals_of stmts) name ≡ false → scalar_at known name ≡ scalar_at scalars name
    others_as name out = ap (λ k. scalar_at k name) walked.knows ∙ walks_keep program keeps body locals scalars words name out

    pub number_as : length known ≡ length scalars
    number_as = ap length walked.knows ∙ body_long (record { arrays = arrays; words = words; is_data_local = is_among locals }) stmts scalars
