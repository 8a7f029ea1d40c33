-- What the steps of a walk make of a set of claims and of a count of steps, and how the code that walks answers.
use Rattle.std.specs.Prelude.{◌≡◌, ℕ, ◌+◌, ◌-◌, ◌^◌, ◌≤◌, ℤ, pos, Bool, true, ◌&&◌, Option, Some, None, Result, Ok, Err, if◌then◌else◌, List, [], ◌∷◌, slice_index_or, sum, min}
use Rattle.nest_syntax.specs.declared.operators.Bin.{Bin}
use Rattle.nest_syntax.specs.declared.operators.Cause.{Cause}
use Rattle.nest_syntax.specs.declared.tree.Expr.{Expr}
use Rattle.nest_syntax.specs.declared.tree.Program.{Program}
use Rattle.nest_syntax.specs.Words.{is_zero, apply}
use Rattle.nest_syntax.specs.Arrays.{arrays_of, sizes_of, word_number}
use Rattle.nest_syntax.specs.Value.{and_then}
use Rattle.word_store.specs.Memory.{Memory, HasLayout, most_words}
use Rattle.nest_partition.specs.Split.{Parts, IsSplitOf}
use Rattle.claim_walk.specs.Walk.{Step, Passes, Touches, Sweeps, Walk, Goes, Stops, Walked, Ends, Traps, Setting, Effect, nothing, trap, branch, is_slice, value_of, met, steps_of, known_after}
use Rattle.claim_walk.specs.Laws.{setting_of}
use Rattle.addr_slice.specs.declared.slices.Trapped.{Trapped}
use Rattle.addr_slice.specs.declared.slices.Told.{Told}
use Rattle.addr_slice.specs.declared.slices.Told.TheVariants as told
use Rattle.addr_slice.specs.Claims.{Claimed, words_of, with_claim, with_stretch}

abbrev pub with_step : List ℕ → Claimed → Step → Claimed
with_step sizes claims Passes = claims
with_step sizes claims (Touches array place write) = with_claim claims (word_number sizes array place) write
with_step sizes claims (Sweeps array write) = with_stretch claims (word_number sizes array 0) (slice_index_or sizes array 0) write

-- the same claims and those of all steps
abbrev pub with_steps : List ℕ → Claimed → List Step → Claimed
with_steps sizes claims [] = claims
with_steps sizes claims (step ∷ steps) = with_steps sizes (with_step sizes claims step) steps

-- one more, but no more than 2^64 - 1
abbrev pub one_more : ℕ → ℕ
one_more cost = min (cost + 1) (2 ^ 64 - 1)

-- a cost with that of all steps
abbrev pub with_cost : ℕ → List Step → ℕ
with_cost cost [] = cost
with_cost cost (step ∷ steps) = with_cost (one_more cost) steps

-- what is fixed in the walk of a body
abbrev pub setting : Program → Memory → Parts → ℕ → Setting
setting program memory parts body = setting_of program memory.words (slice_index_or parts.locals body [])

-- what a walk needs of what it looks at
pub record IsReady (program : Program) (memory : Memory) (parts : Parts) : Type 0 where
  pub split : IsSplitOf program parts
  pub layout : HasLayout memory program.decls
  pub few : sum (sizes_of (arrays_of program.decls)) ≤ most_words

-- there is room for the words of a program
abbrev pub HasRoom : Claimed → Program → Type 0
HasRoom claims program = words_of claims ≡ sum (sizes_of (arrays_of program.decls))

-- these steps were met
pub record Meets (sizes : List ℕ) (steps : List Step) (old : Claimed) (n : ℕ) (new : Claimed) (m : ℕ) : Type 0 where
  pub claims : new ≡ with_steps sizes old steps
  pub cost : m ≡ with_cost n steps
  pub room : words_of new ≡ words_of old

abbrev pub answer_of : Walk → Result (Unit {0}) Trapped
answer_of (Goes steps) = Ok tt
answer_of (Stops steps) = Err (record {})

-- an expression was walked
pub record Walks (sizes : List ℕ) (w : Walk) (result : Result (Unit {0}) Trapped) (old : Claimed) (n : ℕ) (new : Claimed) (m : ℕ) : Type 0 where
  pub answer : result ≡ answer_of w
  pub meets : Meets sizes (met w) old n new m

abbrev pub answer_walked : Walked → Result (Unit {0}) Trapped
answer_walked (Ends steps known) = Ok tt
answer_walked (Traps steps known) = Err (record {})

-- a statement was walked, and this is known then
pub record Does (sizes : List ℕ) (w : Walked) (result : Result (Unit {0}) Trapped) (known : List ℤ) (old : Claimed) (n : ℕ) (new : Claimed) (m : ℕ) : Type 0 where
  pub answer : result ≡ answer_walked w
  pub knows : known ≡ known_after w
  pub meets : Meets sizes (steps_of w) old n new m

-- what a walk answers, where it may stand in a data branch
abbrev pub in_branch : Bool → Result (Unit {0}) Trapped → Result (Unit {0}) Trapped
in_branch is_data result = if is_data then Ok tt else result

-- what is known of a test before it is made
abbrev pub told_by : Result ℤ Cause → Told
told_by (Ok test) = if is_zero test then told.Fails else told.Holds
told_by (Err cause) = told.Traps

abbrev pub told_of : Setting → List ℤ → Expr → Told
told_of set known test = if is_slice set test then told_by (value_of set known test) else told.Unknown

-- what is walked of a part that counts where a test holds, by what is known of the test
abbrev pub if_holds : Told → Walk → Walk
if_holds told.Holds w = w
if_holds told.Fails w = nothing
if_holds told.Traps w = trap
if_holds told.Unknown w = branch w

-- what is known of the opposite of a test
abbrev pub flipped : Told → Told
flipped told.Holds = told.Fails
flipped told.Fails = told.Holds
flipped told.Traps = told.Traps
flipped told.Unknown = told.Unknown

-- what is known of an operation
abbrev pub operation_on : Setting → List ℤ → Bin → Expr → Expr → Result ℤ Cause
operation_on set known op left right = if is_slice set left && is_slice set right then and_then (value_of set known left) (λ a. and_then (value_of set known right) (apply op a)) else Ok (pos 0)

-- an arm of an `if` was passed, of whose test this is known
abbrev pub Branches : List ℕ → Told → Walked → Bool → Bool → List ℤ → List ℤ → Claimed → ℕ → Claimed → ℕ → Type 0
Branches sizes told.Unknown w is_data is_data' known known' old n new m = (result : Result (Unit {0}) Trapped) × Does sizes w result known' old n new m × (is_data' ≡ true)
Branches sizes other w is_data is_data' known known' old n new m = (is_data' ≡ is_data) × (known' ≡ known) × (new ≡ old) × (m ≡ n)

-- The arms of an `if` were tried before its last block: a test decided and its block ended so, or that block is left, and
-- whatever it does then, the whole does.
abbrev pub Tries : List ℕ → Walked → Effect → Option (Result (Unit {0}) Trapped) → Bool → List ℤ → Claimed → ℕ → Claimed → ℕ → Type 0
Tries sizes whole other (Some ended) is_data known old n new m = Does sizes whole (in_branch is_data ended) known old n new m
Tries sizes whole other None is_data known old n new m = (words_of new ≡ words_of old)
    × ((ended : Result (Unit {0}) Trapped) (known' : List ℤ) (new' : Claimed) (m' : ℕ) → Does sizes (other known) ended known' new m new' m' → Does sizes whole (in_branch is_data ended) known' old n new' m')
