-- The claims of an iteration: the words that it may read and those that it may write, found by a walk over its body. The
-- walk knows the scalars that the iteration begins with and the `const` words, and so the values of slice expressions,
-- those that name no written array and no data local. Of data locals and written arrays it knows nothing.
use Rattle.std.specs.Prelude.{ℕ, zero, suc, ◌+◌, ℤ, pos, Bool, true, false, not, ◌&&◌, ◌||◌, ◌==◌, if◌then◌else◌, nat_le, nat_lt, Result, Ok, Err, List, [], ◌∷◌, ◌++◌, map, length, slice_index_or}
use Rattle.std.specs.Option.{option_map_or}
use Rattle.std.specs.List.{list_any}
use Rattle.nest_syntax.specs.declared.operators.Bin.{Bin}
use Rattle.nest_syntax.specs.declared.operators.Bin.TheVariants as bin
use Rattle.nest_syntax.specs.declared.operators.Cause.{Cause}
use Rattle.nest_syntax.specs.declared.operators.Op.{Op}
use Rattle.nest_syntax.specs.declared.operators.Op.TheVariants as op
use Rattle.nest_syntax.specs.declared.tree.Expr.{Expr}
use Rattle.nest_syntax.specs.declared.tree.Expr.TheOpen.{Expr-F}
use Rattle.nest_syntax.specs.declared.tree.Expr.TheFolds.{para-Expr}
use Rattle.nest_syntax.specs.declared.tree.Arm.{Arm}
use Rattle.nest_syntax.specs.declared.tree.Loop.{Loop}
use Rattle.nest_syntax.specs.declared.tree.Stmt.{Stmt}
use Rattle.nest_syntax.specs.declared.tree.Stmt.TheOpen.{Stmt-F, Arm-F, Loop-F}
use Rattle.nest_syntax.specs.declared.tree.Stmt.TheFolds.{fold-Stmt, fold-Arm, fold-Loop}
use Rattle.nest_syntax.specs.Words.{is_zero, apply, operation_of, assigned, turns, counted, variable}
use Rattle.nest_syntax.specs.Arrays.{Array, array_of, located, word_number}
use Rattle.nest_syntax.specs.Value.{value, and_then, scalar_at, with_scalar, is_written, names_written}
use Rattle.nest_syntax.specs.Locals.{locals_of, with_zeros}
use Rattle.data_local.specs.Names.{scalars_in}
use Rattle.settle_law.specs.Claims.{Claims}

-- what a walk meets: each step is one operation or one stop of the iteration
pub data Step : Type 0 where
  Passes : Step  -- an operation, a pause, or a read of a `const` word
  Touches : ℕ → ℕ → Bool → Step  -- a word of a written array, by array and place, is written (`true`) or read
  Sweeps : ℕ → Bool → Step  -- the same of some word of this array

-- the walk of an expression: what it meets, and whether it ends early, where the iteration traps
pub data Walk : Type 0 where
  Goes : List Step → Walk
  Stops : List Step → Walk

-- the walk of a statement: the same, with the scalars that are known where it ends
pub data Walked : Type 0 where
  Ends : List Step → List ℤ → Walked
  Traps : List Step → List ℤ → Walked

abbrev pub nothing : Walk
nothing = Goes []

abbrev pub meets : Step → Walk
meets step = Goes (step ∷ [])

abbrev pub trap : Walk
trap = Stops []

abbrev pub met : Walk → List Step
met (Goes steps) = steps
met (Stops steps) = steps

-- steps before a walk
abbrev pub behind_steps : List Step → Walk → Walk
behind_steps steps (Goes more) = Goes (steps ++ more)
behind_steps steps (Stops more) = Stops (steps ++ more)

-- one walk behind another: behind one that trapped there is none
abbrev pub behind : Walk → Walk → Walk
behind (Goes steps) next = behind_steps steps next
behind (Stops steps) next = Stops steps

-- A data branch: the walk doesn't know whether the iteration takes it, and where it traps in there it goes on behind it.
abbrev pub branch : Walk → Walk
branch walk = Goes (met walk)

-- what is fixed in a walk: the arrays, the opening words, of which the `const` ones are read, and which names are data
-- locals of the body
pub record Setting : Type 0 where
  pub arrays : List Array
  pub words : List ℤ
  pub is_data_local : ℕ → Bool

-- Whether an expression is a slice expression: it names no written array and no data local. And the value that it then
-- has.
abbrev pub is_slice : Setting → Expr → Bool
is_slice set e = not (names_written set.arrays e || list_any set.is_data_local (scalars_in e))

abbrev pub value_of : Setting → List ℤ → Expr → Result ℤ Cause
value_of set known e = value set.arrays known set.words e

-- one operation, or its trap
abbrev pub operation : Result ℤ Cause → Walk
operation (Ok result) = meets Passes
operation (Err cause) = trap

-- a test of a known value: what is walked where it isn't 0, and where it is
abbrev pub by_value : Result ℤ Cause → Walk → Walk → Walk
by_value (Ok test) nonzero on_zero = if is_zero test then on_zero else nonzero
by_value (Err cause) nonzero on_zero = trap

-- behind a test: a slice expression decides; behind any other both parts are walked as data branches
abbrev pub decided : Setting → List ℤ → Expr → Walk → Walk → Walk
decided set known test nonzero on_zero = if is_slice set test then by_value (value_of set known test) nonzero on_zero else behind (branch nonzero) (branch on_zero)

-- the step at a word, which is claimed where its array isn't `const`
abbrev pub touch : Bool → Bool → ℕ → ℕ → Step
touch is_claimed write array place = if is_claimed then Touches array place write else Passes

abbrev pub sweep : Bool → Bool → ℕ → Step
sweep is_claimed write array = if is_claimed then Sweeps array write else Passes

-- a word at a known subscript, which traps outside the array, and at an unknown one
abbrev pub at_place : Setting → Bool → Bool → ℕ → Result ℤ Cause → Walk
at_place set is_claimed write name (Ok at) = option_map_or (λ (p : ℕ × ℕ). meets (touch is_claimed write p.0 p.1)) (located set.arrays name at) trap
at_place set is_claimed write name (Err cause) = trap

abbrev pub anywhere : Setting → Bool → Bool → ℕ → Walk
anywhere set is_claimed write name = option_map_or (λ (n : ℕ). meets (sweep is_claimed write n)) (array_of set.arrays name) trap

abbrev pub access : Setting → Bool → Bool → ℕ → List ℤ → Expr → Walk
access set is_claimed write name known place = if is_slice set place then at_place set is_claimed write name (value_of set known place) else anywhere set is_claimed write name

-- A binary operation behind its left part. Only of two slice expressions is the result known, and with it a trap.
abbrev pub operated : Setting → List ℤ → Bin → Expr → Expr × Walk → Walk
operated set known bin.Both left right = behind (meets Passes) (decided set known left (behind right.1 (meets Passes)) nothing)
operated set known bin.Either left right = behind (meets Passes) (decided set known left nothing (behind right.1 (meets Passes)))
operated set known op left right = behind right.1 (operation (if is_slice set left && is_slice set right.0 then and_then (value_of set known left) (λ a. and_then (value_of set known right.0) (apply op a)) else Ok (pos 0)))

-- One layer of an expression, whose parts are walked from left to right: each stands beside its walk.
abbrev pub walk_node : Setting → List ℤ → Expr-F (Expr × Walk) → Walk
walk_node set known (Expr-F.Number n) = nothing
walk_node set known (Expr-F.Scalar name) = nothing
walk_node set known (Expr-F.Word name place) = behind place.1 (access set (is_written set.arrays name) false name known place.0)
walk_node set known (Expr-F.Unary op part) = behind part.1 (meets Passes)
walk_node set known (Expr-F.Binary op left right) = behind left.1 (operated set known op left.0 right)
walk_node set known (Expr-F.Choice test first second) = behind test.1 (behind (meets Passes) (decided set known test.0 first.1 second.1))

abbrev pub walk : Setting → List ℤ → Expr → Walk
walk set known = para-Expr Walk (walk_node set known)

-- What a statement gives, by the scalars that are known before it.
abbrev pub Effect : Type 0
Effect = List ℤ → Walked

abbrev pub steps_before : List Step → Walked → Walked
steps_before steps (Ends more known) = Ends (steps ++ more) known
steps_before steps (Traps more known) = Traps (steps ++ more) known

-- what follows an expression, and what follows a statement
abbrev pub after : Walk → Effect → Effect
after (Goes steps) next known = steps_before steps (next known)
after (Stops steps) next known = Traps steps known

abbrev pub then_do : Walked → Effect → Walked
then_do (Ends steps known) next = steps_before steps (next known)
then_do (Traps steps known) next = Traps steps known

abbrev pub ends : Effect
ends known = Ends [] known

-- a data branch of statements
abbrev pub data_branch : Walked → Walked
data_branch (Ends steps known) = Ends steps known
data_branch (Traps steps known) = Ends steps known

abbrev pub sequence : List Effect → Effect
sequence [] known = Ends [] known
sequence (first ∷ others) known = then_do (first known) (sequence others)

-- the operations of an assignment: that of an `op=`, and the assignment
abbrev pub assigning : Op → List Step
assigning op.Set = Passes ∷ []
assigning change = Passes ∷ Passes ∷ []

-- a slice local gets its new value; giving it may trap
abbrev pub given : Op → ℕ → Result ℤ Cause → Effect
given change name (Ok new) known = Ends (assigning change) (with_scalar known name new)
given change name (Err cause) known = Traps [] known

-- `=` and `op=` of a scalar, behind the walk of the value: of a data local nothing is known
abbrev pub assign : Setting → Op → ℕ → Expr → Effect
assign set change name e known = if set.is_data_local name then Ends (assigning change) known
    else given change name (and_then (value_of set known e) (assigned (operation_of change) (scalar_at known name))) known

-- the write of a word: behind `op=` the word is read first
abbrev pub write : Setting → Op → ℕ → List ℤ → Expr → Walk
write set op.Set name known place = access set true true name known place
write set change name known place = behind (access set true false name known place) (behind (meets Passes) (access set true true name known place))

-- The arms of an `if`: a slice expression as a test decides. At the first other one its block is a data branch, and all
-- that follows in the `if` is a second one.
abbrev pub Tried : Type 0
Tried = Expr × (List ℤ → Walk) × Effect

abbrev pub by_test : Result ℤ Cause → Effect → Effect → Effect
by_test (Ok test) nonzero on_zero known = if is_zero test then on_zero known else nonzero known
by_test (Err cause) nonzero on_zero known = Traps [] known

abbrev pub tried : Setting → Expr → Effect → Effect → Effect
tried set test body others known = if is_slice set test then by_test (value_of set known test) body others known
    else then_do (data_branch (body known)) (λ later. data_branch (others later))

abbrev pub choose : Setting → List Tried → Effect → Effect
choose set [] other known = other known
choose set (arm ∷ arms) other known = after (arm.1 known) (after (meets Passes) (tried set arm.0 arm.2 (choose set arms other))) known

-- n turns of a loop from turn k on, each followed by a pause
abbrev pub repeat : ℕ → ℕ → (ℕ → ℤ) → ℕ → Effect → Effect
repeat zero k variable_in name body known = Ends [] known
repeat (suc n) k variable_in name body known = then_do (body (with_scalar known name (variable_in k))) (after (meets Passes) (repeat n (suc k) variable_in name body))

abbrev pub looped : Result ℕ Cause → (ℕ → ℤ) → ℕ → Effect → Effect
looped (Ok n) variable_in name body known = after (meets Passes) (repeat n 0 variable_in name body) known
looped (Err cause) variable_in name body known = Traps [] known

-- a loop behind the walks of its bounds, which are slice expressions
abbrev pub turned : ℕ → Bool → ℕ → Effect → Result ℤ Cause → Result ℤ Cause → Effect
turned step through name body (Ok low) (Ok high) known = looped (counted (turns low high step through)) (variable low step) name body known
turned step through name body low high known = Traps [] known

-- one layer of a statement, an arm and a loop
abbrev pub stmt_node : Setting → Stmt-F Effect Tried Effect → Effect
stmt_node set (Stmt-F.Declare line name e) known = after (walk set known e) (assign set op.Set name e) known
stmt_node set (Stmt-F.Assign line name change e) known = after (walk set known e) (assign set change name e) known
stmt_node set (Stmt-F.Write line name place change e) known = after (walk set known place) (after (walk set known e) (after (write set change name known place) ends)) known
stmt_node set (Stmt-F.If arms other) known = choose set arms (sequence other) known
stmt_node set (Stmt-F.Loop inner) known = inner known

abbrev pub arm_node : Setting → Arm-F Effect Tried Effect → Tried
arm_node set arm = (arm.test, λ known. walk set known arm.test, sequence arm.body)

abbrev pub loop_node : Setting → Loop-F Effect Tried Effect → Effect
loop_node set l known = after (walk set known l.low) (after (walk set known l.high) (turned l.step l.through l.name (sequence l.body) (value_of set known l.low) (value_of set known l.high))) known

abbrev pub walk_stmt : Setting → Stmt → Effect
walk_stmt set = fold-Stmt Effect Tried Effect (stmt_node set) (arm_node set) (loop_node set)

abbrev pub walk_arm : Setting → Arm → Tried
walk_arm set = fold-Arm Effect Tried Effect (stmt_node set) (arm_node set) (loop_node set)

abbrev pub walk_loop : Setting → Loop → Effect
walk_loop set = fold-Loop Effect Tried Effect (stmt_node set) (arm_node set) (loop_node set)

-- the walk of a block
abbrev pub walk_block : Setting → List Stmt → Effect
walk_block set stmts = sequence (map (walk_stmt set) stmts)

-- The walk of an iteration of a body, from the scalars that it begins with, the invocation's variable among them. Its
-- locals begin with 0.
abbrev pub walk_body : Setting → List Stmt → List ℤ → Walked
walk_body set body scalars = walk_block set body (with_zeros (locals_of body) scalars)

abbrev pub steps_of : Walked → List Step
steps_of (Ends steps known) = steps
steps_of (Traps steps known) = steps

abbrev pub known_after : Walked → List ℤ
known_after (Ends steps known) = known
known_after (Traps steps known) = known

-- whether two kinds of access are the same
abbrev pub same_kind : Bool → Bool → Bool
same_kind true other = other
same_kind false other = not other

-- whether a step claims a word, by its number over all arrays, for writing or for reading
abbrev pub claims_word : List ℕ → Step → Bool → ℕ → Bool
claims_word sizes Passes write w = false
claims_word sizes (Touches array place kind) write w = same_kind kind write && w == word_number sizes array place
claims_word sizes (Sweeps array kind) write w = same_kind kind write && (nat_le (word_number sizes array 0) w && nat_lt w (word_number sizes array (slice_index_or sizes array 0)))

abbrev pub is_claimed : List ℕ → List Step → Bool → ℕ → Bool
is_claimed sizes steps write w = list_any (λ step. claims_word sizes step write w) steps

-- The claims of an iteration are those of all that its walk meets.
abbrev pub claims_met : List ℕ → List Step → Claims
claims_met sizes steps = record { read = is_claimed sizes steps false; written = is_claimed sizes steps true }

-- The cost of an iteration: the operations and stops that its walk meets, with both sides of each data branch, the end of
-- the iteration, and one.
abbrev pub cost_met : List Step → ℕ
cost_met steps = length steps + 2
