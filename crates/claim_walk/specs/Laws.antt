-- What the claims and the cost of an iteration say of its turn.
use Rattle.std.specs.Prelude.{◌≡◌, ℕ, suc, ◌≤◌, ℤ, false, Option, Some, List, length, slice_get}
use Rattle.std.specs.Option.{option_and_then}
use Rattle.nest_syntax.specs.declared.tree.Loop.{Loop}
use Rattle.nest_syntax.specs.declared.tree.Stmt.{Stmt}
use Rattle.nest_syntax.specs.declared.tree.Program.{Program}
use Rattle.nest_syntax.specs.Named.{IsWellNamed}
use Rattle.nest_syntax.specs.Arrays.{Array, arrays_of, sizes_of, word_number}
use Rattle.nest_syntax.specs.Among.{is_among}
use Rattle.nest_syntax.specs.Value.{scalar_at}
use Rattle.nest_syntax.specs.Locals.{locals_of}
use Rattle.nest_syntax.specs.Shape.{Body, invoked_by}
use Rattle.nest_syntax.specs.Turn.{Turn, Finished, Trapped, Load, Store, Op, Go}
use Rattle.nest_syntax.specs.Course.{bodies_of}
use Rattle.nest_syntax.specs.Outcome.{body_at, turn_in}
use Rattle.data_local.specs.DataLocals.{AreDataLocals}
use Rattle.nest_check.specs.Kept.{KeepsRules}
use Rattle.nest_check.specs.Tables.{scalar_of}
use Rattle.settle_law.specs.Cuts.{CanBeRead, HoldsFixed}
use Rattle.settle_law.specs.Reading.{WithinTurn, fixed_in}
use Rattle.claim_walk.specs.Walk.{Setting, Step, walk_body, steps_of, known_after, claims_met}
use Rattle.claim_walk.specs.Rounds.{data_locals_of}

-- On any path that the turn can take with these `const` words it has at most n operations and stops before its end.
abbrev pub TakesAtMost : List ℕ → (ℕ → Option ℤ) → Turn → ℕ → Type 0
TakesAtMost sizes fixed Finished n = Unit {0}
TakesAtMost sizes fixed (Trapped cause line) n = Unit {0}
TakesAtMost sizes fixed (Load array place go) n = (m : ℕ) × (suc m ≤ n) × ((value : ℤ) → CanBeRead (fixed (word_number sizes array place)) value → TakesAtMost sizes fixed (go value) m)
TakesAtMost sizes fixed (Store array place value rest) n = (m : ℕ) × (suc m ≤ n) × TakesAtMost sizes fixed rest m
TakesAtMost sizes fixed (Op rest) n = (m : ℕ) × (suc m ≤ n) × TakesAtMost sizes fixed rest m
TakesAtMost sizes fixed (Go rest) n = (m : ℕ) × (suc m ≤ n) × TakesAtMost sizes fixed rest m

-- the setting of a body of a program, whose data locals are those of a list
abbrev pub setting_of : Program → List ℤ → List ℕ → Setting
setting_of program words data_locals = record { arrays = arrays_of program.decls; words = words; is_data_local = is_among data_locals }

-- what the walk of an iteration meets
abbrev pub steps_in : Program → List ℤ → List ℕ → ℕ → List ℤ → List Step
steps_in program words data_locals body scalars = steps_of (walk_body (setting_of program words data_locals) (body_at (bodies_of program) body) scalars)

-- Of an iteration of a program that keeps the rules, with any scalars and any opening words: its claims hold the turn, and
-- the turn has no more operations and stops before its end than the walk meets.
abbrev pub ClaimsHoldTurns : Type 0
ClaimsHoldTurns = (program : Program) → IsWellNamed program → KeepsRules program → (body : ℕ) (data_locals : List ℕ) → AreDataLocals (arrays_of program.decls) (body_at (bodies_of program) body) data_locals → (scalars words : List ℤ)
    → WithinTurn (sizes_of (arrays_of program.decls)) (fixed_in (arrays_of program.decls) words) (claims_met (sizes_of (arrays_of program.decls)) (steps_in program words data_locals body scalars)) (turn_in (arrays_of program.decls) (bodies_of program) body scalars)

abbrev pub StepsBoundTurns : Type 0
StepsBoundTurns = (program : Program) → IsWellNamed program → KeepsRules program → (body : ℕ) (data_locals : List ℕ) → AreDataLocals (arrays_of program.decls) (body_at (bodies_of program) body) data_locals → (scalars words : List ℤ)
    → TakesAtMost (sizes_of (arrays_of program.decls)) (fixed_in (arrays_of program.decls) words) (turn_in (arrays_of program.decls) (bodies_of program) body scalars) (length (steps_in program words data_locals body scalars))

-- Of an iteration of such a program: the walk changes no scalar but those of the body's locals.
abbrev pub WalksKeepOthers : Type 0
WalksKeepOthers = (program : Program) → KeepsRules program → (body : ℕ) (data_locals : List ℕ) (scalars words : List ℤ) (name : ℕ) → is_among (locals_of (body_at (bodies_of program) body)) name ≡ false
    → scalar_at (known_after (walk_body (setting_of program words data_locals) (body_at (bodies_of program) body) scalars)) name ≡ scalar_at scalars name

-- And it leaves as many.
abbrev pub WalksKeepNumber : Type 0
WalksKeepNumber = (set : Setting) (body : List Stmt) (scalars : List ℤ) → length (known_after (walk_body set body scalars)) ≡ length scalars

-- Which list has the data locals doesn't matter.
abbrev pub StepsAreOfLocals : Type 0
StepsAreOfLocals = (program : Program) (body : ℕ) (some others : List ℕ) → AreDataLocals (arrays_of program.decls) (body_at (bodies_of program) body) some → AreDataLocals (arrays_of program.decls) (body_at (bodies_of program) body) others
    → (scalars words : List ℤ) → steps_in program words some body scalars ≡ steps_in program words others body scalars

-- Two lists of scalars agree on what a body may name where it begins: the scalars of the scheduler, and the variable of
-- the loop that invokes it.
pub record AgreeAt (program : Program) (body : ℕ) (some others : List ℤ) : Type 0 where
  pub as_many : length some ≡ length others
  pub scheduled : (name number : ℕ) → scalar_of program name ≡ Some number → scalar_at some name ≡ scalar_at others name
  pub variable : (l : Loop) → option_and_then (λ (b : Body). b.header) (slice_get (invoked_by program) body) ≡ Some l → scalar_at some l.name ≡ scalar_at others l.name

-- Of an iteration of a program that keeps the rules: what its walk meets depends only on those scalars and on the
-- `const` words.
abbrev pub StepsAreOfScope : Type 0
StepsAreOfScope = (program : Program) → IsWellNamed program → KeepsRules program → (body : ℕ) (data_locals : List ℕ) → AreDataLocals (arrays_of program.decls) (body_at (bodies_of program) body) data_locals
    → (opening words : List ℤ) → HoldsFixed (fixed_in (arrays_of program.decls) opening) words → (some others : List ℤ) → AgreeAt program body some others
    → steps_in program words data_locals body some ≡ steps_in program opening data_locals body others

-- The names that the rounds find are the data locals.
abbrev pub RoundsFindDataLocals : Type 0
RoundsFindDataLocals = (arrays : List Array) (body : List Stmt) → AreDataLocals arrays body (data_locals_of arrays body)
