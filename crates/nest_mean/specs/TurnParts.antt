-- No caller of `run_plain` needs this. How the parts of a body run, one inside the other: each is said before anything
-- that may follow it.
use Rattle.std.specs.Prelude.{◌≡◌, ℕ, ℤ, Bool, true, false, Result, Ok, Err, List}
use Rattle.nest_syntax.specs.declared.names.Line.{Line}
use Rattle.nest_syntax.specs.declared.operators.Cause.{Cause}
use Rattle.nest_syntax.specs.Arrays.{Array, sizes_of}
use Rattle.nest_syntax.specs.Turn.{Turn, Effect, Arm_effect, choose}
use Rattle.nest_syntax.specs.Reads.{Ended, Stopped, on_words}
use Rattle.word_store.specs.Memory.{Memory}
use Rattle.nest_mean.specs.declared.bodies.TurnTrap.{TurnTrap}
use Rattle.nest_mean.specs.NamesChanged.{KeepsOthers}

-- the turn goes on with a value, or stops at its trap
abbrev pub went_on_with : {A : Type 0} → List ℕ → Result A TurnTrap → (A → Turn) → List ℤ → Ended
went_on_with sizes (Ok value) go words = on_words sizes (go value) words
went_on_with sizes (Err trap) go words = Stopped trap.cause trap.line words

-- a value, or its trap with the line of its statement
abbrev pub at_line : Line → Result ℤ Cause → Result ℤ TurnTrap
at_line line (Ok value) = Ok value
at_line line (Err cause) = Err (record { cause = cause; line = line })

-- a write, or the cause for which it isn't made
abbrev pub wrote : List ℕ → Line → Result (Unit {0}) Cause → Turn → List ℤ → Ended
wrote sizes line (Ok done) rest words = on_words sizes rest words
wrote sizes line (Err cause) rest words = Stopped cause line words

-- An effect was carried out: whatever follows goes on from the new scalars and the new words. Only scalars of these
-- names have changed.
pub record Runs (arrays : List Array) (does : Effect) (names : List ℕ) (result : Result (Unit {0}) TurnTrap) (scalars : List ℤ) (memory : Memory) (scalars' : List ℤ) (memory' : Memory) : Type 0 where
  pub same : (go : List ℤ → Turn) → on_words (sizes_of arrays) (does scalars go) memory.words ≡ went_on_with (sizes_of arrays) result (λ done. go scalars') memory'.words
  pub sizes : memory'.sizes ≡ memory.sizes
  pub kept : KeepsOthers names scalars scalars'

-- what follows the arms of an `if`: what comes behind it where an arm was taken, and else its last block
abbrev pub arm_taken : Effect → List ℤ → (List ℤ → Turn) → Bool → Turn
arm_taken other scalars go true = go scalars
arm_taken other scalars go false = other scalars go

-- arms were gone through, and the block of the first whose test isn't 0 was carried out
pub record RunsArms (arrays : List Array) (arms : List Arm_effect) (names : List ℕ) (taken : Result Bool TurnTrap) (scalars : List ℤ) (memory : Memory) (scalars' : List ℤ) (memory' : Memory) : Type 0 where
  pub same : (other : Effect) (go : List ℤ → Turn) → on_words (sizes_of arrays) (choose arms other scalars go) memory.words ≡ went_on_with (sizes_of arrays) taken (arm_taken other scalars' go) memory'.words
  pub sizes : memory'.sizes ≡ memory.sizes
  pub kept : KeepsOthers names scalars scalars'
