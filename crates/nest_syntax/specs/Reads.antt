-- Three readings of a turn: carried out on the words, carried out on a list of the words that it reads, and the
-- accesses that it makes on the words.
use Rattle.std.specs.Prelude.{◌≡◌, ℕ, ℤ, if◌then◌else◌, Result, Ok, Err, List, [], ◌∷◌}
use Rattle.nest_syntax.specs.declared.names.Line.{Line}
use Rattle.nest_syntax.specs.declared.operators.Cause.{Cause}
use Rattle.nest_syntax.specs.declared.tree.Expr.{Expr}
use Rattle.nest_syntax.specs.Arrays.{Array, sizes_of, is_fixed, word_number, word_at, with_word}
use Rattle.nest_syntax.specs.Value.{value}
use Rattle.nest_syntax.specs.Turn.{Turn, Finished, Trapped, Load, Store, Op, Go, reckoning}

-- how a turn on the words ends: with new words, or with a trap and the words at that moment
pub data Ended : Type 0 where
  Completed : List ℤ → Ended
  Stopped : Cause → Line → List ℤ → Ended

-- the turn in textual order: each Load is answered from the words, each Store is carried out
abbrev pub on_words : List ℕ → Turn → List ℤ → Ended
on_words sizes Finished words = Completed words
on_words sizes (Trapped cause line) words = Stopped cause line words
on_words sizes (Load array place go) words = on_words sizes (go (word_at words (word_number sizes array place))) words
on_words sizes (Store array place value rest) words = on_words sizes rest (with_word words (word_number sizes array place) value)
on_words sizes (Op rest) words = on_words sizes rest words
on_words sizes (Go rest) words = on_words sizes rest words

-- a turn on the words that goes on with a result, or stops at its trap
abbrev pub answered : List ℕ → Line → Result ℤ Cause → (ℤ → Turn) → List ℤ → Ended
answered sizes line (Ok result) go words = on_words sizes (go result) words
answered sizes line (Err cause) go words = Stopped cause line words

-- What an expression does in a turn, carried out on words, is its value: the turn goes on with it, or stops at its trap.
abbrev pub ReckoningsAreValues : Type 0
ReckoningsAreValues = (arrays : List Array) (scalars words : List ℤ) (expr : Expr) (line : Line) (go : ℤ → Turn) → on_words (sizes_of arrays) (reckoning arrays expr line scalars go) words ≡ answered (sizes_of arrays) line (value arrays scalars words expr) go words

-- an access to a word of a written array: its number, and the value read or written
pub data Access : Type 0 where
  Read : ℕ → ℤ → Access
  Write : ℕ → ℤ → Access

-- how a turn on reads ends; More where it reads another word than the list has
pub data Stop : Type 0 where
  Finishes : Stop
  Traps : Cause → Line → Stop
  More : Stop

-- the accesses of a turn on reads, and how it ends
pub record Reading : Type 0 where
  pub accesses : List Access
  pub stop : Stop

abbrev pub with_access : Access → Reading → Reading
with_access access reading = record { accesses = access ∷ reading.accesses; stop = reading.stop }

-- The turn on a list of reads: words of written arrays have the values of the list in order, words of `const` arrays
-- those of the words given.
abbrev pub on_reads : List Array → List ℤ → Turn → List ℤ → Reading
on_reads arrays words Finished reads = record { accesses = []; stop = Finishes }
on_reads arrays words (Trapped cause line) reads = record { accesses = []; stop = Traps cause line }
on_reads arrays words (Load array place go) [] = if is_fixed arrays array then on_reads arrays words (go (word_at words (word_number (sizes_of arrays) array place))) [] else record { accesses = []; stop = More }
on_reads arrays words (Load array place go) (value ∷ reads) = if is_fixed arrays array then on_reads arrays words (go (word_at words (word_number (sizes_of arrays) array place))) (value ∷ reads) else with_access (Read (word_number (sizes_of arrays) array place) value) (on_reads arrays words (go value) reads)
on_reads arrays words (Store array place value rest) reads = with_access (Write (word_number (sizes_of arrays) array place) value) (on_reads arrays words rest reads)
on_reads arrays words (Op rest) reads = on_reads arrays words rest reads
on_reads arrays words (Go rest) reads = on_reads arrays words rest reads

-- the accesses to written arrays that the turn makes on the words
abbrev pub accesses_on : List Array → Turn → List ℤ → List Access
accesses_on arrays Finished words = []
accesses_on arrays (Trapped cause line) words = []
accesses_on arrays (Load array place go) words = if is_fixed arrays array then accesses_on arrays (go (word_at words (word_number (sizes_of arrays) array place))) words else Read (word_number (sizes_of arrays) array place) (word_at words (word_number (sizes_of arrays) array place)) ∷ accesses_on arrays (go (word_at words (word_number (sizes_of arrays) array place))) words
accesses_on arrays (Store array place value rest) words = Write (word_number (sizes_of arrays) array place) value ∷ accesses_on arrays rest (with_word words (word_number (sizes_of arrays) array place) value)
accesses_on arrays (Op rest) words = accesses_on arrays rest words
accesses_on arrays (Go rest) words = accesses_on arrays rest words
