-- What an iteration does to the words of written arrays, and nothing else: a tree of reads and writes, with the number
-- of the word at each. Behind a read stands one subtree for each value that may be read.
use Rattle.std.specs.Prelude.{ℕ, ℤ, List}
use Rattle.nest_syntax.specs.declared.names.Line.{Line}
use Rattle.nest_syntax.specs.declared.operators.Cause.{Cause}
use Rattle.nest_syntax.specs.Arrays.{word_at, with_word}
use Rattle.nest_syntax.specs.Reads.{Ended, Completed, Stopped}

pub data Tree : Type 0 where
  Finished : Tree  -- the iteration is over
  Trapped : Cause → Line → Tree  -- it ends in a trap
  Load : ℕ → (ℤ → Tree) → Tree  -- a word is read
  Store : ℕ → ℤ → Tree → Tree  -- a word is written

-- the iteration alone on the words, as textual order carries it out
abbrev pub turn : Tree → List ℤ → Ended
turn Finished words = Completed words
turn (Trapped cause line) words = Stopped cause line words
turn (Load w go) words = turn (go (word_at words w)) words
turn (Store w value rest) words = turn rest (with_word words w value)
