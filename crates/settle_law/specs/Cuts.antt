-- How a turn is cut into the stops at which a worker hands over: a read, a write, a pause, its end. Reads of `const`
-- words are stops too; they and the pauses are gone in the plain tree.
use Rattle.std.specs.Prelude.{◌≡◌, ℕ, suc, ℤ, Bool, true, false, if◌then◌else◌, ◌==◌, Option, Some, None, List}
use Rattle.std.specs.Option.{option_map_or}
use Rattle.nest_syntax.specs.declared.names.Line.{Line}
use Rattle.nest_syntax.specs.declared.operators.Cause.{Cause}
use Rattle.nest_syntax.specs.Arrays.{word_number, word_at}
use Rattle.nest_syntax.specs.Turn.{Turn}
use Rattle.nest_syntax.specs.Turn as turn
use Rattle.settle_law.specs.Trees.{Tree}
use Rattle.settle_law.specs.Trees as tree

pub data Cut : Type 0 where
  Finished : Cut
  Trapped : Cause → Line → Cut
  Reads : ℕ → (ℤ → Cut) → Cut  -- a word is read, of a `const` array or not
  Writes : ℕ → ℤ → Cut → Cut  -- a word is written
  Pauses : Cut → Cut  -- the worker may be interrupted

-- a pause before what follows, where one is due
abbrev pub pausing : Bool → Cut → Cut
pausing true rest = Pauses rest
pausing false rest = rest

-- whether one operation behind n others is the 32nd since the last stop
abbrev pub is_full : ℕ → Bool
is_full n = n == 31

-- the operations since the last stop, behind one more
abbrev pub one_more : ℕ → ℕ
one_more n = if is_full n then 0 else suc n

-- The cut turn, n pure operations behind the last stop. Behind the 32nd comes a pause, before any other stop, also
-- where a stop stands there anyway; the count starts again from 0 at every stop.
abbrev pub cut : List ℕ → ℕ → Turn → Cut
cut sizes n turn.Finished = Finished
cut sizes n (turn.Trapped cause line) = Trapped cause line
cut sizes n (turn.Load array place go) = Reads (word_number sizes array place) (λ value. cut sizes 0 (go value))
cut sizes n (turn.Store array place value rest) = Writes (word_number sizes array place) value (cut sizes 0 rest)
cut sizes n (turn.Op rest) = pausing (is_full n) (cut sizes (one_more n) rest)
cut sizes n (turn.Go rest) = Pauses (cut sizes 0 rest)

-- The plain tree: `fixed` tells the values of the `const` words, whose reads go, and all pauses go.
abbrev pub plain : (ℕ → Option ℤ) → Cut → Tree
plain fixed Finished = tree.Finished
plain fixed (Trapped cause line) = tree.Trapped cause line
plain fixed (Reads w go) = option_map_or (λ value. plain fixed (go value)) (fixed w) (tree.Load w (λ value. plain fixed (go value)))
plain fixed (Writes w value rest) = tree.Store w value (plain fixed rest)
plain fixed (Pauses rest) = plain fixed rest

-- the plain tree of a turn
abbrev pub plain_turn : List ℕ → (ℕ → Option ℤ) → Turn → Tree
plain_turn sizes fixed t = plain fixed (cut sizes 0 t)

-- the values that a read of a word may have: the one that is told, or any
abbrev pub CanBeRead : Option ℤ → ℤ → Type 0
CanBeRead None value = Unit {0}
CanBeRead (Some told) value = told ≡ value

-- the words have the values that are told
abbrev pub HoldsFixed : (ℕ → Option ℤ) → List ℤ → Type 0
HoldsFixed fixed words = (w : ℕ) (told : ℤ) → fixed w ≡ Some told → word_at words w ≡ told
