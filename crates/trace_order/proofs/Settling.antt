-- Lemmas on lists of accesses that are carried out one after the other.
use Rattle.std.proofs.Common.{◌≡◌, ℕ, ℤ, Bool, true, false, List, refl, sym}
use Rattle.std.proofs.lemmas.Bool.{false≢true}
use Rattle.nest_syntax.specs.Arrays.{with_word}
use Rattle.settle_law.specs.Traces.{apply}
use Rattle.trace_order.specs.Swaps.{made}

pub writes : (words : List ℤ) (write : Bool) (task word : ℕ) (value : ℤ) → write ≡ true → apply words (made write task word value) ≡ with_word words word value
writes words true task word value e = refl
writes words false task word value e = absurd (false≢true e)

pub reads : (words : List ℤ) (write : Bool) (task word : ℕ) (value : ℤ) → write ≡ false → apply words (made write task word value) ≡ words
reads words false task word value e = refl
reads words true task word value e = absurd (false≢true (sym e))
