use Rattle.std.proofs.Common.{◌≡◌, ◌+◌, ◌≤◌, length}
use Rattle.nest_data.specs.Lines.{words_in}
use Rattle.nest_data.specs.Data.{values_of}
use Rattle.nest_data.proofs.Writing.{finish}
use Rattle.nest_data.proofs.progress.read_values.Given as goal

-- what the words that are left lead to is what all of them lead to
abbrev pub invariant-values : goal.invariant-values
invariant-values l = record {
  same : finish l.size l.words l.array l.place (values_of (words_in l.rest)) ≡ finish l.size l.fn.words l.array 0 (values_of (words_in l.bytes));
  sizes : l.words.sizes ≡ l.fn.words.sizes;
  few : l.place + length l.rest ≤ length l.bytes;
}

abbrev pub decreases-values : goal.decreases-values
decreases-values l = length l.rest
