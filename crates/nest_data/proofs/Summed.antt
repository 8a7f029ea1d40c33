-- Sums of words, in parts.
use Rattle.std.proofs.Common.{◌≡◌, ℤ, ◌+ℤ◌, List, ◌++◌}
use Rattle.std.proofs.lemmas.List.Sums.{fold-append}
use Rattle.nest_syntax.specs.Words.{wrap}
use Rattle.nest_data.specs.Sum.{added}

pub more_added : (total : ℤ) (front rest : List ℤ) → added total (front ++ rest) ≡ added (added total front) rest
more_added total front rest = fold-append (λ (sum word : ℤ). wrap (sum +ℤ word)) total front rest
