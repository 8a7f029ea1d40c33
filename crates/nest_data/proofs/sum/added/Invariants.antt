use Rattle.std.proofs.Common.{◌≡◌, drop}
use Rattle.nest_data.specs.Sum.{added}
use Rattle.nest_data.proofs.sum.added.Given as goal

-- the sum with the words that are left is the sum of all
abbrev pub invariant-loop-value : goal.invariant-loop-value
invariant-loop-value l = added l.sum (drop l.value-index l.values) ≡ added l.fn.total l.fn.values
