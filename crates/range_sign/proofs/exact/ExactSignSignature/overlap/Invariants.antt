use Rattle.std.proofs.Common.{◌≡◌, None, get_or}
use Rattle.range_sign.specs.Overlap.{any_below, first_below, conflict_at}
use Rattle.range_sign.specs.Exact.{holds}
use Rattle.range_sign.proofs.exact.ExactSignSignature.overlap.Given as goal

abbrev pub invariant-loop-array : goal.invariant-loop-array
invariant-loop-array l = first_below (λ array. any_below (conflict_at (holds l.self) (holds l.other) array) (get_or l.self.sizes array 0)) l.array ≡ None
