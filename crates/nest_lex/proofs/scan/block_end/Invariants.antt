use Rattle.std.proofs.Common.{◌≤◌, ◌+◌, ℕ, ◌<◌}
use Rattle.nest_lex.specs.Pieces.{ClosesBlock}
use Rattle.nest_lex.proofs.scan.block_end.Given as goal

abbrev pub invariant-loop-at : goal.invariant-loop-at
invariant-loop-at l = (k : ℕ) → l.from ≤ k → k + 1 < l.at → ClosesBlock l.bytes k → ⊥
