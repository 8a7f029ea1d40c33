use Rattle.std.proofs.Common.{◌≡◌, ℕ, take}
use Rattle.nest_syntax.specs.Among.{is_among}
use Rattle.data_local.proofs.reach.found_at_first.Given as goal

abbrev pub invariant-loop-start : goal.invariant-loop-start
invariant-loop-start l = (node : ℕ) → is_among l.found.keys node ≡ is_among (take l.start-index l.starts) node
