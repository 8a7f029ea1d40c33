use Rattle.std.proofs.Common.{◌≡◌}
use Rattle.nest_lex.specs.Spots.{spot_of}
use Rattle.nest_lex.proofs.spot.spot_after.Given as goal

abbrev pub invariant-loop-at : goal.invariant-loop-at
invariant-loop-at l = spot_of l.bytes l.at ≡ record { line = l.line; column = l.column }
