-- The claims and the cost that the walk finds are such as a setup needs.
use Rattle.std.specs.Prelude.{◌+◌, ℤ, List, length}
use Rattle.nest_syntax.specs.declared.tree.Program.{Program}
use Rattle.nest_syntax.specs.Named.{IsWellNamed}
use Rattle.nest_check.specs.Kept.{KeepsRules}
use Rattle.addr_slice.specs.Slice.{steps_met, claims_of}
use Rattle.nest_setup.specs.Setups.{HoldTurns, BoundTurns}

-- The walk's claims hold each turn, and no turn has more operations and stops, with its end, than the walk meets.
abbrev pub WalksFit : Type 0
WalksFit = (program : Program) (opening : List ℤ) → IsWellNamed program → KeepsRules program
    → HoldTurns program opening (claims_of program opening) × BoundTurns program opening (λ i. length (steps_met program opening i) + 1)
