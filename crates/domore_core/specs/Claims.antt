-- The claims of an iteration, under a name that no search opens.
use Rattle.std.specs.Prelude.{ℕ, ℤ, List}
use Rattle.nest_syntax.specs.declared.tree.Program.{Program}
use Rattle.addr_slice.specs.Claims.{Claimed}
use Rattle.addr_slice.specs.Slice as slice

unfoldable pub claims_of : Program → List ℤ → ℕ × List ℤ → Claimed
claims_of program opening i = slice.claims_of program opening i
