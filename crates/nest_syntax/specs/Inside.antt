-- Turns that stay inside the arrays of a program.
use Rattle.std.specs.Prelude.{◌≡◌, ◌<◌, ℤ, false, List, slice_index_or}
use Rattle.nest_syntax.specs.Arrays.{Array, sizes_of, is_fixed}
use Rattle.nest_syntax.specs.Turn.{Turn, Finished, Trapped, Load, Store, Op, Go}

-- Each access of the turn, on any path that it can take, is inside its array, and no `const` array is written.
abbrev pub StaysInside : List Array → Turn → Type 0
StaysInside arrays Finished = Unit {0}
StaysInside arrays (Trapped cause line) = Unit {0}
StaysInside arrays (Load array place go) = (place < slice_index_or (sizes_of arrays) array 0) × ((value : ℤ) → StaysInside arrays (go value))
StaysInside arrays (Store array place value rest) = (place < slice_index_or (sizes_of arrays) array 0) × (is_fixed arrays array ≡ false) × StaysInside arrays rest
StaysInside arrays (Op rest) = StaysInside arrays rest
StaysInside arrays (Go rest) = StaysInside arrays rest
