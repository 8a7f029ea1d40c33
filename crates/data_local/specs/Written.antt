-- The names of the written arrays as a list.
use Rattle.std.specs.Prelude.{◌≡◌, ℕ, List}
use Rattle.nest_syntax.specs.Arrays.{Array}
use Rattle.nest_syntax.specs.Value.{is_written}
use Rattle.nest_syntax.specs.Among.{is_among}

-- that a name is among them exactly where the array of that name is written
abbrev pub TellsWritten : List Array → List ℕ → Type 0
TellsWritten arrays names = (name : ℕ) → is_among names name ≡ is_written arrays name
