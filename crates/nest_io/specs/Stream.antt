-- What moves through a source and a sink, and when a source has answered its end. `Consumes`, `IsAtEnd` and `Appends`
-- are std's words on bytes that are told or not.
use Rattle.std.specs.Prelude.{◌≡◌, ◌==◌, ℕ, ◌<◌, Bool, false, List, ◌++◌, length, Option, Result, Ok, Err}
use Rattle.std.specs.Io.KnownBytes.{Consumes, Appends}

-- whether a read answered the end: it gave no bytes
abbrev pub answers_end : {E : Type 0} → Result ℕ E → Bool
answers_end (Ok count) = count == 0
answers_end (Err fault) = false

-- some of the bytes at the front, and not all of them
abbrev pub IsProperPrefix : List ℕ → List ℕ → Type 0
IsProperPrefix part bytes = (rest : List ℕ) × (0 < length rest) × (bytes ≡ part ++ rest)

-- the bytes that a source told lost some at their front
abbrev pub LosesPrefix : Option (List ℕ) → Option (List ℕ) → Type 0
LosesPrefix old new = (part : List ℕ) × Consumes old new part

-- what a sink told grew by a part of the bytes, and not by all of them
abbrev pub AppendsPart : Option (List ℕ) → Option (List ℕ) → List ℕ → Type 0
AppendsPart old new bytes = (part : List ℕ) × IsProperPrefix part bytes × Appends old new part
