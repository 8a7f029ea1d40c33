-- Which data lines are faulty, line by line.
use Rattle.std.specs.Prelude.{◌≡◌, ℕ, ◌+◌, ◌<◌, Bool, false, ◌==◌, not, if◌then◌else◌, is_some, Option, Some, None, Result, Ok, Err, List, [], ◌∷◌, length, take, slice_index_or}
use Rattle.std.specs.List.{list_all, list_any}
use Rattle.std.specs.Str.{bytes_eq}
use Rattle.nest_syntax.specs.Arrays.{Array, sizes_of, array_names}
use Rattle.word_store.specs.Memory.{Memory}
use Rattle.nest_data.specs.Lines.{words_of}
use Rattle.nest_data.specs.Values.{value_of}
use Rattle.nest_data.specs.Data.{array_named}
use Rattle.nest_data.specs.declared.refused.DataKind.{DataKind}
use Rattle.nest_data.specs.declared.refused.DataKind.TheVariants as kind

-- whether the first of these words is this name
abbrev pub begins_with : List ℕ → List (List ℕ) → Bool
begins_with name [] = false
begins_with name (word ∷ words) = bytes_eq word name

-- whether one of these lines has this name
abbrev pub has_line : List (List ℕ) → List ℕ → Bool
has_line lines name = list_any (λ (line : List ℕ). begins_with name (words_of line)) lines

-- The first fault of a line that has this name and these words behind it, where the lines before it are these, and the
-- name is that of the array with this number, if it is an array's.
abbrev pub fault_of : List Array → List (List ℕ) → List ℕ → List (List ℕ) → Option ℕ → Option DataKind
fault_of arrays before name words None = Some kind.Name
fault_of arrays before name words (Some n) =
    if has_line before name then Some kind.Repeated else
    if not (list_all (λ (word : List ℕ). is_some (value_of word)) words) then Some kind.Number else
    if not (length words == slice_index_or (sizes_of arrays) n 0) then Some kind.Count else None

-- The first fault of a line with these words. A line without words has none.
abbrev pub fault_in : List (List ℕ) → List Array → List (List ℕ) → List (List ℕ) → Option DataKind
fault_in names arrays before [] = None
fault_in names arrays before (name ∷ words) = fault_of arrays before name words (array_named names (array_names arrays) name)

-- the first fault of the line with this number among these lines, counted from 0
abbrev pub fault_at : List (List ℕ) → List Array → List (List ℕ) → ℕ → Option DataKind
fault_at names arrays lines k = fault_in names arrays (take k lines) (words_of (slice_index_or lines k []))

-- The line with this number is faulty, this is its first fault, and no line before it is faulty.
pub record IsFirstFault (names : List (List ℕ)) (arrays : List Array) (lines : List (List ℕ)) (fault : DataKind) (k : ℕ) : Type 0 where
  pub faulty : fault_at names arrays lines k ≡ Some fault
  pub sound : (i : ℕ) → i < k → fault_at names arrays lines i ≡ None

-- What is said of lines of which the first has the number `first`: the words of the arrays, and then no line is faulty;
-- or the first faulty line with its first fault.
abbrev pub Judges : List (List ℕ) → List Array → ℕ → List (List ℕ) → Result Memory (DataKind × ℕ) → Type 0
Judges names arrays first lines (Ok memory) = (i : ℕ) → fault_at names arrays lines i ≡ None
Judges names arrays first lines (Err said) = (k : ℕ) × (said.1 ≡ first + k) × IsFirstFault names arrays lines said.0 k
