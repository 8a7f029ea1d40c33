-- The words of a data part, array by array.
use Rattle.std.specs.Prelude.{◌≡◌, ℕ, ◌<◌, ℤ, pos, false, ◌==◌, if◌then◌else◌, Option, None, List, [], ◌∷◌, length, replicate, slice_index_or}
use Rattle.std.specs.Option.{option_map_or, unwrap_or}
use Rattle.nest_syntax.specs.Arrays.{Array, sizes_of, array_names}
use Rattle.word_store.specs.Memory.{Memory, array_words}
use Rattle.nest_data.specs.Lines.{words_of}
use Rattle.nest_data.specs.Data.{array_named, values_of}

-- the values of a line with these words, where its first word names the array with this number
abbrev pub values_for : List (List ℕ) → List ℕ → ℕ → List (List ℕ) → Option (List ℤ)
values_for names arrays n [] = None
values_for names arrays n (name ∷ words) = if option_map_or (λ (k : ℕ). k == n) (array_named names arrays name) false then values_of words else None

-- the values of the first line that names the array, or others where no line does
abbrev pub values_in : List (List ℕ) → List ℕ → ℕ → List ℤ → List (List ℕ) → List ℤ
values_in names arrays n others [] = others
values_in names arrays n others (line ∷ lines) = unwrap_or (values_for names arrays n (words_of line)) (values_in names arrays n others lines)

-- Each array has the values of its line, and zeros where it has none.
abbrev pub AreOfLines : List (List ℕ) → List Array → List (List ℕ) → Memory → Type 0
AreOfLines names arrays lines memory = (n : ℕ) → n < length arrays → array_words memory n ≡ values_in names (array_names arrays) n (replicate (slice_index_or (sizes_of arrays) n 0) (pos 0)) lines
