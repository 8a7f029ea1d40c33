-- The words of a program's arrays, as a caller sees them.
use Rattle.std.specs.Prelude.{◌≡◌, ℕ, ◌≤◌, ℤ, pos, FitsSigned, Option, List, length, sum, take, drop, replicate, slice_index_or}
use Rattle.std.specs.Int.{w64}
use Rattle.std.specs.Option.{option_map, option_map_or}
use Rattle.nest_syntax.specs.declared.tree.Decl.{Decl}
use Rattle.nest_syntax.specs.Arrays.{arrays_of, sizes_of, place_of, word_number, word_at, with_word}

-- how many words each array has, and the words of all arrays, one array after another in order of declaration
pub record Memory : Type 0 where
  pub sizes : List ℕ
  pub words : List ℤ

-- the layout of a memory is that of declarations: it has the arrays that they declare, each with as many words
abbrev pub HasLayout : Memory → List Decl → Type 0
HasLayout memory decls = memory.sizes ≡ sizes_of (arrays_of decls)

-- the most words that all arrays may have together
abbrev pub most_words : ℕ
most_words = 1048576

-- what holds of every memory: as many words as the sizes add up to, no more than there may be, and each a word
pub record IsSound (memory : Memory) : Type 0 where
  pub as_many : length memory.words ≡ sum memory.sizes
  pub few : sum memory.sizes ≤ most_words
  pub each : (n : ℕ) → FitsSigned w64 (word_at memory.words n)

-- arrays of these sizes, with 0 in each word
abbrev pub zeros : List ℕ → Memory
zeros sizes = record { sizes = sizes; words = replicate (sum sizes) (pos 0) }

-- the number of the word at a subscript of an array, none where the subscript is outside
abbrev pub number_at : List ℕ → ℕ → ℤ → Option ℕ
number_at sizes array at = option_map (word_number sizes array) (place_of sizes array at)

-- the word at a subscript of an array, none where the subscript is outside
abbrev pub loaded : Memory → ℕ → ℤ → Option ℤ
loaded memory array at = option_map (word_at memory.words) (number_at memory.sizes array at)

-- the memory after a write at a subscript of an array, the same where the subscript is outside
abbrev pub stored : Memory → ℕ → ℤ → ℤ → Memory
stored memory array at value = option_map_or (λ n. record memory { words = with_word memory.words n value }) (number_at memory.sizes array at) memory

-- the words of one array
abbrev pub array_words : Memory → ℕ → List ℤ
array_words memory array = take (slice_index_or memory.sizes array 0) (drop (sum (take array memory.sizes)) memory.words)
