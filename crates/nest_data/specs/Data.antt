-- What data lines say of the words of a program's arrays.
use Rattle.std.specs.Prelude.{◌≡◌, ℕ, ◌+◌, ℤ, Bool, true, false, ◌==◌, if◌then◌else◌, Option, Some, None, Result, Ok, Err, List, [], ◌∷◌, ◌++◌, length, take, drop, sum, replicate, slice_index_or, slice_set}
use Rattle.std.specs.List.{position}
use Rattle.std.specs.Option.{option_map, option_and_then, ok_or}
use Rattle.std.specs.Result.{result_map_both}
use Rattle.std.specs.Str.{bytes_eq}
use Rattle.nest_syntax.specs.Arrays.{Array, sizes_of, array_names}
use Rattle.word_store.specs.Memory.{Memory, zeros}
use Rattle.nest_data.specs.Lines.{lines_of, words_of}
use Rattle.nest_data.specs.Values.{value_of}
use Rattle.nest_data.specs.declared.refused.DataKind.{DataKind}
use Rattle.nest_data.specs.declared.refused.DataKind.TheVariants as kind
use Rattle.nest_data.specs.declared.refused.DataRefused.{DataRefused}
use Rattle.nest_data.specs.declared.refused.DataRefused.TheVariants as refused

-- the number of the first array whose name is this word
abbrev pub array_named : List (List ℕ) → List ℕ → List ℕ → Option ℕ
array_named names arrays word = position (λ name. bytes_eq (slice_index_or names name []) word) arrays

-- the values of words, none where one of them isn't a value
abbrev pub values_of : List (List ℕ) → Option (List ℤ)
values_of [] = Some []
values_of (word ∷ words) = option_and_then (λ (value : ℤ). option_map (λ (values : List ℤ). value ∷ values) (values_of words)) (value_of word)

-- as many values as there are to be, or what is wrong
abbrev pub counted : ℕ → Option (List ℤ) → Result (List ℤ) DataKind
counted size None = Err kind.Number
counted size (Some values) = if length values == size then Ok values else Err kind.Count

-- the words with these values in the place of those of an array
abbrev pub with_array : Memory → ℕ → List ℤ → Memory
with_array memory n values = record memory { words = take (sum (take n memory.sizes)) memory.words ++ (values ++ drop (sum (take n memory.sizes) + length values) memory.words) }

-- what the lines so far gave: which arrays had a line, and the words
pub record Read : Type 0 where
  pub given : List Bool
  pub memory : Memory

-- before the first line no array is given, and all words are 0
abbrev pub opening : List ℕ → Read
opening sizes = record { given = replicate (length sizes) false; memory = zeros sizes }

abbrev pub and_then : {A B E : Type 0} → (A → Result B E) → Result A E → Result B E
and_then f (Ok a) = f a
and_then f (Err e) = Err e

-- what is read behind a line of the array with this number, with the words behind its name, or what is wrong with it
abbrev pub behind_values : Read → List (List ℕ) → ℕ → Result Read DataKind
behind_values read words n =
    if slice_index_or read.given n false
    then Err kind.Repeated
    else and_then (λ values. Ok (record { given = slice_set read.given n true; memory = with_array read.memory n values })) (counted (slice_index_or read.memory.sizes n 0) (values_of words))

-- What is read behind a line with these words, or what is wrong with it. A line without words says nothing.
abbrev pub behind_words : List (List ℕ) → List ℕ → Read → List (List ℕ) → Result Read DataKind
behind_words names arrays read [] = Ok read
behind_words names arrays read (name ∷ words) = and_then (behind_values read words) (ok_or (array_named names arrays name) kind.Name)

-- the same, with the number of the line beside what is wrong
abbrev pub behind_line : List (List ℕ) → List ℕ → Read → ℕ → List ℕ → Result Read (DataKind × ℕ)
behind_line names arrays read line text = result_map_both (λ (read : Read). read) (λ (fault : DataKind). (fault, line)) (behind_words names arrays read (words_of text))

-- the words behind all lines, or the first fault with its line; the first of the lines has this number
abbrev pub outcome : List (List ℕ) → List ℕ → Read → ℕ → List (List ℕ) → Result Memory (DataKind × ℕ)
outcome names arrays read line [] = Ok read.memory
outcome names arrays read line (text ∷ texts) = and_then (λ behind. outcome names arrays behind (line + 1) texts) (behind_line names arrays read line text)

-- the words that a data part gives the arrays of a program, or its first fault with its line
abbrev pub data_of : List (List ℕ) → List Array → ℕ → List ℕ → Result Memory (DataKind × ℕ)
data_of names arrays line bytes = outcome names (array_names arrays) (opening (sizes_of arrays)) line (lines_of bytes)

-- an answer tells the outcome, or that memory ran out
abbrev pub Tells : Result Memory (DataKind × ℕ) → Result Memory DataRefused → Type 0
Tells result (Ok memory) = result ≡ Ok memory
Tells result (Err (refused.Line kind line)) = result ≡ Err (kind, line)
Tells result (Err refused.NoMemory) = Unit {0}
