-- The lines of the data part, and the words of a line.
use Rattle.std.specs.Prelude.{ℕ, ◌-◌, Bool, ◌==◌, ◌||◌, not, if◌then◌else◌, List, [], ◌∷◌, length, take, slice_index}
use Rattle.std.specs.List.{list_all, filter, slice_split, onto_first}

abbrev pub is_line_feed : ℕ → Bool
is_line_feed b = b == 10

-- a line feed ends a line; the last line needs none
abbrev pub lines_of : List ℕ → List (List ℕ)
lines_of [] = []
lines_of (b ∷ bytes) = if is_line_feed b then [] ∷ lines_of bytes else onto_first b (lines_of bytes)

-- a space or a tab
abbrev pub is_separator : ℕ → Bool
is_separator b = b == 32 || b == 9

-- one of these, or a carriage return
abbrev pub is_space : ℕ → Bool
is_space b = is_separator b || b == 13

-- what a word consists of
abbrev pub is_word_byte : ℕ → Bool
is_word_byte b = not (is_separator b)

-- a line without the one carriage return that may stand at its end
abbrev pub without_return : List ℕ → List ℕ
without_return line = if slice_index line (length line - 1) == 13 then take (length line - 1) line else line

abbrev pub has_bytes : List ℕ → Bool
has_bytes word = not (length word == 0)

-- what separators part, without the empty parts
abbrev pub parted_by : (ℕ → Bool) → List ℕ → List (List ℕ)
parted_by separates bytes = filter has_bytes (slice_split separates bytes)

-- the same by spaces and tabs
abbrev pub words_in : List ℕ → List (List ℕ)
words_in bytes = parted_by is_separator bytes

-- The words of a line. A line with nothing but spaces, tabs and carriage returns has none.
abbrev pub words_of : List ℕ → List (List ℕ)
words_of line = if list_all is_space line then [] else words_in (without_return line)
