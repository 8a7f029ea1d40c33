-- The text of the words of a program's arrays. Each line ends with a line feed, and numbers are decimal.
use Rattle.std.specs.Prelude.{ℕ, ◌+◌, ℤ, List, [], ◌∷◌, ◌++◌, slice_index_or, if◌then◌else◌}
use Rattle.std.specs.Fmt.{signed_decimal}
use Rattle.std.specs.List.{flat_map}
use Rattle.nest_syntax.specs.declared.tree.Decl.{Decl}
use Rattle.nest_syntax.specs.declared.tree.Decl.TheVariants as decl
use Rattle.word_store.specs.Memory.{Memory, array_words}

-- a value behind a space
abbrev pub value_text : ℤ → List ℕ
value_text value = 32 ∷ signed_decimal value

-- the line of an array: its name and its values, separated by single spaces
abbrev pub array_line : List ℕ → List ℤ → List ℕ
array_line name values = name ++ flat_map value_text values ++ 10 ∷ []

-- the lines of the arrays that these declarations declare and that aren't `const`; the first array has this number
abbrev pub array_lines : List (List ℕ) → Memory → ℕ → List Decl → List ℕ
array_lines names memory n [] = []
array_lines names memory n (decl.Array line name length fixed ∷ decls) = (if fixed then [] else array_line (slice_index_or names name []) (array_words memory n)) ++ array_lines names memory (n + 1) decls
array_lines names memory n (decl.Scalar line name value ∷ decls) = array_lines names memory n decls
