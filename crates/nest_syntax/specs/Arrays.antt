-- The arrays of a program and their words. The words of all arrays are one list, one array after another in the order
-- of declaration, and a word's number counts from 0 over all of them.
use Rattle.std.specs.Prelude.{ℕ, zero, suc, ◌+◌, ℤ, pos, negsuc, Bool, false, if◌then◌else◌, Option, Some, None, List, [], ◌∷◌, map, take, sum, slice_index_or, slice_set, nat_lt, ◌==◌}
use Rattle.std.specs.Option.{option_map, option_and_then}
use Rattle.nest_syntax.specs.declared.tree.Decl.{Decl}
use Rattle.nest_syntax.specs.declared.tree.Decl.TheVariants as decl

-- an array: its name, how many words it has, and whether it is `const`
pub record Array : Type 0 where
  pub name : ℕ
  pub size : ℕ
  pub fixed : Bool

-- the arrays among the declarations, in order; an array is numbered by its place here, from 0
abbrev pub arrays_of : List Decl → List Array
arrays_of [] = []
arrays_of (decl.Array line name length fixed ∷ decls) = record { name = name; size = length; fixed = fixed } ∷ arrays_of decls
arrays_of (decl.Scalar line name value ∷ decls) = arrays_of decls

abbrev pub sizes_of : List Array → List ℕ
sizes_of arrays = map (λ (a : Array). a.size) arrays

-- the names of arrays, as numbers among the names of the program
abbrev pub array_names : List Array → List ℕ
array_names arrays = map (λ (a : Array). a.name) arrays

-- the number of the array with this name
abbrev pub array_of : List Array → ℕ → Option ℕ
array_of [] name = None
array_of (a ∷ arrays) name = if a.name == name then Some 0 else option_map suc (array_of arrays name)

-- whether the array with this number is `const`
abbrev pub is_fixed : List Array → ℕ → Bool
is_fixed [] n = false
is_fixed (a ∷ arrays) zero = a.fixed
is_fixed (a ∷ arrays) (suc n) = is_fixed arrays n

-- a subscript as a place of an array of this size: not below 0, and below the size
abbrev pub place_in : ℕ → ℤ → Option ℕ
place_in size (pos place) = if nat_lt place size then Some place else None
place_in size (negsuc below) = None

-- the place of a subscript in the array with this number
abbrev pub place_of : List ℕ → ℕ → ℤ → Option ℕ
place_of sizes array at = place_in (slice_index_or sizes array 0) at

-- the array and the place that a name with a subscript means; none where the subscript is outside
abbrev pub located : List Array → ℕ → ℤ → Option (ℕ × ℕ)
located arrays name at = option_and_then (λ (n : ℕ). option_map (λ (place : ℕ). (n, place)) (place_of (sizes_of arrays) n at)) (array_of arrays name)

-- the number of the word at a place of an array
abbrev pub word_number : List ℕ → ℕ → ℕ → ℕ
word_number sizes array place = sum (take array sizes) + place

abbrev pub word_at : List ℤ → ℕ → ℤ
word_at words n = slice_index_or words n (pos 0)

abbrev pub with_word : List ℤ → ℕ → ℤ → List ℤ
with_word words n value = slice_set words n value
