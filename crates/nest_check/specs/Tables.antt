-- Tables by the number of a name.
use Rattle.std.specs.Prelude.{◌≡◌, ℕ, if◌then◌else◌, is_none, Option, Some, None, List, slice_index_or, slice_set}
use Rattle.nest_syntax.specs.declared.tree.Program.{Program}
use Rattle.nest_syntax.specs.Named.{IsWellNamed}
use Rattle.nest_syntax.specs.Arrays.{arrays_of, sizes_of, array_of}
use Rattle.nest_syntax.specs.Shape.{bodies_of}
use Rattle.data_local.specs.Bodies.{AreLocalsByBody}
use Rattle.nest_check.specs.Declarations.{first_of_each, names_of, index_of_name}
use Rattle.nest_check.specs.Entries.{scheduler_scalars}
use Rattle.nest_check.specs.Kept.{KeepsRules}

-- The number of a scheduler scalar's name, in the order of first declaration; none where it is none.
abbrev pub scalar_of : Program → ℕ → Option ℕ
scalar_of program name = index_of_name (names_of (first_of_each (scheduler_scalars program))) name

-- what a table has for a name
abbrev pub at_name : List (Option ℕ) → ℕ → Option ℕ
at_name table name = slice_index_or table name None

-- a table with an index noted for a name that has none
abbrev pub index_noted : List (Option ℕ) → ℕ → ℕ → List (Option ℕ)
index_noted table name index = if is_none (at_name table name) then slice_set table name (Some index) else table

-- What is kept of a checked program: its rules, and its tables.
pub record IsChecked (program : Program) (lengths : List ℕ) (arrays scalars : List (Option ℕ)) (locals : List (List ℕ)) : Type 0 where
  pub named : IsWellNamed program
  pub keeps : KeepsRules program
  pub lengths_are : lengths ≡ sizes_of (arrays_of program.decls)
  pub arrays_are : (name : ℕ) → at_name arrays name ≡ array_of (arrays_of program.decls) name
  pub scalars_are : (name : ℕ) → at_name scalars name ≡ scalar_of program name
  pub locals_are : AreLocalsByBody (arrays_of program.decls) (bodies_of program) locals
