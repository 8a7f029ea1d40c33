-- Names in the order in which they are first declared.
use Rattle.std.specs.Prelude.{ℕ, suc, Bool, if◌then◌else◌, ◌==◌, Option, Some, None, List, [], ◌∷◌, ◌++◌, map}
use Rattle.std.specs.Option.{option_map}
use Rattle.std.specs.List.{list_any}
use Rattle.nest_syntax.specs.declared.names.Line.{Line}
use Rattle.nest_syntax.specs.Shape.{Declaration}
use Rattle.nest_check.specs.Through.{through}

abbrev pub has_name : List Declaration → ℕ → Bool
has_name found name = list_any (λ (d : Declaration). d.0 == name) found

-- a further declaration counts where its name is new
abbrev pub with_declaration : List Declaration → Declaration → List Declaration
with_declaration found d = if has_name found d.0 then found else found ++ d ∷ []

-- the first declaration of each name, in order
abbrev pub first_of_each : List Declaration → List Declaration
first_of_each declarations = through with_declaration [] declarations

abbrev pub names_of : List Declaration → List ℕ
names_of declarations = map (λ (d : Declaration). d.0) declarations

abbrev pub lines_of : List Declaration → List Line
lines_of declarations = map (λ (d : Declaration). d.1) declarations

-- the index at which a name stands first in a list, counted from 0
abbrev pub index_of_name : List ℕ → ℕ → Option ℕ
index_of_name [] name = None
index_of_name (first ∷ names) name = if first == name then Some 0 else option_map suc (index_of_name names name)
