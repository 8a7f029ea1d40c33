-- The data locals of a body as a list of names, found round by round: each round has the names that are given by an
-- expression that names a written array or a name of the round before. As many rounds as there are givings find all.
use Rattle.std.specs.Prelude.{ℕ, zero, suc, Bool, List, [], map, length}
use Rattle.std.specs.List.{list_any, filter}
use Rattle.nest_syntax.specs.declared.tree.Stmt.{Stmt}
use Rattle.nest_syntax.specs.Arrays.{Array}
use Rattle.data_local.specs.Givings.{Giving, givings}
use Rattle.data_local.specs.Breaches.{is_data}

-- whether a giving depends on a written array or on one of these names
abbrev pub is_data_giving : List Array → List ℕ → Giving → Bool
is_data_giving arrays found giving = list_any (is_data arrays found) giving.depends

abbrev pub next_round : List Array → List Giving → List ℕ → List ℕ
next_round arrays givings found = map (λ (g : Giving). g.name) (filter (is_data_giving arrays found) givings)

abbrev pub after_rounds : List Array → List Giving → ℕ → List ℕ
after_rounds arrays givings zero = []
after_rounds arrays givings (suc n) = next_round arrays givings (after_rounds arrays givings n)

abbrev pub data_locals_of : List Array → List Stmt → List ℕ
data_locals_of arrays body = after_rounds arrays (givings body) (length (givings body))
