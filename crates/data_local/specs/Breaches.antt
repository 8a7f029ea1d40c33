-- No caller of `lowest_data_bound` needs this. How the lowest lines are found: what the parts of the search tell of
-- each other.
use Rattle.std.specs.Prelude.{ℕ, Bool, ◌||◌, List}
use Rattle.std.specs.List.{list_any}
use Rattle.nest_syntax.specs.declared.tree.Expr.{Expr}
use Rattle.nest_syntax.specs.declared.tree.Loop.{Loop}
use Rattle.nest_syntax.specs.Arrays.{Array}
use Rattle.nest_syntax.specs.Value.{names_written}
use Rattle.nest_syntax.specs.Among.{is_among}
use Rattle.data_local.specs.Names.{scalars_in}

-- whether an expression names a written array or a name of this list
abbrev pub is_data : List Array → List ℕ → Expr → Bool
is_data arrays locals e = names_written arrays e || list_any (is_among locals) (scalars_in e)

abbrev pub has_data_bound : List Array → List ℕ → Loop → Bool
has_data_bound arrays locals l = is_data arrays locals l.low || is_data arrays locals l.high
