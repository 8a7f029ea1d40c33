-- No caller of `scope_breaches` needs this. Bindings that are put back at the end of a block.
use Rattle.std.specs.Prelude.{ℕ, List, [], ◌∷◌}
use Rattle.nest_scope.specs.declared.occurrences.Binding.{Binding}
use Rattle.nest_scope.specs.Occurrences.{Scope, with_bound}

-- the scope with the bindings of a list put back, the last one first
abbrev pub restored : List (ℕ × Binding) → Scope → Scope
restored [] scope = scope
restored (first ∷ others) scope = with_bound (restored others scope) first.0 first.1
