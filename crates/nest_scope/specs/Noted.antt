-- No caller of `scope_breaches` needs this. The lowest lines that break each rule, over occurrences that come one by
-- one.
use Rattle.std.specs.Prelude.{None, List, [], ◌∷◌}
use Rattle.nest_syntax.specs.Lowest.{lower_if}
use Rattle.nest_scope.specs.declared.occurrences.Occurrence.{Occurrence}
use Rattle.nest_scope.specs.declared.breaches.ScopeBreaches.{ScopeBreaches}
use Rattle.nest_scope.specs.Rules.{redeclares, uses_unknown, writes_const, assigns_loop_variable, assigns_scheduler_scalar}

-- the lowest lines so far, and one more occurrence
abbrev pub noted : ScopeBreaches → Occurrence → ScopeBreaches
noted found o = record {
  redeclared = lower_if (redeclares o) found.redeclared o.line;
  unknown = lower_if (uses_unknown o) found.unknown o.line;
  const_written = lower_if (writes_const o) found.const_written o.line;
  loop_variable_assigned = lower_if (assigns_loop_variable o) found.loop_variable_assigned o.line;
  scheduler_scalar_assigned = lower_if (assigns_scheduler_scalar o) found.scheduler_scalar_assigned o.line;
}

-- the lowest lines so far, and more occurrences
abbrev pub all_noted : ScopeBreaches → List Occurrence → ScopeBreaches
all_noted found [] = found
all_noted found (o ∷ os) = all_noted (noted found o) os

-- before the first occurrence
abbrev pub none_noted : ScopeBreaches
none_noted = record { redeclared = None; unknown = None; const_written = None; loop_variable_assigned = None; scheduler_scalar_assigned = None }
