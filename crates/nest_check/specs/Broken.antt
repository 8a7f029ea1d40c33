-- The rules by their numbers, the lowest rule that a program breaks, and the lowest line that breaks it.
use Rattle.std.specs.Prelude.{ℕ, zero, suc, ◌<◌, Option, Some, None}
use Rattle.nest_syntax.specs.declared.names.Line.{Line}
use Rattle.nest_syntax.specs.declared.tree.Program.{Program}
use Rattle.nest_syntax.specs.Among.{IsOne}
use Rattle.nest_syntax.specs.Lowest.{IsLowest}
use Rattle.nest_scope.specs.Rules.{lines_redeclared, lines_unknown, lines_const_written, lines_loop_variable_assigned, lines_scheduler_scalar_assigned}
use Rattle.data_local.specs.Bounds.{HasDataBound}
use Rattle.nest_check.specs.ChangedBounds.{lines_of_changed_bounds}
use Rattle.nest_check.specs.Rules.{beyond_64, wrong_lengths, wrong_steps, deep_loops, large_regions, large_bodies, deep_expressions}

-- rules in order: of each, which lines break it
pub data Rules : Type 1 where
  no_rule : Rules
  rule_and : (Line → Type 0) → Rules → Rules

-- that a line breaks the rule at this place of some rules, counted from 0
abbrev pub BreaksAt : Rules → ℕ → Line → Type 0
BreaksAt no_rule place line = ⊥
BreaksAt (rule_and Breaks rules) zero line = Breaks line
BreaksAt (rule_and Breaks rules) (suc place) line = BreaksAt rules place line

-- the fourteen rules
abbrev pub rules_on : Program → Rules
rules_on program =
    rule_and (IsOne (beyond_64 program))
    (rule_and (IsOne (lines_redeclared program))
    (rule_and (IsOne (lines_unknown program))
    (rule_and (IsOne (wrong_lengths program))
    (rule_and (IsOne (lines_const_written program))
    (rule_and (IsOne (wrong_steps program))
    (rule_and (IsOne (deep_loops program))
    (rule_and (IsOne (lines_loop_variable_assigned program))
    (rule_and (IsOne (lines_scheduler_scalar_assigned program))
    (rule_and (IsOne (lines_of_changed_bounds program))
    (rule_and (HasDataBound program)
    (rule_and (IsOne (large_regions program))
    (rule_and (IsOne (large_bodies program))
    (rule_and (IsOne (deep_expressions program))
    no_rule)))))))))))))

-- that a line breaks the rule with this number, counted from 1
abbrev pub BreaksRule : Program → ℕ → Line → Type 0
BreaksRule program zero line = ⊥
BreaksRule program (suc place) line = BreaksAt (rules_on program) place line

-- The lowest rule that a program breaks with the lowest line that breaks it, none where it keeps all.
abbrev pub IsBroken : Program → Option (ℕ × Line) → Type 0
IsBroken program None = (rule : ℕ) (line : Line) → BreaksRule program rule line → ⊥
IsBroken program (Some broken) = IsLowest (BreaksRule program broken.0) (Some broken.1) × ((rule : ℕ) (line : Line) → rule < broken.0 → BreaksRule program rule line → ⊥)
