-- A program that keeps the rules: no line breaks one of them.
use Rattle.std.specs.Prelude.{◌≡◌, []}
use Rattle.nest_syntax.specs.declared.names.Line.{Line}
use Rattle.nest_syntax.specs.declared.tree.Program.{Program}
use Rattle.nest_scope.specs.Rules.{lines_redeclared, lines_unknown, lines_const_written, lines_loop_variable_assigned, lines_scheduler_scalar_assigned}
use Rattle.data_local.specs.Bounds.{HasDataBound}
use Rattle.nest_check.specs.ChangedBounds.{lines_of_changed_bounds}
use Rattle.nest_check.specs.Rules.{beyond_64, wrong_lengths, wrong_steps, deep_loops, large_regions, large_bodies, deep_expressions}

pub record KeepsRules (program : Program) : Type 0 where
  pub few : beyond_64 program ≡ []
  pub declared_once : lines_redeclared program ≡ []
  pub known : lines_unknown program ≡ []
  pub lengths : wrong_lengths program ≡ []
  pub constant : lines_const_written program ≡ []
  pub steps : wrong_steps program ≡ []
  pub levels : deep_loops program ≡ []
  pub variables : lines_loop_variable_assigned program ≡ []
  pub scheduled : lines_scheduler_scalar_assigned program ≡ []
  pub bounds : lines_of_changed_bounds program ≡ []
  pub inner : (line : Line) → HasDataBound program line → ⊥
  pub items : large_regions program ≡ []
  pub bodies : large_bodies program ≡ []
  pub depths : deep_expressions program ≡ []
