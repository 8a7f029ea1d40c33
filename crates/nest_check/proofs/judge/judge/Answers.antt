use Rattle.std.proofs.Common.{Option, List, [], ◌∷◌, sym, ◌∙◌, subst}
use Rattle.nest_syntax.specs.declared.names.Line.{Line}
use Rattle.nest_syntax.specs.declared.tree.Program.{Program}
use Rattle.nest_syntax.proofs.Lowers.{lowest_is}
use Rattle.nest_check.specs.Rules.{beyond_64, wrong_lengths, wrong_steps, deep_loops, large_regions, large_bodies, deep_expressions}
use Rattle.nest_check.specs.ChangedBounds.{lines_of_changed_bounds}
use Rattle.nest_check.specs.Broken.{IsBroken, rules_on}
use Rattle.nest_check.proofs.Judged.{AreLowest, broken_is, deep_is}
use Rattle.nest_check.proofs.judge.judge.Goals as goal

pub returns-clause-broken : goal.returns-clause-broken
returns-clause-broken c =
    let program : Program = c.args.program.now in
    let lines : List (Option Line) =
    c.lowest_beyond_64.result
    ∷ c.in_ok-names.names.redeclared
    ∷ c.in_ok-names.names.unknown
    ∷ c.lowest_wrong_length.result
    ∷ c.in_ok-names.names.const_written
    ∷ c.line.result
    ∷ c.line-2.result
    ∷ c.in_ok-names.names.loop_variable_assigned
    ∷ c.in_ok-names.names.scheduler_scalar_assigned
    ∷ c.in_ok-changed_bound.changed_bound
    ∷ c.in_ok-data_bound.data_bound
    ∷ c.line-3.result
    ∷ c.line-4.result
    ∷ c.lowest_deep.result
    ∷ [] in
    let are : AreLowest (rules_on program) lines = (
      lowest_is (beyond_64 program) _ c.lowest_beyond_64.ensures,
      (
        c.in_ok-names.ensures.redeclared,
        (
          c.in_ok-names.ensures.unknown,
          (
            lowest_is (wrong_lengths program) _ c.lowest_wrong_length.ensures,
            (
              c.in_ok-names.ensures.const_written,
              (
                lowest_is (wrong_steps program) _ (c.line.ensures ∙ c.part_breaches-parts.ensures.steps),
                (
                  lowest_is (deep_loops program) _ (c.line-2.ensures ∙ c.part_breaches-parts.ensures.levels),
                  (
                    c.in_ok-names.ensures.loop_variable,
                    (
                      c.in_ok-names.ensures.scheduler_scalar,
                      (
                        lowest_is (lines_of_changed_bounds program) _ c.in_ok-changed_bound.ensures,
                        (
                          c.in_ok-data_bound.ensures,
                          (
                            lowest_is (large_regions program) _ (c.line-3.ensures ∙ c.in_ok-sizes.ensures.regions),
                            (
                              lowest_is (large_bodies program) _ (c.line-4.ensures ∙ c.in_ok-sizes.ensures.bodies),
                              (
                                lowest_is (deep_expressions program) _ (deep_is program _ _ _ c.lowest_deep.ensures c.part_breaches-parts.ensures.depths (c.as_slice.ensures ∙ c.in_ok-sizes.ensures.scalars)),
                                tt,
                              ),
                            ),
                          ),
                        ),
                      ),
                    ),
                  ),
                ),
              ),
            ),
          ),
        ),
      ),
    ) in
    subst (IsBroken program) (sym c.first_broken.ensures) (broken_is program lines are)
