use Rattle.std.proofs.Common.{◌≡◌, ap, ◌∙◌}
use Rattle.nest_scope.specs.declared.breaches.ScopeBreaches.{ScopeBreaches}
use Rattle.nest_scope.specs.Occurrences.{occurrences_of}
use Rattle.nest_syntax.proofs.Lowers.{lowest_is}
use Rattle.nest_scope.specs.Rules.{lines_redeclared, lines_unknown, lines_const_written, lines_loop_variable_assigned, lines_scheduler_scalar_assigned}
use Rattle.nest_scope.specs.Noted.{none_noted, all_noted}
use Rattle.nest_scope.proofs.Nodes.{program_noted}
use Rattle.nest_scope.proofs.Lowest.{redeclared_kept, unknown_kept, const_written_kept, loop_variable_kept, scheduler_scalar_kept}
use Rattle.nest_scope.proofs.walk.scope_breaches.Goals as goal

-- what was found is what is noted at the occurrences of the program
whole : (c : goal.After-drop-scope-inside-2) → c.breaches.result ≡ all_noted none_noted (occurrences_of c.args.program.now)
whole c = c.breaches.ensures ∙ program_noted c.args.program.now c.in_ok-scope.scope c.walk_decls.new.scope c.new-found.result c.walk_decls.new.found c.walk_regions.new.found (rw c.len.ensures at c.in_ok-scope.ensures) c.new-found.ensures
    (rw c.as_slice.ensures at c.walk_decls.ensures.found) (rw c.as_slice.ensures at c.walk_decls.ensures.scope) (rw c.as_slice-2.ensures at c.in_ok-walk_regions.ensures)

pub returns-clause-redeclared : goal.returns-clause-redeclared
returns-clause-redeclared c = lowest_is (lines_redeclared c.args.program.now) _ (ap (λ (b : ScopeBreaches). b.redeclared) (whole c) ∙ redeclared_kept none_noted (occurrences_of c.args.program.now))

pub returns-clause-unknown : goal.returns-clause-unknown
returns-clause-unknown c = lowest_is (lines_unknown c.args.program.now) _ (ap (λ (b : ScopeBreaches). b.unknown) (whole c) ∙ unknown_kept none_noted (occurrences_of c.args.program.now))

pub returns-clause-const_written : goal.returns-clause-const_written
returns-clause-const_written c = lowest_is (lines_const_written c.args.program.now) _ (ap (λ (b : ScopeBreaches). b.const_written) (whole c) ∙ const_written_kept none_noted (occurrences_of c.args.program.now))

pub returns-clause-loop_variable : goal.returns-clause-loop_variable
returns-clause-loop_variable c = lowest_is (lines_loop_variable_assigned c.args.program.now) _ (ap (λ (b : ScopeBreaches). b.loop_variable_assigned) (whole c) ∙ loop_variable_kept none_noted (occurrences_of c.args.program.now))

pub returns-clause-scheduler_scalar : goal.returns-clause-scheduler_scalar
returns-clause-scheduler_scalar c = lowest_is (lines_scheduler_scalar_assigned c.args.program.now) _ (ap (λ (b : ScopeBreaches). b.scheduler_scalar_assigned) (whole c) ∙ scheduler_scalar_kept none_noted (occurrences_of c.args.program.now))
