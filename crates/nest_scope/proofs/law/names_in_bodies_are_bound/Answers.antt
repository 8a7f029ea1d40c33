use Rattle.nest_scope.specs.Entered.{declared_scope}
use Rattle.nest_scope.proofs.Entered.{regions_invoked, bodies_bound}
use Rattle.nest_scope.proofs.law.names_in_bodies_are_bound.Goals as goal

pub returns-clause-bodies : goal.returns-clause-bodies
returns-clause-bodies c = λ program. regions_invoked (declared_scope program) program.regions

pub returns-clause-names : goal.returns-clause-names
returns-clause-names c = bodies_bound
