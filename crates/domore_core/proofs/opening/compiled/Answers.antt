use Rattle.domore_core.proofs.Compiled.{compiled_inside}
use Rattle.domore_core.proofs.opening.compiled.Goals as goal

pub returns-clause-inside : goal.returns-clause-inside
returns-clause-inside c = compiled_inside c.compile.result _ _ c.checked.ensures.same c.compile.ensures
