use Rattle.std.proofs.Common.{◌∙◌}
use Rattle.nest_syntax.specs.Locals.{locals_of}
use Rattle.nest_mean.proofs.Kept.{takes_same}
use Rattle.nest_mean.proofs.Locals.{zeros_taken}
use Rattle.nest_mean.proofs.saved.clear_locals.Goals as goal

pub returns-in-Some : goal.returns-in-Some
returns-in-Some c =
    c.take_over_names.ensures ∙ takes_same c.in-Some.locals.now (locals_of c.args.body.now) _ c.args.scalars.now (rw c.in-Some.is at c.requires)
    ∙ zeros_taken (locals_of c.args.body.now) _ c.args.scalars.now c.no_values-zeros.ensures

pub returns-in-None : goal.returns-in-None
returns-in-None c = c.take_over_block.ensures ∙ zeros_taken (locals_of c.args.body.now) _ c.args.scalars.now c.no_values-zeros.ensures
