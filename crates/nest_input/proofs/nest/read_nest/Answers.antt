use Rattle.nest_input.proofs.Told.{told}
use Rattle.nest_input.proofs.nest.read_nest.Goals as goal

pub returns : goal.returns
returns c = told c.args.input.now c.nest_text.result.now c.parts-parts.result c.parts-parts.ensures c.nest_text.ensures.is c.nest_of.result c.nest_of.ensures
