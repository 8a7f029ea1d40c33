use Rattle.nest_lex.specs.Parts.{nest_alone}
use Rattle.nest_lex.specs.declared.input.Marker.TheVariants as marker
use Rattle.nest_lex.proofs.divide.parts.Goals as goal

pub returns-in-None : goal.returns-in-None
returns-in-None c = nest_alone (c.in-None.ensures marker.Data) (c.in-None.ensures marker.Steps)
