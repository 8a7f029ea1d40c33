use Rattle.nest_lex.specs.Parts.{with_steps}
use Rattle.nest_lex.specs.declared.input.Marker.TheVariants as marker
use Rattle.nest_lex.proofs.Dividing.{as_steps}
use Rattle.nest_lex.proofs.divide.marked_parts.Goals as goal

pub returns-in-Steps : goal.returns-in-Steps
returns-in-Steps c =
    let first = c.requires.first in
    rw c.line_behind.ensures (with_steps _ _ (first.none marker.Data) (first.none marker.Steps) (as_steps _ _ first c.in-Steps.is))
