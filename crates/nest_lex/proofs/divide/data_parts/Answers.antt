use Rattle.nest_lex.specs.Parts.{with_data, with_both}
use Rattle.nest_lex.specs.declared.input.Marker.TheVariants as marker
use Rattle.nest_lex.proofs.Dividing.{as_data}
use Rattle.nest_lex.proofs.divide.data_parts.Goals as goal

pub returns-in-Some : goal.returns-in-Some
returns-in-Some c =
    let first = c.requires.first in
    let here = as_data _ _ first c.requires.marker in
    let last = rw c.line_behind-values.ensures at c.in-Some.ensures in
    rw (c.line_behind-values.ensures, c.line_behind.ensures, c.spot_after-data_line.ensures)
    (with_both _ _ _ _ (first.none marker.Data) (first.none marker.Steps) here last.after last.none last.here)

pub returns-in-None : goal.returns-in-None
returns-in-None c =
    let first = c.requires.first in
    let here = as_data _ _ first c.requires.marker in
    rw (c.line_behind-values.ensures, c.spot_after-data_line.ensures)
    (with_data _ _ (first.none marker.Data) (first.none marker.Steps) here (rw c.line_behind-values.ensures at c.in-None.ensures))
