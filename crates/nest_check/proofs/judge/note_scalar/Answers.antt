use Rattle.nest_syntax.specs.Shape.{Declaration}
use Rattle.nest_check.proofs.Lines.{noted_at, none_noted}
use Rattle.nest_check.proofs.judge.note_scalar.Goals as goal

pub returns-then-scalars-gt-MOST_SCALARS : goal.returns-then-scalars-gt-MOST_SCALARS
returns-then-scalars-gt-MOST_SCALARS c = noted_at (λ (d : Declaration). d.1) c.args.found.now _ c.args.scalars.now 32 _ c.if-scalars-gt-MOST_SCALARS.true c.note.ensures

pub returns-else-scalars-gt-MOST_SCALARS : goal.returns-else-scalars-gt-MOST_SCALARS
returns-else-scalars-gt-MOST_SCALARS c = none_noted (λ (d : Declaration). d.1) _ _ 32 c.if-scalars-gt-MOST_SCALARS.false
