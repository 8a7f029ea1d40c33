use Rattle.nest_syntax.specs.declared.tree.Loop.{Loop}
use Rattle.nest_check.proofs.Lines.{noted_at, none_noted}
use Rattle.nest_check.proofs.arrays.note_region.Goals as goal

pub returns-then-regions-gt-MOST_REGIONS : goal.returns-then-regions-gt-MOST_REGIONS
returns-then-regions-gt-MOST_REGIONS c = noted_at (λ (l : Loop). l.line) c.args.found.now _ c.args.regions.now 64 c.index-regions-64.result c.if-regions-gt-MOST_REGIONS.true c.note.ensures

pub returns-else-regions-gt-MOST_REGIONS : goal.returns-else-regions-gt-MOST_REGIONS
returns-else-regions-gt-MOST_REGIONS c = none_noted (λ (l : Loop). l.line) _ _ 64 c.if-regions-gt-MOST_REGIONS.false
