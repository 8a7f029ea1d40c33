use Rattle.std.proofs.Common.{map, ap, ◌∙◌}
use Rattle.nest_syntax.specs.Lowest.{lowest, lines_where}
use Rattle.data_local.specs.Loops.{line_of}
use Rattle.nest_check.specs.ChangedBounds.{changes_its_bound}
use Rattle.data_local.proofs.Lowests.{notes_more, notes_end}
use Rattle.nest_check.proofs.changed_bounds.lowest_changed_bound.Goals as goal

pub loop-one-preserved : goal.loop-one-preserved
loop-one-preserved c = notes_more changes_its_bound _ _ c.loop-one-test.true c.one-item.result c.one-item.is _ c.in_ok-changes_its_bound.ensures _ _ _ c.loop-one.invariant c.note_where.ensures

pub returns : goal.returns
returns c =
    c.line.ensures ∙ notes_end changes_its_bound _ _ c.loop-one-test.false _ _ c.loop-one.invariant
    ∙ ap (λ ls. lowest (lines_where line_of changes_its_bound ls)) (ap (map (λ x. x.now)) c.deref-one-items.ensures.value ∙ c.in_ok-loops.ensures)
