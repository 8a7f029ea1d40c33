use Rattle.data_local.specs.Breaches.{has_data_bound}
use Rattle.data_local.proofs.Lowests.{notes_more, notes_end}
use Rattle.data_local.proofs.bounds.note_where_data.Goals as goal

pub loop-one-preserved : goal.loop-one-preserved
loop-one-preserved c = λ arrays tells.
    notes_more (has_data_bound arrays c.args.locals.now) _ _ c.loop-one-test.true c.one-item.result c.one-item.is _ (c.has_data_bound.ensures arrays tells) _ _ _ (c.loop-one.invariant arrays tells) c.note_where.ensures

pub returns : goal.returns
returns c = λ arrays tells. notes_end (has_data_bound arrays c.args.locals.now) _ _ c.loop-one-test.false _ _ (c.loop-one.invariant arrays tells)
