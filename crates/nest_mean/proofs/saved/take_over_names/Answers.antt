use Rattle.nest_mean.proofs.Kept.{takes_next, takes_none}
use Rattle.nest_mean.proofs.saved.take_over_names.Goals as goal

pub loop-name-preserved : goal.loop-name-preserved
loop-name-preserved c = takes_next _ _ 0 c.loop-name-test.true _ _ _ _ c.loop-name.invariant c.take_over.ensures

pub returns : goal.returns
returns c = takes_none _ _ c.loop-name-test.false _ _ _ c.loop-name.invariant
