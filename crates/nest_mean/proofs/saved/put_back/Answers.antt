use Rattle.std.proofs.Common.{◌∙◌}
use Rattle.nest_mean.specs.NamesChanged.{changed_in_loop}
use Rattle.nest_mean.proofs.Kept.{takes_same}
use Rattle.nest_mean.proofs.saved.put_back.Goals as goal

pub returns-in-Some : goal.returns-in-Some
returns-in-Some c = (rw c.as_slice-source.ensures at c.take_over_names.ensures) ∙ takes_same c.in-Some.names.now (changed_in_loop c.args.invoked.now) c.args.source.now c.args.target.now (rw c.in-Some.is at c.requires)
