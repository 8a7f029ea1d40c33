use Rattle.std.proofs.Common.{◌≡◌, drop}
use Rattle.nest_mean.specs.Saved.{taken_over}
use Rattle.nest_mean.proofs.saved.take_over_names.Given as goal

abbrev pub invariant-loop-name : goal.invariant-loop-name
invariant-loop-name l = taken_over (drop l.name-index l.names) l.source l.target ≡ taken_over l.names l.source l.fn.target
