use Rattle.std.proofs.Common.{IfOk, sym, subst}
use Rattle.progress_board.specs.declared.options.Sign.{Sign}
use Rattle.nest_profile.specs.Least.{IsLeastFor}
use Rattle.nest_profile.proofs.least.least_distance.Goals as goal

pub returns-in-Exact : goal.returns-in-Exact
returns-in-Exact c = subst (λ (s : Sign). IfOk c.least_by.result (IsLeastFor s c.args.job.now c.args.options.now)) (sym c.in-Exact.is) c.least_by.ensures

pub returns-in-Range : goal.returns-in-Range
returns-in-Range c = subst (λ (s : Sign). IfOk c.least_by-in-Range.result (IsLeastFor s c.args.job.now c.args.options.now)) (sym c.in-Range.is) c.least_by-in-Range.ensures
