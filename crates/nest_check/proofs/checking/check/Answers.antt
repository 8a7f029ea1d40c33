use Rattle.std.proofs.Common.{◌∙◌, subst}
use Rattle.nest_check.specs.Broken.{IsBroken}
use Rattle.nest_check.proofs.Judged.{keeps_all, all_scalars}
use Rattle.nest_check.proofs.checking.check.Goals as goal

pub tabled-requires-clause-keeps : goal.tabled-requires-clause-keeps
tabled-requires-clause-keeps c = keeps_all c.args.program (subst (IsBroken c.args.program) c.in_default.is c.in_ok-judgement.ensures.broken)

pub tabled-requires-clause-scalars : goal.tabled-requires-clause-scalars
tabled-requires-clause-scalars c = c.as_slice.ensures ∙ c.in_ok-judgement.ensures.scalars ∙ all_scalars c.args.program (keeps_all c.args.program (subst (IsBroken c.args.program) c.in_default.is c.in_ok-judgement.ensures.broken))
