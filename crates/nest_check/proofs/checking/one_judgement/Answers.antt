use Rattle.nest_check.proofs.Judged.{keeps_all}
use Rattle.nest_check.proofs.OneJudgement.{one_broken, none_broken, never_both}
use Rattle.nest_check.proofs.checking.one_judgement.Goals as goal

pub returns-clause-broken : goal.returns-clause-broken
returns-clause-broken c = one_broken

pub returns-clause-kept : goal.returns-clause-kept
returns-clause-kept c = λ program. (keeps_all program, none_broken program)

pub returns-clause-never_both : goal.returns-clause-never_both
returns-clause-never_both c = never_both
