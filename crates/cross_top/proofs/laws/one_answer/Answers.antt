use Rattle.cross_top.proofs.OneAnswer.{one_answer}
use Rattle.cross_top.proofs.laws.one_answer.Goals as goal

pub returns : goal.returns
returns c = one_answer c.facts_are_due.ensures c.one_least.ensures c.one_saying.ensures.nest c.one_saying.ensures.words c.one_saying.ensures.steps
