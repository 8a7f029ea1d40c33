use Rattle.nest_input.proofs.OneNest.{one_nest, one_words, one_steps}
use Rattle.nest_input.proofs.nest.one_saying.Goals as goal

pub returns-clause-nest : goal.returns-clause-nest
returns-clause-nest c = one_nest

pub returns-clause-words : goal.returns-clause-words
returns-clause-words c = one_words

pub returns-clause-steps : goal.returns-clause-steps
returns-clause-steps c = one_steps
