use Rattle.sched_cursor.proofs.Fixed.{fixed_words_are_const}
use Rattle.sched_cursor.proofs.laws.fixed_words_are_const.Goals as goal

pub returns : goal.returns
returns c = fixed_words_are_const
