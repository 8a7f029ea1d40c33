use Rattle.sched_cursor.proofs.Presents.{const_words_suffice}
use Rattle.sched_cursor.proofs.laws.const_words_suffice.Goals as goal

pub returns : goal.returns
returns c = const_words_suffice
