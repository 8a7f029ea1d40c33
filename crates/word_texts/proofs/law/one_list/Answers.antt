use Rattle.word_texts.proofs.Exact.{one_given}
use Rattle.word_texts.proofs.law.one_list.Goals as goal

pub returns : goal.returns
returns c words a b first second = one_given words a b first second
