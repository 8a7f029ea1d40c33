use Rattle.cross_words.proofs.One.{say_one}
use Rattle.cross_words.proofs.law.one_call.Goals as goal

pub returns : goal.returns
returns c words a b first second = say_one c.one_list.ensures words a b first second
