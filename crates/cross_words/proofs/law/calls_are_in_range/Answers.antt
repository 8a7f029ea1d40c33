use Rattle.cross_words.proofs.Within.{said_in_range}
use Rattle.cross_words.proofs.law.calls_are_in_range.Goals as goal

pub returns : goal.returns
returns c = said_in_range
