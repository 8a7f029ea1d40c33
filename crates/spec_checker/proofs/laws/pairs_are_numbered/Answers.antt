use Rattle.spec_checker.proofs.Numbering.{are_numbered}
use Rattle.spec_checker.proofs.laws.pairs_are_numbered.Goals as goal

pub returns : goal.returns
returns c = λ workers two. are_numbered workers two
