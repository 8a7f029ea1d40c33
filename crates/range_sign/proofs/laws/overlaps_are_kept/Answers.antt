use Rattle.range_sign.proofs.Belows.{are_kept}
use Rattle.range_sign.proofs.laws.overlaps_are_kept.Goals as goal

pub returns : goal.returns
returns c = λ sizes one other. are_kept sizes one other
