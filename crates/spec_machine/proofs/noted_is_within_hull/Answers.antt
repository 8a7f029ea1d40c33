use Rattle.spec_machine.proofs.Runs.{within_hulls}
use Rattle.spec_machine.proofs.noted_is_within_hull.Goals as goal

pub returns : goal.returns
returns g c = λ m nest what start noted claims size setup held history s t leads calm lt own. within_hulls _ _ _ _ m nest what start noted claims size setup held history s t leads calm lt own
