use Rattle.nest_setup.proofs.Begun.{in_places_same}
use Rattle.nest_setup.proofs.places_are_kept.Goals as goal

pub returns : goal.returns
returns c = in_places_same
