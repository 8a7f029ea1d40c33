use Rattle.spec_setup.proofs.Scripts.{scripts_stay}
use Rattle.spec_setup.proofs.scripts_stay.Goals as goal

pub returns : goal.returns
returns g c = λ program opening code signs width room far s t actor is. scripts_stay program opening code signs width room far s t actor is
