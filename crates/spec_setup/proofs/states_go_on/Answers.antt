use Rattle.dep_graph.proofs.Apart.{do_all_is_apart}
use Rattle.spec_setup.proofs.Going.{states_go}
use Rattle.spec_setup.proofs.states_go_on.Goals as goal

pub returns : goal.returns
returns g c = λ program opening code cursor signs width room far prepared few short inside history s leads. states_go do_all_is_apart program opening code cursor signs width room far prepared few short inside history s leads
