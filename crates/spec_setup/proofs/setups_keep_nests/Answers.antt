use Rattle.dep_graph.proofs.Apart.{do_all_is_apart}
use Rattle.spec_setup.proofs.Keeps.{setups_keep}
use Rattle.spec_setup.proofs.setups_keep_nests.Goals as goal

pub returns : goal.returns
returns g c = λ program opening code cursor signs width room far prepared stops bounds. setups_keep do_all_is_apart program opening code cursor signs width room far prepared stops bounds
