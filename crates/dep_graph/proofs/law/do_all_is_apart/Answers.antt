use Rattle.dep_graph.proofs.Apart.{do_all_is_apart}
use Rattle.dep_graph.proofs.law.do_all_is_apart.Goals as goal

pub returns : goal.returns
returns c = do_all_is_apart
