use Rattle.cross_top.proofs.Textual.{threads_due}
use Rattle.cross_top.proofs.threads.run_threads.Goals as goal

pub returns : goal.returns
returns g c = threads_due c.told.result c.args.job c.args.call.now c.in_ok-ran.ran.facts c.in_ok-ran.ran.history.items c.in_ok-ran.ensures.run c.in_ok-copy.copy c.in_ok-copy.ensures c.told.ensures
