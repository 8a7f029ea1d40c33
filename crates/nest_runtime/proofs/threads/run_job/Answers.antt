use Rattle.nest_runtime.proofs.Due.{outcomes_are, all_run_job}
use Rattle.nest_runtime.proofs.threads.run_job.Goals as goal

pub returns-clause-outcome : goal.returns-clause-outcome
returns-clause-outcome g c = outcomes_are c.runs_end_as_job.ensures c.args.job c.args.options c.words-words.ensures.runs c.requires c.in_ok-machine.machine c.in_ok-machine.ensures c.crew.result c.crew.ensures

pub returns-clause-run : goal.returns-clause-run
returns-clause-run g c = all_run_job c.runs_end_as_job.ensures c.args.job c.args.options c.words-words.ensures.runs c.requires c.in_ok-machine.machine c.in_ok-machine.ensures c.crew.result c.crew.ensures
