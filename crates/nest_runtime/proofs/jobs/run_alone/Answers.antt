use Rattle.nest_runtime.proofs.Due.{outcomes_are, all_run_alone}
use Rattle.nest_runtime.proofs.jobs.run_alone.Goals as goal

pub returns-clause-outcome : goal.returns-clause-outcome
returns-clause-outcome c = outcomes_are c.runs_end_as_job.ensures c.args.job c.args.options c.words-words.ensures.runs c.requires c.in_ok-machine.machine c.in_ok-machine.ensures c.alone.result c.alone.ensures.run

pub returns-clause-run : goal.returns-clause-run
returns-clause-run c = all_run_alone c.runs_end_as_job.ensures c.args.job c.args.options c.words-words.ensures.runs c.requires c.in_ok-machine.machine c.in_ok-machine.ensures c.alone.result c.args.schedule.now c.alone.ensures.run c.alone.ensures.rotation
