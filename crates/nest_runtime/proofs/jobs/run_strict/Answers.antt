use Rattle.nest_runtime.proofs.Due.{outcomes_are, all_run_strictly, refused_strictly}
use Rattle.nest_runtime.proofs.jobs.run_strict.Goals as goal

pub returns-clause-outcome : goal.returns-clause-outcome
returns-clause-outcome c = outcomes_are c.runs_end_as_job.ensures c.args.job c.args.options c.words-words.ensures.runs c.requires c.in_ok-machine.machine c.in_ok-machine.ensures c.strict.result c.strict.ensures.run

pub returns-clause-run : goal.returns-clause-run
returns-clause-run c =
    all_run_strictly c.runs_end_as_job.ensures c.args.job c.args.options c.words-words.ensures.runs c.requires c.in_ok-machine.machine c.in_ok-machine.ensures c.strict.result c.args.steps.now c.strict.ensures.run c.strict.ensures.enabled c.strict.ensures.rotation

pub returns-clause-refused : goal.returns-clause-refused
returns-clause-refused c = refused_strictly c.runs_end_as_job.ensures c.args.job c.args.options c.words-words.ensures.runs c.requires c.in_ok-machine.machine c.in_ok-machine.ensures c.strict.result c.args.steps.now c.strict.ensures.refused
