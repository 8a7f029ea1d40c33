-- The facts of a run as they are reported.
use Rattle.std.specs.Prelude.{◌-◌, Option, Some, None, List, ◌++◌, map, length, replicate}
use Rattle.nest_syntax.specs.declared.names.TaskName.{TaskName}
use Rattle.progress_board.specs.declared.options.Options.{Options}
use Rattle.progress_board.specs.declared.facts.Facts.{Facts as Report}
use Rattle.progress_board.specs.declared.facts.Rollback.{Rollback as Told}
use Rattle.progress_board.specs.declared.facts.RollCause.{RollCause}
use Rattle.progress_board.specs.declared.facts.RollCause.TheVariants as cause
use Rattle.spec_machine.specs.Facts.{Task, Abort, Fails, Overlaps, Facts, Rollback}

abbrev pub task_in : TaskName → Task
task_in name = record { epoch = name.epoch; worker = name.worker }

abbrev pub name_of : Task → TaskName
name_of t = record { epoch = t.epoch; worker = t.worker }

-- the cause of a rollback, as it is kept and as it is reported
abbrev pub abort_in : RollCause → Abort
abort_in (cause.Overlap early late array) = Overlaps (record { early = task_in early; late = task_in late }) array
abort_in (cause.Trap task) = Fails (task_in task)

abbrev pub cause_of : Abort → RollCause
cause_of (Overlaps p array) = cause.Overlap (name_of p.early) (name_of p.late) array
cause_of (Fails t) = cause.Trap (name_of t)

abbrev pub rollback_of : Rollback → Told
rollback_of r = record { segment = r.segment; cause = cause_of r.cause }

-- the first rollbacks, in a list of 64 places
abbrev pub places_of : List Rollback → List (Option Told)
places_of listed = map (λ (r : Rollback). Some (rollback_of r)) listed ++ replicate (64 - length listed) None

-- the report; what this engine doesn't have is 0 and empty
abbrev pub report_of : Options → Facts → Report
report_of options facts = record {
  options = options;
  invocations = facts.invocations;
  iterations = facts.iterations;
  drains = facts.drains;
  waits = 0;
  crossing = 0;
  first_waits = replicate 64 None;
  segments = facts.segments;
  checks = facts.checks;
  rollbacks = facts.rollbacks;
  first_rollbacks = places_of facts.listed;
}
