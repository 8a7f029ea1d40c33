-- The facts of a run as they are reported.
use Rattle.std.specs.Prelude.{◌-◌, Option, Some, None, List, ◌++◌, map, length, replicate}
use Rattle.progress_board.specs.declared.options.Options.{Options}
use Rattle.progress_board.specs.declared.facts.Facts.{Facts as Report}
use Rattle.progress_board.specs.declared.facts.Wait.{Wait}
use Rattle.domore_machine.specs.Facts.{Facts, WaitLine}

abbrev pub wait_of : WaitLine → Wait
wait_of listed = record { number = listed.number; on = listed.on; crossing = listed.crossing }

-- the first waits, in a list of 64 places
abbrev pub places_of : List WaitLine → List (Option Wait)
places_of listed = map (λ (l : WaitLine). Some (wait_of l)) listed ++ replicate (64 - length listed) None

-- the report; what this engine doesn't have is 0 and empty
abbrev pub report_of : Options → Facts → Report
report_of options facts = record {
  options = options;
  invocations = facts.invocations;
  iterations = facts.iterations;
  drains = facts.drains;
  waits = facts.waits;
  crossing = facts.crossing;
  first_waits = places_of facts.first_waits;
  segments = 0;
  checks = 0;
  rollbacks = 0;
  first_rollbacks = replicate 64 None;
}
