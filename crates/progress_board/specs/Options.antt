-- The ranges of options.
use Rattle.std.specs.Prelude.{◌≤◌}
use Rattle.progress_board.specs.declared.options.Options.{Options}

-- each number of the options is in its range
pub record IsInRange (options : Options) : Type 0 where
  pub some_worker : 1 ≤ options.workers
  pub few_workers : options.workers ≤ 8
  pub some_room : 1 ≤ options.queue
  pub little_room : options.queue ≤ 1024
  pub some_invocation : 1 ≤ options.segment
  pub few_invocations : options.segment ≤ 64
  pub near : options.distance ≤ 64
