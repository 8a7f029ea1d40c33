-- What the relay's state keeps.
use Rattle.std.specs.Prelude.{◌≡◌, ◌≤◌, true}
use Rattle.nest_mean.specs.Nest.{CanRun}
use Rattle.progress_board.specs.declared.facts.Facts.{Facts}
use Rattle.progress_board.specs.Options.{IsInRange}
use Rattle.progress_board.specs.Runs.{IsReached}
use Rattle.toy_machine.specs.State.{State}
use Rattle.toy_machine.specs.Tokens.{opening, step, no_facts}

-- no token is taken before it's handed out, and the scheduler halts behind the last
pub record IsSound (s : State) : Type 0 where
  pub taken : s.taken ≤ s.handed
  pub handed : s.handed ≤ s.options.queue
  pub halted : s.halted ≡ true → s.handed ≡ s.options.queue

pub record IsKept (s : State) (facts : Facts) : Type 0 where
  pub runs : CanRun s.job
  pub allowed : IsInRange s.options
  pub sound : IsSound s
  pub reached : IsReached step (opening s.job s.options) s
  pub counted : facts ≡ no_facts s.options
