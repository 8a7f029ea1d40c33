-- The state of the relay.
use Rattle.std.specs.Prelude.{ℕ, Bool}
use Rattle.nest_mean.specs.Nest.{Nest}
use Rattle.progress_board.specs.declared.options.Options.{Options}

-- how many tokens are handed out, how many are taken, and whether the scheduler has halted
pub record State : Type 0 where
  pub job : Nest
  pub options : Options
  pub handed : ℕ
  pub taken : ℕ
  pub halted : Bool
