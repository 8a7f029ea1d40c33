-- The ranges of a call's numbers.
use Rattle.std.specs.Prelude.{◌≤◌}
use Rattle.progress_board.specs.Options as options
use Rattle.cross_words.specs.declared.call.Call.{Call}

-- each number of a call is in its range
pub record IsInRange (call : Call) : Type 0 where
  pub options : options.IsInRange call.options
  pub seed : call.seed ≤ 2147483647
  pub some : 1 ≤ call.size
  pub few : call.size ≤ 262144
