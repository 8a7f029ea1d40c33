-- How a call that runs a turn answers.
use Rattle.std.specs.Prelude.{ℤ, Result, Ok, Err, List}
use Rattle.nest_syntax.specs.Reads.{Ended, Completed, Stopped}
use Rattle.nest_mean.specs.declared.bodies.TurnTrap.{TurnTrap}

-- the end of a turn: what the call answered, and the words at that moment
abbrev pub ended : Result (Unit {0}) TurnTrap → List ℤ → Ended
ended (Ok done) words = Completed words
ended (Err trap) words = Stopped trap.cause trap.line words
