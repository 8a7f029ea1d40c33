-- The moves of the machine as they are told, without the data that they act on.
use Rattle.task_hop.specs.declared.stop.Stop.{Stop}
use Rattle.task_hop.specs.declared.stop.Stop.TheVariants as stop
use Rattle.progress_board.specs.declared.actors.Row.{Row}
use Rattle.progress_board.specs.declared.actors.Row.TheVariants as row
use Rattle.domore_machine.specs.Machine.{Move as MachineMove, DoScalar, DoClose, DoDrain, DoDispatch, DoHalt, DoTake, DoPass, DoRead, DoWrite, DoGo, DoFinish, DoTrap, DoDropHeld, DoDropQueued, DoEnd}
use Rattle.domore_core.specs.declared.moves.Move.{Move}
use Rattle.domore_core.specs.declared.moves.Move.TheVariants.{Turn, Hop}
use Rattle.domore_core.specs.declared.moves.Turn.{Turn as OwnMove}
use Rattle.domore_core.specs.declared.moves.Turn.TheVariants as turn

abbrev pub told : {B C P : Type 0} → MachineMove B C P → Move
told (DoScalar purpose trap rest) = Turn turn.Scalar
told (DoClose rest) = Turn turn.Scalar
told (DoDrain purpose trap rest) = Turn turn.Drain
told (DoDispatch b rest) = Turn turn.Dispatch
told DoHalt = Turn turn.Halt
told (DoTake ticket queue) = Turn turn.Take
told (DoPass k w left piece) = Turn turn.Pass
told (DoRead k w next) = Hop
told (DoWrite k w value next) = Hop
told (DoGo k next) = Hop
told (DoFinish k) = Hop
told (DoTrap k cause line) = Hop
told (DoDropHeld k) = Turn turn.DropHeld
told (DoDropQueued ticket queue) = Turn turn.DropQueued
told DoEnd = Turn turn.End

-- the row under which an actor is asked for a move that the machine makes by itself
abbrev pub row_of_turn : OwnMove → Row
row_of_turn turn.Scalar = row.Scalar
row_of_turn turn.Drain = row.Drain
row_of_turn turn.Dispatch = row.Dispatch
row_of_turn turn.Halt = row.Halt
row_of_turn turn.Take = row.Take
row_of_turn turn.Pass = row.Pass
row_of_turn turn.DropHeld = row.Drop
row_of_turn turn.DropQueued = row.Drop
row_of_turn turn.End = row.End

-- the row of a stop
abbrev pub row_of_stop : Stop → Row
row_of_stop (stop.Load array place into next) = row.Hop
row_of_stop (stop.Store array place value next) = row.Hop
row_of_stop (stop.Go next) = row.Hop
row_of_stop stop.Finish = row.Finish
row_of_stop (stop.Trap cause line) = row.Trap
