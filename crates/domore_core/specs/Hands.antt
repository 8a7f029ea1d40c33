-- What a worker holds, as the abstract machine has it.
use Rattle.task_frame.specs.declared.piece.Piece.{Piece}
use Rattle.domore_machine.specs.Machine.{Hand, Idle, Holding, Ended}
use Rattle.domore_core.specs.declared.hand.Held.{Held}
use Rattle.domore_core.specs.declared.hand.Held.TheVariants as held

abbrev pub hand_of : Held → Hand Piece
hand_of held.Nothing = Idle
hand_of (held.Task number waits piece) = Holding number waits.items piece
hand_of held.Ended = Ended
