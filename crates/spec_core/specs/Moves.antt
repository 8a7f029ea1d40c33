-- The moves of the machine as they are told, without the data that they act on.
use Rattle.progress_board.specs.declared.actors.Row.{Row}
use Rattle.progress_board.specs.declared.actors.Row.TheVariants as row
use Rattle.spec_machine.specs.Machine.{Hand, Running, Move as MachineMove, DoScalar, DoDrain, DoOpen, DoClose, DoCommit, DoRestore, DoConclude, DoBegin, DoRead, DoWrite, DoGo, DoNext, DoFinish, DoFail, DoTrap, DoLetGo, DoStop, DoCheck, DoAbort}
use Rattle.spec_core.specs.declared.moves.Move.{Move}
use Rattle.spec_core.specs.declared.moves.Move.TheVariants.{Turn, Hop}
use Rattle.spec_core.specs.declared.moves.Turn.{Turn as OwnMove}
use Rattle.spec_core.specs.declared.moves.Turn.TheVariants as turn

-- a task is finished by the stop of its last piece, one with no iteration by itself
abbrev pub finish_told : {P : Type 0} → Hand P → Move
finish_told (Running k piece) = Hop
finish_told _ = Turn turn.Finish

-- a move of an actor, by what it holds
abbrev pub told : {B C P : Type 0} → Hand P → MachineMove B C P → Move
told hand (DoScalar purpose trap rest) = Turn turn.Scalar
told hand (DoDrain purpose trap rest) = Turn turn.Drain
told hand (DoOpen b n rest) = Turn turn.Open
told hand DoClose = Turn turn.Close
told hand DoCommit = Turn turn.Commit
told hand (DoRestore cause) = Turn turn.Restore
told hand DoConclude = Turn turn.Conclude
told hand (DoBegin first) = Turn turn.Begin
told hand (DoRead k w next) = Hop
told hand (DoWrite k w value next) = Hop
told hand (DoGo k next) = Hop
told hand (DoNext k piece) = Hop
told hand DoFinish = finish_told hand
told hand DoFail = Hop
told hand (DoTrap k cause line) = Hop
told hand DoLetGo = Turn turn.LetGo
told hand DoStop = Turn turn.Stop
told hand (DoCheck p) = Turn turn.Check
told hand (DoAbort p array) = Turn turn.Check

-- the row under which an actor is asked for a move that the machine makes by itself
abbrev pub row_of_turn : OwnMove → Row
row_of_turn turn.Scalar = row.Scalar
row_of_turn turn.Drain = row.Scalar
row_of_turn turn.Open = row.Open
row_of_turn turn.Close = row.Close
row_of_turn turn.Commit = row.Commit
row_of_turn turn.Restore = row.Restore
row_of_turn turn.Conclude = row.Conclude
row_of_turn turn.Begin = row.Begin
row_of_turn turn.Finish = row.Finish
row_of_turn turn.LetGo = row.Stop
row_of_turn turn.Stop = row.Stop
row_of_turn turn.Check = row.Check
