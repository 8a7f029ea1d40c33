-- The rows of the table by their names. A row is a kind of move: `Hop` reads, writes, goes on, or goes to the next
-- iteration; `Scalar` computes, also with the present words; `Trap` gives the segment up or keeps the trap.
use Rattle.std.specs.Prelude.{Bool, true, false}
use Rattle.spec_machine.specs.Machine.{Move, DoScalar, DoDrain, DoOpen, DoClose, DoCommit, DoRestore, DoConclude, DoBegin, DoRead, DoWrite, DoGo, DoNext, DoFinish, DoFail, DoTrap, DoLetGo, DoStop, DoCheck, DoAbort}

pub data Row : Type 0 where
  Scalar : Row
  Open : Row
  Close : Row
  Commit : Row
  Restore : Row
  Conclude : Row
  Begin : Row
  Hop : Row
  Finish : Row
  Trap : Row
  Stop : Row
  Check : Row
  Abort : Row

abbrev pub row_of : {B C P : Type 0} → Move B C P → Row
row_of (DoScalar purpose trap rest) = Scalar
row_of (DoDrain purpose trap rest) = Scalar
row_of (DoOpen b n rest) = Open
row_of DoClose = Close
row_of DoCommit = Commit
row_of (DoRestore cause) = Restore
row_of DoConclude = Conclude
row_of (DoBegin hand) = Begin
row_of (DoRead k w next) = Hop
row_of (DoWrite k w value next) = Hop
row_of (DoGo k next) = Hop
row_of (DoNext k piece) = Hop
row_of DoFinish = Finish
row_of DoFail = Trap
row_of (DoTrap k cause line) = Trap
row_of DoLetGo = Stop
row_of DoStop = Stop
row_of (DoCheck p) = Check
row_of (DoAbort p array) = Abort

-- the rows that count as segments and as checks
abbrev pub is_commit : Row → Bool
is_commit Commit = true
is_commit row = false

abbrev pub is_check : Row → Bool
is_check Check = true
is_check Abort = true
is_check row = false
