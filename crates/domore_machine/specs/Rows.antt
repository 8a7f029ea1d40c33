-- The rows of the table by their names. A row is a kind of move: `Hop` reads, writes or goes on, `Scalar` computes or
-- closes an invocation, `Drop` is of a held iteration or of a queued one.
use Rattle.domore_machine.specs.Machine.{Move, DoScalar, DoClose, DoDrain, DoDispatch, DoHalt, DoTake, DoPass, DoRead, DoWrite, DoGo, DoFinish, DoTrap, DoDropHeld, DoDropQueued, DoEnd}

pub data Row : Type 0 where
  Scalar : Row
  Drain : Row
  Dispatch : Row
  Halt : Row
  Take : Row
  Pass : Row
  Hop : Row
  Finish : Row
  Trap : Row
  Drop : Row
  End : Row

abbrev pub row_of : {B C P : Type 0} → Move B C P → Row
row_of (DoScalar purpose trap rest) = Scalar
row_of (DoClose rest) = Scalar
row_of (DoDrain purpose trap rest) = Drain
row_of (DoDispatch b rest) = Dispatch
row_of DoHalt = Halt
row_of (DoTake ticket queue) = Take
row_of (DoPass k w left piece) = Pass
row_of (DoRead k w next) = Hop
row_of (DoWrite k w value next) = Hop
row_of (DoGo k next) = Hop
row_of (DoFinish k) = Finish
row_of (DoTrap k cause line) = Trap
row_of (DoDropHeld k) = Drop
row_of (DoDropQueued ticket queue) = Drop
row_of DoEnd = End
