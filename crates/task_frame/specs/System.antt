-- The pieces of a code as a task system. A piece has no fuel of its own: it is kept beside it, as the number of stops that
-- may still come.
use Rattle.std.specs.Prelude.{ℕ, suc, ◌-◌, ◌≤◌, ℤ, Option, List}
use Rattle.nest_syntax.specs.Arrays.{word_number}
use Rattle.nest_syntax.specs.Turn.{Turn}
use Rattle.settle_law.specs.Cuts.{Cut, cut}
use Rattle.settle_law.specs.Cuts as cuts
use Rattle.settle_law.specs.Tasks.{Stop, Loads, Stores, Goes, Finishes, Traps, System, Realises}
use Rattle.settle_law.specs.Reading.{KeepsFixed}
use Rattle.task_hop.specs.declared.frame.Frame.{Frame}
use Rattle.task_hop.specs.declared.frame.Register.TheVariants as register
use Rattle.task_hop.specs.declared.stop.Stop.{Stop as Stopped}
use Rattle.task_hop.specs.declared.stop.Stop.TheVariants as stop
use Rattle.task_hop.specs.Registers.{with_register}
use Rattle.turn_cost.specs.Costs.{AtMost}
use Rattle.task_code.specs.Code.{Code}
use Rattle.task_code.specs.Unfolded.{Unfolds}
use Rattle.task_frame.specs.declared.piece.Piece.{Piece}
use Rattle.task_frame.specs.Pieces.{piece_at, reached}

-- a piece, and how many stops are left at most
pub record Fuelled : Type 0 where
  pub piece : Piece
  pub left : ℕ

-- the piece behind a stop
abbrev pub behind : Code → ℕ → ℕ → Frame → Fuelled
behind code left next frame = record { piece = piece_at code next frame; left = left - 1 }

-- a stop with the piece behind it: behind a read the word is in its temporary
abbrev pub stop_told : List ℕ → Code → ℕ → Frame → Stopped → Stop Fuelled
stop_told sizes code left frame (stop.Load array place into next) = Loads (word_number sizes array place) (λ value. behind code left next (with_register frame (register.Temporary into) value))
stop_told sizes code left frame (stop.Store array place value next) = Stores (word_number sizes array place) value (behind code left next frame)
stop_told sizes code left frame (stop.Go next) = Goes (behind code left next frame)
stop_told sizes code left frame stop.Finish = Finishes
stop_told sizes code left frame (stop.Trap cause line) = Traps cause line

abbrev pub stop_of : List ℕ → Code → Fuelled → Stop Fuelled
stop_of sizes code p = stop_told sizes code p.left (reached p.piece).frame (reached p.piece).stop

-- `fixed` tells the values of the `const` words
abbrev pub system_of : List ℕ → Code → (ℕ → Option ℤ) → System Fuelled
system_of sizes code fixed = record { stop = stop_of sizes code; fuel = λ p. p.left; fixed = fixed }

-- A cut turn has at most so many stops before its end, on any path.
abbrev pub StopsAtMost : Cut → ℕ → Type 0
StopsAtMost cuts.Finished n = Unit {0}
StopsAtMost (cuts.Trapped cause line) n = Unit {0}
StopsAtMost (cuts.Reads w go) n = (m : ℕ) × (suc m ≤ n) × ((value : ℤ) → StopsAtMost (go value) m)
StopsAtMost (cuts.Writes w value rest) n = (m : ℕ) × (suc m ≤ n) × StopsAtMost rest m
StopsAtMost (cuts.Pauses rest) n = (m : ℕ) × (suc m ≤ n) × StopsAtMost rest m

-- The pauses behind 32 operations are no more than the operations.
abbrev pub TurnsMayPause : Type 0
TurnsMayPause = (sizes : List ℕ) (t : Turn) (before most : ℕ) → AtMost t most → StopsAtMost (cut sizes before t) most

-- A piece from which the hops unfold to the cut turn realises it, with the fuel that the turn takes at most.
abbrev pub TurnsAreRealised : Type 0
TurnsAreRealised = (sizes : List ℕ) (code : Code) (fixed : ℕ → Option ℤ) (t : Turn) (before left : ℕ) (piece : Piece)
    → Unfolds sizes code.instructions (cut sizes before t) (reached piece) → KeepsFixed sizes fixed t → AtMost t left
    → Realises (system_of sizes code fixed) (cut sizes before t) (record { piece = piece; left = left })
