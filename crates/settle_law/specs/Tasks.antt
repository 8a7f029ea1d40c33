-- The work of an iteration in pieces. A task system is any set of pieces with a meaning: at which stop a piece stands,
-- and which piece stands behind it. What names no engine stands here, for any engine and any task system.
use Rattle.std.specs.Prelude.{◌≡◌, ℕ, ◌<◌, ℤ, Option, Some, None, List, [], ◌∷◌, ◌++◌}
use Rattle.nest_syntax.specs.declared.names.Line.{Line}
use Rattle.nest_syntax.specs.declared.operators.Cause.{Cause}
use Rattle.settle_law.specs.Trees.{Tree}
use Rattle.settle_law.specs.Cuts.{Cut, Finished, Trapped, Reads, Writes, Pauses, plain, CanBeRead}
use Rattle.settle_law.specs.Traces.{Access, Read, Write, Makes, IsFinished, IsTrapped}

-- the stop at which a piece stands, with the piece behind it
pub data Stop (P : Type 0) : Type 0 where
  Loads : ℕ → (ℤ → P) → Stop P
  Stores : ℕ → ℤ → P → Stop P
  Goes : P → Stop P
  Finishes : Stop P
  Traps : Cause → Line → Stop P

-- `fuel` bounds the stops that may come before the end; `fixed` tells the values of the `const` words.
pub record System (P : Type 0) : Type 0 where
  pub stop : P → Stop P
  pub fuel : P → ℕ
  pub fixed : ℕ → Option ℤ

-- A piece realises a cut turn: it stands at its first stop, and behind it a piece with less fuel realises the rest, for
-- each value that may be read. No `const` word is written.
abbrev pub Realises : {P : Type 0} → System P → Cut → P → Type 0
Realises sys Finished piece = sys.stop piece ≡ Finishes
Realises sys (Trapped cause line) piece = sys.stop piece ≡ Traps cause line
Realises {P} sys (Reads w go) piece = (next : ℤ → P) × (sys.stop piece ≡ Loads w next) × ((value : ℤ) → CanBeRead (sys.fixed w) value → (sys.fuel (next value) < sys.fuel piece) × Realises sys (go value) (next value))
Realises {P} sys (Writes w value rest) piece = (next : P) × (sys.stop piece ≡ Stores w value next) × (sys.fixed w ≡ None) × (sys.fuel next < sys.fuel piece) × Realises sys rest next
Realises {P} sys (Pauses rest) piece = (next : P) × (sys.stop piece ≡ Goes next) × (sys.fuel next < sys.fuel piece) × Realises sys rest next

-- what a piece still has to do behind the accesses that its iteration has made: it realises what is left of the tree
pub record Left {P : Type 0} (sys : System P) (tree : Tree) (made : List Access) (piece : P) : Type 0 where
  pub left : Cut
  pub realises : Realises sys left piece
  pub makes : Makes tree made (plain sys.fixed left)

-- What the stop at which a piece stands says of its iteration: behind an access, the piece behind it still has to do what
-- is left, with less fuel; a read of a `const` word is no access; at its end the part is finished or trapped.
module _ {P : Type 0} (sys : System P) (tree : Tree) (made : List Access) (piece : P) where
  abbrev pub AtLoad : Option ℤ → ℕ → (ℤ → P) → ℕ → ℤ → Type 0
  AtLoad None w next k value = Left sys tree (made ++ Read k w value ∷ []) (next value) × (sys.fuel (next value) < sys.fuel piece)
  AtLoad (Some told) w next k value = told ≡ value → Left sys tree made (next value) × (sys.fuel (next value) < sys.fuel piece)

  abbrev pub AtStop : Stop P → Type 0
  AtStop (Loads w next) = (k : ℕ) (value : ℤ) → AtLoad (sys.fixed w) w next k value
  AtStop (Stores w value next) = (k : ℕ) → (sys.fixed w ≡ None) × Left sys tree (made ++ Write k w value ∷ []) next × (sys.fuel next < sys.fuel piece)
  AtStop (Goes next) = Left sys tree made next × (sys.fuel next < sys.fuel piece)
  AtStop Finishes = IsFinished tree made
  AtStop (Traps cause line) = IsTrapped tree made cause line

-- Each stop of a piece with this left says so. And a piece that realises a cut turn has all of its plain tree left.
abbrev pub StopsTell : Type 0 → Type 0
StopsTell P = (sys : System P) (tree : Tree) (made : List Access) (piece : P) → Left sys tree made piece → AtStop sys tree made piece (sys.stop piece)

abbrev pub PiecesBegin : Type 0 → Type 0
PiecesBegin P = (sys : System P) (cut : Cut) (piece : P) → Realises sys cut piece → Left sys (plain sys.fixed cut) [] piece
