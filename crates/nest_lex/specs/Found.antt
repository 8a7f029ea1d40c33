-- What stands at a place of a text: a gap, a piece or a fault. No caller of `lex` needs this.
use Rattle.std.specs.Prelude.{ℕ, ◌<◌, ◌≤◌, List, length}
use Rattle.nest_lex.specs.Pieces.{IsGap, Stands}
use Rattle.nest_lex.specs.Text.{IsBadByte, IsBadNumber, IsBadComment}
use Rattle.nest_lex.specs.declared.refused.LexKind.{LexKind}
use Rattle.nest_lex.specs.declared.refused.LexKind.TheVariants as fault
use Rattle.nest_lex.specs.declared.found.Found.{Found}
use Rattle.nest_lex.specs.declared.found.Found.TheVariants.{Gap, Piece, Fault}

-- that fault is there, whatever stands before
abbrev pub IsBad : List ℕ → ℕ → LexKind → Type 0
IsBad text at fault.Byte = IsBadByte text at
IsBad text at fault.Number = IsBadNumber text at
IsBad text at fault.Comment = IsBadComment text at
IsBad text at fault.Dense = ⊥

-- the gap or the piece is there, or nothing is, for that reason
abbrev pub IsFound : List ℕ → ℕ → Found → Type 0
IsFound text at (Gap to) = (at < to) × (to ≤ length text) × IsGap text at to
IsFound text at (Piece p next) = Stands text p at next
IsFound text at (Fault kind) = IsBad text at kind
