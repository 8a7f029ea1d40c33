-- The pieces of a code.
use Rattle.std.specs.Prelude.{ℕ, ℤ, List}
use Rattle.task_hop.specs.declared.frame.Frame.{Frame}
use Rattle.task_hop.specs.Meaning.{Reached, meaning}
use Rattle.task_code.specs.Code.{Code, hop_at, entry_at, slot_at}
use Rattle.task_code.specs.Unfolded.{opening_frame}
use Rattle.task_frame.specs.declared.piece.Piece.{Piece}

-- where the hop of a piece comes to
abbrev pub reached : Piece → Reached
reached piece = meaning piece.hop piece.frame

-- the piece at an address
abbrev pub piece_at : Code → ℕ → Frame → Piece
piece_at code at frame = record { hop = hop_at code.instructions at; frame = frame }

-- the piece with which an iteration of a body begins
abbrev pub opening_of : Code → ℕ → ℤ → List ℤ → Piece
opening_of code body value env = piece_at code (entry_at code body) (opening_frame (slot_at code body) value env)
