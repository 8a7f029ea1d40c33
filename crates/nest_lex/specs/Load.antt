-- The two bounds on what stands together in a text.
use Rattle.std.specs.Prelude.{ℕ, ◌+◌, ◌-◌, ◌≤◌}
use Rattle.nest_lex.specs.declared.load.Load.{Load}
use Rattle.nest_lex.specs.declared.token.Mark.{Mark}
use Rattle.nest_lex.specs.declared.token.Mark.TheVariants as mark
use Rattle.nest_lex.specs.declared.piece.Piece.{Piece}
use Rattle.nest_lex.specs.declared.piece.Piece.TheVariants as piece

-- how many brackets are open when n were before this mark; a closing one changes nothing where none is open
abbrev pub opened_by : ℕ → Mark → ℕ
opened_by n mark.OpenRound = n + 1
opened_by n mark.OpenSquare = n + 1
opened_by n mark.OpenCurly = n + 1
opened_by n mark.CloseRound = n - 1
opened_by n mark.CloseSquare = n - 1
opened_by n mark.CloseCurly = n - 1
opened_by n _ = n

-- how long the run is when it had n tokens before this mark: `;`, `{` and `}` are in none
abbrev pub run_by : ℕ → Mark → ℕ
run_by n mark.Semicolon = 0
run_by n mark.OpenCurly = 0
run_by n mark.CloseCurly = 0
run_by n _ = n + 1

-- A load is the brackets that are open, and the tokens since the last of `;`, `{`, `}` or the start. At the start both
-- are 0.
abbrev pub no_load : Load
no_load = record { opened = 0; run = 0 }

-- the load behind a piece
abbrev pub load_after : Load → Piece → Load
load_after load (piece.Mark m) = record { opened = opened_by load.opened m; run = run_by load.run m }
load_after load _ = record { opened = load.opened; run = load.run + 1 }

-- at most 64 brackets are open, and at most 128 tokens are in the run
abbrev pub IsAllowed : Load → Type 0
IsAllowed load = (load.opened ≤ 64) × (load.run ≤ 128)
