-- A machine that makes all its rows by itself.
use Rattle.std.proofs.Common.{◌≡◌, Bool, true, false, Option, Some, None, ap, ◌∙◌, subst}
use Rattle.std.specs.Option.{option_map_or}
use Rattle.task_frame.specs.declared.piece.Piece.{Piece}
use Rattle.progress_board.specs.declared.actors.Row.{Row}
use Rattle.progress_board.specs.declared.actors.Made.{Made}
use Rattle.progress_board.specs.declared.actors.Work.{Work}
use Rattle.progress_board.specs.declared.actors.Work.TheVariants.{Turn, Hop}
use Rattle.progress_board.specs.declared.actors.Ask.TheVariants.{Ready}
use Rattle.progress_board.specs.Actors.{asked_as, turn_asked, IsRowOf}

-- what is made is a row of the work that is asked for
pub names_turn : {M : Type 0} (row_of : M → Row) (made_of : M → Made) (none : Made) → ((move : M) → asked_as (made_of move).row ≡ row_of move)
    → (ended : Bool) (o : Option M) (work : Work) → turn_asked row_of ended o ≡ Ready work → IsRowOf work (option_map_or made_of o none).row
names_turn row_of made_of none asks ended (Some move) work is = let same : Turn (row_of move) ≡ work = cc in subst (λ w. IsRowOf w (made_of move).row) same (asks move)
names_turn row_of made_of none asks true None work is = absurd (cc)
names_turn row_of made_of none asks false None work is = absurd (cc)

-- and no piece is
pub asks_turn : {M : Type 0} (row_of : M → Row) (ended : Bool) (o : Option M) (piece : Piece) → turn_asked row_of ended o ≡ Ready (Hop piece) → ⊥
asks_turn row_of ended (Some move) piece is = cc
asks_turn row_of true None piece is = cc
asks_turn row_of false None piece is = cc
