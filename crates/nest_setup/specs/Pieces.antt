-- The pieces of a code as the machine holds them, with no count of the stops that are left.
use Rattle.std.specs.Prelude.{ℕ, ℤ, pos, List, map, slice_index_or}
use Rattle.std.specs.List.{range_with_len}
use Rattle.nest_syntax.specs.Arrays.{word_number}
use Rattle.settle_law.specs.Tasks.{Stop, Loads, Stores, Goes, Finishes, Traps}
use Rattle.task_hop.specs.declared.frame.Frame.{Frame}
use Rattle.task_hop.specs.declared.frame.Register.TheVariants as register
use Rattle.task_hop.specs.declared.stop.Stop.{Stop as Stopped}
use Rattle.task_hop.specs.declared.stop.Stop.TheVariants as stop
use Rattle.task_hop.specs.Registers.{with_register}
use Rattle.task_code.specs.Code.{Code}
use Rattle.task_frame.specs.declared.piece.Piece.{Piece}
use Rattle.task_frame.specs.Pieces.{piece_at, reached, opening_of}
use Rattle.sched_cursor.specs.declared.event.Iteration.{Iteration}

-- a stop with the piece behind it: behind a read the word is in its temporary
abbrev pub stop_told : List ℕ → Code → Frame → Stopped → Stop Piece
stop_told sizes code frame (stop.Load array place into next) = Loads (word_number sizes array place) (λ value. piece_at code next (with_register frame (register.Temporary into) value))
stop_told sizes code frame (stop.Store array place value next) = Stores (word_number sizes array place) value (piece_at code next frame)
stop_told sizes code frame (stop.Go next) = Goes (piece_at code next frame)
stop_told sizes code frame stop.Finish = Finishes
stop_told sizes code frame (stop.Trap cause line) = Traps cause line

-- the stop at which a piece stands: where its hop comes to
abbrev pub stop_of : List ℕ → Code → Piece → Stop Piece
stop_of sizes code piece = stop_told sizes code (reached piece).frame (reached piece).stop

-- the scalars of the scheduler in 32 places, 0 where there is none
abbrev pub in_places : List ℤ → List ℤ
in_places env = map (λ n. slice_index_or env n (pos 0)) (range_with_len 0 32)

-- the piece with which an iteration begins that is handed out
abbrev pub opening_piece : Code → Iteration → Piece
opening_piece code i = opening_of code i.body i.value (in_places i.env)
