-- What the machine is built on for a program, its opening words and its code.
use Rattle.std.specs.Prelude.{ℕ, ◌<◌, ℤ, List}
use Rattle.std.specs.Option.{option_map_or}
use Rattle.nest_syntax.specs.declared.tree.Program.{Program}
use Rattle.nest_syntax.specs.Named.{IsWellNamed}
use Rattle.nest_syntax.specs.Arrays.{arrays_of, sizes_of}
use Rattle.nest_syntax.specs.Shape.{bodies_of}
use Rattle.nest_syntax.specs.Outcome.{turn_in}
use Rattle.nest_check.specs.Kept.{KeepsRules}
use Rattle.addr_slice.specs.Claims.{Claimed, IsEven, by_word, clashes, no_claims}
use Rattle.settle_law.specs.Courses.{iteration_at, nest_of}
use Rattle.settle_law.specs.Reading.{WithinTurn, fixed_in}
use Rattle.claim_walk.specs.Laws.{TakesAtMost}
use Rattle.task_code.specs.Code.{Code}
use Rattle.task_code.specs.CodeOf.{IsCodeOf}
use Rattle.task_frame.specs.declared.piece.Piece.{Piece}
use Rattle.task_frame.specs.System.{Fuelled, system_of}
use Rattle.sched_cursor.specs.declared.event.Iteration.{Iteration}
use Rattle.sched_cursor.specs.Cursor.{Cursor}
use Rattle.sched_cursor.specs.Events.{event_at}
use Rattle.sched_cursor.specs.Handed.{what_of}
use Rattle.sched_cursor.specs.Laws.{IsCursorOf}
use Rattle.domore_machine.specs.Machine.{Setup}
use Rattle.nest_setup.specs.Pieces.{stop_of, opening_piece}

-- the claims of iteration k, by those of a body with its scalars; behind the last iteration there are none
abbrev pub claims_numbered : Program → List ℤ → (ℕ × List ℤ → Claimed) → ℕ → Claimed
claims_numbered program opening claims k = option_map_or claims (iteration_at (nest_of program opening) k) (no_claims 0)

-- The setup: pieces of the code, the events and iterations of a cursor of the program, and these claims, for so many
-- workers and with room for so many tickets in a queue.
abbrev pub setup_of : Program → List ℤ → Code → (ℕ × List ℤ → Claimed) → (width room : ℕ) → Setup Iteration Cursor Piece
setup_of program opening code claims width room = record {
  system = record { stop = stop_of (sizes_of (arrays_of program.decls)) code; fuel = λ piece. 0; fixed = fixed_in (arrays_of program.decls) opening };
  event = event_at (arrays_of program.decls) opening;
  entry = opening_piece code;
  clashes = clashes (claims_numbered program opening claims);
  width = width;
  room = room;
}

-- The same with a count of the stops that are left beside each piece. `stops` says how many an iteration may have.
abbrev pub fuelled_setup_of : Program → List ℤ → Code → (ℕ × List ℤ → Claimed) → (ℕ × List ℤ → ℕ) → (width room : ℕ) → Setup Iteration Cursor Fuelled
fuelled_setup_of program opening code claims stops width room = record {
  system = system_of (sizes_of (arrays_of program.decls)) code (fixed_in (arrays_of program.decls) opening);
  event = event_at (arrays_of program.decls) opening;
  entry = λ i. record { piece = opening_piece code i; left = stops (what_of program i) };
  clashes = clashes (claims_numbered program opening claims);
  width = width;
  room = room;
}

-- The claims of a body with any scalars hold its turn.
pub record HoldTurns (program : Program) (opening : List ℤ) (claims : ℕ × List ℤ → Claimed) : Type 0 where
  pub even : (i : ℕ × List ℤ) → IsEven (claims i)
  pub hold : (i : ℕ × List ℤ) → WithinTurn (sizes_of (arrays_of program.decls)) (fixed_in (arrays_of program.decls) opening) (by_word (claims i)) (turn_in (arrays_of program.decls) (bodies_of program) i.0 i.1)

-- Its turn has at most so many operations and stops before its end, on any path that it can take with these `const` words.
abbrev pub BoundTurns : Program → List ℤ → (ℕ × List ℤ → ℕ) → Type 0
BoundTurns program opening stops = (i : ℕ × List ℤ) → TakesAtMost (sizes_of (arrays_of program.decls)) (fixed_in (arrays_of program.decls) opening) (turn_in (arrays_of program.decls) (bodies_of program) i.0 i.1) (stops i)

-- What a setup needs: a program that keeps the rules, its code, a cursor of it, claims that hold its turns, a worker, and
-- room in its queue.
pub record IsPrepared (program : Program) (opening : List ℤ) (code : Code) (claims : ℕ × List ℤ → Claimed) (cursor : Cursor) (width room : ℕ) : Type 0 where
  pub named : IsWellNamed program
  pub keeps : KeepsRules program
  pub code_is : IsCodeOf program code
  pub cursor_is : IsCursorOf program cursor
  pub claims_hold : HoldTurns program opening claims
  pub some_worker : 0 < width
  pub some_room : 0 < room
