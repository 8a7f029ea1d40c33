-- What the speculative machine is built on for a program, its opening words and its code.
use Rattle.std.specs.Prelude.{ℕ, ◌<◌, ℤ, pos, Bool, true, false, ◌&&◌, ◌==◌, if◌then◌else◌, nat_lt, Option, Some, None, List, [], length, sum}
use Rattle.std.specs.Option.{option_map_or}
use Rattle.nest_syntax.specs.declared.tree.Loop.{Loop}
use Rattle.nest_syntax.specs.declared.tree.Program.{Program}
use Rattle.nest_syntax.specs.Named.{IsWellNamed}
use Rattle.nest_syntax.specs.Words.{variable, most_turns}
use Rattle.nest_syntax.specs.Arrays.{Array, arrays_of, sizes_of}
use Rattle.nest_syntax.specs.Shape.{bodies_of}
use Rattle.nest_check.specs.Kept.{KeepsRules}
use Rattle.settle_law.specs.Courses as courses
use Rattle.settle_law.specs.Reading.{fixed_in}
use Rattle.dep_graph.specs.declared.kinds.LoopKind.{LoopKind}
use Rattle.dep_graph.specs.declared.kinds.LoopKind.TheVariants as kind
use Rattle.dep_graph.specs.Kinds.{kind_of as loop_kind_of}
use Rattle.task_code.specs.Code.{Code}
use Rattle.task_code.specs.CodeOf.{IsCodeOf}
use Rattle.task_frame.specs.declared.piece.Piece.{Piece}
use Rattle.task_frame.specs.System.{Fuelled, system_of}
use Rattle.sched_cursor.specs.declared.event.Iteration.{Iteration}
use Rattle.sched_cursor.specs.declared.node.Invocation.{Invocation}
use Rattle.sched_cursor.specs.declared.node.At.{At}
use Rattle.sched_cursor.specs.declared.node.At.TheVariants as at
use Rattle.sched_cursor.specs.Cursor.{Cursor}
use Rattle.sched_cursor.specs.Events.{env_of, event_at, behind_invocation}
use Rattle.sched_cursor.specs.Handed.{loop_of_body, what_of}
use Rattle.sched_cursor.specs.Laws.{IsCursorOf}
use Rattle.nest_setup.specs.Pieces.{stop_of, opening_piece}
use Rattle.spec_machine.specs.Invocations.{Event, End, Scalar, Drain, Invoke}
use Rattle.spec_machine.specs.Machine.{Setup}
use Rattle.spec_setup.specs.Signs.{Signs, HoldNotes, kind_of}

-- An invocation: its body, its variable, which is `low + k*step` in turn k, and the scheduler's scalars by their numbers.
pub record Invoked : Type 0 where
  pub body : ℕ
  pub low : ℤ
  pub step : ℕ
  pub env : List ℤ

-- what turn k begins with
abbrev pub handed : Invoked → ℕ → Iteration
handed b k = record { body = b.body; value = variable b.low b.step k; env = b.env }

-- Whether turn k may be an iteration of the program: the step is that of the loop that invokes the body, which has few
-- turns, and an array statement has one.
abbrev pub is_turn_of : Option Loop → Invoked → ℕ → Bool
is_turn_of None b k = nat_lt k 1
is_turn_of (Some l) b k = (b.step == l.step) && nat_lt k most_turns

-- Body and scalars of turn k. Where it can be no iteration they are of none: no body has that number.
abbrev pub what_in : Program → Invoked × ℕ → ℕ × List ℤ
what_in program i = if is_turn_of (loop_of_body program i.0.body) i.0 i.1 then what_of program (handed i.0 i.1) else (length (bodies_of program), [])

-- A cursor read by invocations: where it stands in one, it hands out all turns, and goes behind it.
abbrev pub invoked_at : Cursor → Invocation → Invoked
invoked_at c i = record { body = i.body; low = i.turning.low; step = i.turning.step; env = env_of c }

abbrev pub invoking : Cursor → At → Event Invoked Cursor
invoking c (at.Before next) = End
invoking c (at.Inside i) = Invoke (invoked_at c i) i.turning.trips (behind_invocation c (at.Inside i))

abbrev pub by_invocations : Cursor → courses.Event Iteration Cursor → Event Invoked Cursor
by_invocations c courses.End = End
by_invocations c (courses.Scalar purpose trap rest) = Scalar purpose trap rest
by_invocations c (courses.Drain purpose trap rest) = Drain purpose trap rest
by_invocations c (courses.Iterate i rest) = invoking c c.at
by_invocations c (courses.Close rest) = invoking c c.at

abbrev pub invocation_at : List Array → List ℤ → Cursor → Event Invoked Cursor
invocation_at arrays opening c = by_invocations c (event_at arrays opening c)

-- whether the turns of an invocation may be shared: the dependence tests part its loop, or it is an array statement
abbrev pub is_all : LoopKind → Bool
is_all kind.DoAll = true
is_all (kind.Plain first second) = false

abbrev pub is_do_all : Program → Invoked → Bool
is_do_all program b = option_map_or (λ (l : Loop). is_all (loop_kind_of program l)) (loop_of_body program b.body) true

-- no epoch has this invocation
abbrev pub no_invocation : Invoked
no_invocation = record { body = 0; low = pos 0; step = 1; env = [] }

-- The setup: pieces of the code, the invocations of a cursor of the program, and signatures of this kind, for so many
-- workers, so many epochs in a segment and this set distance.
abbrev pub setup_of : {S : Type 0} → Program → List ℤ → Code → Signs S → (width room far : ℕ) → Setup Invoked Cursor Piece S
setup_of program opening code signs width room far = record {
  system = record { stop = stop_of (sizes_of (arrays_of program.decls)) code; fuel = λ piece. 0; fixed = fixed_in (arrays_of program.decls) opening };
  event = invocation_at (arrays_of program.decls) opening;
  entry = λ b k. opening_piece code (handed b k);
  doall = is_do_all program;
  absent = no_invocation;
  kind = kind_of (sizes_of (arrays_of program.decls)) signs;
  width = width;
  room = room;
  far = far;
}

-- The same with a count of the stops that are left beside each piece. `stops` says how many an iteration may have.
abbrev pub fuelled_setup_of : {S : Type 0} → Program → List ℤ → Code → (ℕ × List ℤ → ℕ) → Signs S → (width room far : ℕ) → Setup Invoked Cursor Fuelled S
fuelled_setup_of program opening code stops signs width room far = record {
  system = system_of (sizes_of (arrays_of program.decls)) code (fixed_in (arrays_of program.decls) opening);
  event = invocation_at (arrays_of program.decls) opening;
  entry = λ b k. record { piece = opening_piece code (handed b k); left = stops (what_of program (handed b k)) };
  doall = is_do_all program;
  absent = no_invocation;
  kind = kind_of (sizes_of (arrays_of program.decls)) signs;
  width = width;
  room = room;
  far = far;
}

-- the words of the program's arrays
abbrev pub is_word_of : Program → ℕ → Bool
is_word_of program w = nat_lt w (sum (sizes_of (arrays_of program.decls)))

-- What a setup needs: a program that keeps the rules, its code, a cursor of it, signatures that hold what they noted, a
-- worker, and room in a segment.
pub record IsPrepared {S : Type 0} (program : Program) (code : Code) (cursor : Cursor) (signs : Signs S) (width room : ℕ) : Type 0 where
  pub named : IsWellNamed program
  pub keeps : KeepsRules program
  pub code_is : IsCodeOf program code
  pub cursor_is : IsCursorOf program cursor
  pub hold_notes : HoldNotes signs
  pub some_worker : 0 < width
  pub some_room : 0 < room
