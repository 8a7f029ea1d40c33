-- What is handed out at an iteration, as body and scalars: the course's iteration.
use Rattle.std.specs.Prelude.{◌≡◌, ◌↔◌, ℕ, ◌<◌, ◌≤◌, ℤ, pos, true, false, is_some, Option, Some, None, List, map, length, slice_get, slice_index_or}
use Rattle.std.specs.List.{range_with_len}
use Rattle.std.specs.Option.{option_map, option_and_then, option_map_or}
use Rattle.nest_syntax.specs.declared.tree.Loop.{Loop}
use Rattle.nest_syntax.specs.declared.tree.Program.{Program}
use Rattle.nest_syntax.specs.Words.{most_turns}
use Rattle.nest_syntax.specs.Value.{scalar_at, with_scalar}
use Rattle.nest_syntax.specs.Shape.{Body, invoked_by, bodies_of}
use Rattle.nest_check.specs.Tables.{scalar_of}
use Rattle.sched_cursor.specs.declared.event.Iteration.{Iteration}
use Rattle.sched_cursor.specs.declared.node.Invocation.{Invocation}
use Rattle.sched_cursor.specs.declared.node.At.{At}
use Rattle.sched_cursor.specs.declared.node.At.TheVariants as at
use Rattle.sched_cursor.specs.Turning.{has_turn}
use Rattle.sched_cursor.specs.Cursor.{Cursor}
use Rattle.sched_cursor.specs.Doings.{Naming, NodesTell}

-- the loop that invokes a body, by the number of the body, none where it is an array statement
abbrev pub loop_of_body : Program → ℕ → Option Loop
loop_of_body program body = option_and_then (λ (b : Body). b.header) (slice_get (invoked_by program) body)

-- the variable of a body's invocation, by the number of the body
abbrev pub variable_of_body : Program → ℕ → Option ℕ
variable_of_body program body = option_and_then (λ (b : Body). option_map (λ (l : Loop). l.name) b.header) (slice_get (invoked_by program) body)

-- the same with the step of the invocation
abbrev pub variable_with_step : Program → ℕ → Option (ℕ × ℕ)
variable_with_step program body = option_and_then (λ (b : Body). option_map (λ (l : Loop). (l.name, l.step)) b.header) (slice_get (invoked_by program) body)

-- the value that the scalars of the scheduler, by their numbers, tell of a name
abbrev pub told_at : Program → List ℤ → ℕ → ℤ
told_at program env name = option_map_or (λ number. slice_index_or env number (pos 0)) (scalar_of program name) (pos 0)

-- one value for each name: that of a scheduler scalar, and 0 at every other name
abbrev pub told : Program → List ℤ → List ℤ
told program env = map (told_at program env) (range_with_len 0 (length program.names))

-- the iteration that is told by what is handed out: its body, and the scalars, with the invocation's variable at its name
abbrev pub what_of : Program → Iteration → ℕ × List ℤ
what_of program i = (i.body, option_map_or (λ name. with_scalar (told program i.env) name i.value) (variable_of_body program i.body) (told program i.env))

-- by their numbers the names of the scheduler's scalars, in 32 places
pub record NumbersNames (program : Program) (names : List (Option ℕ)) : Type 0 where
  pub many : length names ≡ 32
  pub tells : (number name : ℕ) → name < length program.names → (scalar_of program name ≡ Some number) ↔ (slice_index_or names number None ≡ Some name)

abbrev pub naming_of : Program → Naming
naming_of program = record {
  names = length program.names;
  scheduled = λ name. is_some (scalar_of program name);
  bodies = length (bodies_of program);
  variable = variable_with_step program;
}

-- The script, the scalars, the region and the invocation of a cursor agree with the names of a program: a scalar that isn't
-- one of the scheduler's is 0.
pub record InvocationTells (naming : Naming) (i : Invocation) : Type 0 where
  pub variable : naming.variable i.body ≡ option_map (λ name. (name, i.turning.step)) i.name
  pub body : i.body < naming.bodies
  pub turned : i.turning.turn ≤ i.turning.trips
  pub few : i.turning.trips ≤ most_turns
  pub alone : i.name ≡ None → i.turning.trips ≤ 1

abbrev pub AtTells : Naming → At → Type 0
AtTells naming (at.Before next) = Unit {0}
AtTells naming (at.Inside i) = InvocationTells naming i

pub record Tells (naming : Naming) (c : Cursor) : Type 0 where
  pub nodes : NodesTell naming c.nodes
  pub many : length c.scalars ≡ naming.names
  pub others : (name : ℕ) → naming.scheduled name ≡ false → scalar_at c.scalars name ≡ pos 0
  pub region : has_turn c.region.turning ≡ true → naming.scheduled c.region.name ≡ true
  pub at : AtTells naming c.at
