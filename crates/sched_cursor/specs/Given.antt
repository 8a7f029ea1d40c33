-- Scalars that are given the values of the scheduler's scalars in the next iteration.
use Rattle.std.specs.Prelude.{◌≡◌, ℕ, ℤ, true, Option, Some, List, [], ◌∷◌, length}
use Rattle.std.specs.Option.{option_map_or}
use Rattle.nest_syntax.specs.declared.tree.Loop.{Loop}
use Rattle.nest_syntax.specs.declared.tree.Program.{Program}
use Rattle.nest_syntax.specs.Value.{scalar_at, with_scalar}
use Rattle.nest_check.specs.Tables.{scalar_of}
use Rattle.sched_cursor.specs.declared.node.At.{At}
use Rattle.sched_cursor.specs.declared.node.At.TheVariants as at
use Rattle.sched_cursor.specs.Turning.{variable_of}
use Rattle.sched_cursor.specs.Cursor.{Cursor}
use Rattle.sched_cursor.specs.Events.{is_iterating, value_of, handed_at}
use Rattle.sched_cursor.specs.Handed.{what_of, loop_of_body}
use Rattle.sched_cursor.specs.Laws.{IsCursorOf}

-- a value is given to a name's scalar, where there is a name
abbrev pub with_given : List ℤ → Option ℕ → ℤ → List ℤ
with_given scalars name value = option_map_or (λ n. with_scalar scalars n value) name scalars

-- the scalars with these names are given the values that they have among others
abbrev pub given_named : List ℤ → List (Option ℕ) → List ℤ → List ℤ
given_named others [] scalars = scalars
given_named others (name ∷ names) scalars = given_named others names (with_given scalars name (value_of others name))

-- the scheduler's scalars, and the variable of the invocation that was entered, are given their values in the next iteration
abbrev pub given_at : Cursor → At → List ℤ → List ℤ
given_at c (at.Before next) scalars = given_named c.scalars c.names scalars
given_at c (at.Inside i) scalars = with_given (given_named c.scalars c.names scalars) i.name (variable_of i.turning)

-- Two lists of scalars agree on the scheduler's scalars and on the variable of the loop that invokes a body.
pub record AgreeOn (program : Program) (body : ℕ) (some others : List ℤ) : Type 0 where
  pub as_many : length some ≡ length others
  pub scheduled : (name number : ℕ) → scalar_of program name ≡ Some number → scalar_at some name ≡ scalar_at others name
  pub variable : (l : Loop) → loop_of_body program body ≡ Some l → scalar_at some l.name ≡ scalar_at others l.name

-- Of a cursor of a program: scalars that are so given, whatever they were, agree with those that the iteration is told with.
abbrev pub GivenAgree : Type 0
GivenAgree = (program : Program) (c : Cursor) (scalars : List ℤ) → IsCursorOf program c → is_iterating c.at ≡ true → length scalars ≡ length program.names
    → AgreeOn program (handed_at c c.at).body (given_at c c.at scalars) (what_of program (handed_at c c.at)).1
