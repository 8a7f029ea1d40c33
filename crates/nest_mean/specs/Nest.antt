-- A nest: a program and its opening words.
use Rattle.std.specs.Prelude.{ℕ, ◌^◌, ◌<◌, ◌≤◌, length}
use Rattle.nest_syntax.specs.declared.tree.Program.{Program}
use Rattle.nest_syntax.specs.Course.{bodies_of}
use Rattle.nest_syntax.specs.Named.{IsWellNamed}
use Rattle.nest_check.specs.Kept.{KeepsRules}
use Rattle.word_store.specs.Memory.{Memory, HasLayout}

pub record Nest : Type 0 where
  pub program : Program
  pub opening : Memory

-- the most bodies that a program may have: its iterations are then at most 2^60
abbrev pub most_bodies : ℕ
most_bodies = 4096

-- A program as `check` gives it: it is well named and keeps the rules. A proof that needs the rules unfolds this by its
-- name; otherwise each search over a nest would read all fourteen.
unfoldable pub IsWellFormed : Program → Type 0
IsWellFormed program = IsWellNamed program × KeepsRules program

-- What a run needs of a nest: the program is well formed, the opening words are those of its arrays, and there aren't too
-- many declarations and bodies.
pub record CanRun (nest : Nest) : Type 0 where
  pub formed : IsWellFormed nest.program
  pub sizes : HasLayout nest.opening nest.program.decls
  pub few_decls : length nest.program.decls < 2 ^ 32
  pub few_bodies : length (bodies_of nest.program) ≤ most_bodies
