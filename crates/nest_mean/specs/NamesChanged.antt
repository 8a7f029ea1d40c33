-- The names that a body changes: its locals, and the names that it assigns. In a checked program it assigns locals alone.
use Rattle.std.specs.Prelude.{◌≡◌, ℕ, ℤ, true, false, List, length}
use Rattle.nest_syntax.specs.declared.tree.Arm.{Arm}
use Rattle.nest_syntax.specs.declared.tree.Loop.{Loop}
use Rattle.nest_syntax.specs.declared.tree.Stmt.{Stmt}
use Rattle.nest_syntax.specs.Among.{is_among}
use Rattle.nest_syntax.specs.Locals.{given, given_in_arm, given_in_loop, names_given}
use Rattle.nest_syntax.specs.Value.{scalar_at}

abbrev pub changed : Stmt → List ℕ
changed = given true

abbrev pub changed_in_arm : Arm → List ℕ
changed_in_arm = given_in_arm true

abbrev pub changed_in_loop : Loop → List ℕ
changed_in_loop = given_in_loop true

-- the names that a body changes, in the order of its text, as often as they stand there
abbrev pub names_changed : List Stmt → List ℕ
names_changed = names_given true

-- no scalar but those of these names has changed
pub record KeepsOthers (names : List ℕ) (old new : List ℤ) : Type 0 where
  pub many : length new ≡ length old
  pub others : (name : ℕ) → is_among names name ≡ false → scalar_at new name ≡ scalar_at old name
