-- The data locals of each body of a program.
use Rattle.std.specs.Prelude.{◌≡◌, ℕ, List, [], length, slice_index_or}
use Rattle.std.specs.List.{flat_map}
use Rattle.nest_syntax.specs.declared.tree.Stmt.{Stmt}
use Rattle.nest_syntax.specs.Arrays.{Array}
use Rattle.nest_syntax.specs.Shape.{items, bodies_in}
use Rattle.data_local.specs.DataLocals.{AreDataLocals}

-- the body with this number; where there is none, an empty one
abbrev pub body_numbered : List (List Stmt) → ℕ → List Stmt
body_numbered bodies number = slice_index_or bodies number []

-- a list of names for each body: that exactly the data locals of the body are in it
pub record AreLocalsByBody (arrays : List Array) (bodies : List (List Stmt)) (lists : List (List ℕ)) : Type 0 where
  pub as_many : length lists ≡ length bodies
  pub each : (number : ℕ) → AreDataLocals arrays (body_numbered bodies number) (slice_index_or lists number [])

-- the bodies that a statement of a region holds, and that statements of a region hold
abbrev pub bodies_in_item : Stmt → List (List Stmt)
bodies_in_item s = bodies_in (items s)

abbrev pub bodies_in_items : List Stmt → List (List Stmt)
bodies_in_items stmts = flat_map bodies_in_item stmts
