-- No caller needs this. The hulls of the tasks of a segment, as a table holds them: a row for each epoch, with a signature
-- for each worker.
use Rattle.std.specs.Prelude.{◌≡◌, ℕ, suc, ◌+◌, ◌-◌, ◌<◌, List, length, slice_get, slice_index_or}
use Rattle.std.specs.Option.{option_map_or}
use Rattle.nest_syntax.specs.Among.{Each}
use Rattle.settle_law.specs.Claims.{Claims}
use Rattle.settle_law.specs.Courses.{Nest}
use Rattle.spec_machine.specs.Machine.{Setup, Epoch, share_of}
use Rattle.spec_machine.specs.Segments.{hull, with_iterations}
use Rattle.nest_profile.specs.declared.row.Row.{Row}

-- all signatures of a row are of arrays of these sizes
abbrev pub IsEven : {G : Type 0} → (G → List ℕ) → List ℕ → Row G → Type 0
IsEven {G} sizes_of sizes row = Each (λ (sign : G). sizes_of sign ≡ sizes) row.signs.items

-- a row is there for each of so many epochs, and in each a signature for each worker
pub record IsTable {G : Type 0} (sizes_of : G → List ℕ) (sizes : List ℕ) (room width : ℕ) (rows : List (Row G)) : Type 0 where
  pub rows_for_each : length rows ≡ room
  pub wide : Each (λ (row : Row G). length row.signs.items ≡ width) rows
  pub even : Each (IsEven sizes_of sizes) rows

abbrev pub sign_in : {G : Type 0} → G → List (Row G) → (epoch worker : ℕ) → G
sign_in blank rows epoch worker = option_map_or (λ (row : Row _). slice_index_or row.signs.items worker blank) (slice_get rows epoch) blank

-- the hull of task (e, u), where epoch e is this one
abbrev pub hull_in : {B C P G : Type 0} → Setup B C P G → (ℕ → Claims) → ℕ → Epoch B → (e u : ℕ) → G
hull_in m claims size x e u = with_iterations m.kind claims size (x.first + share_of m x e u) (x.first + share_of m x e (suc u) - (x.first + share_of m x e u))

-- the rows hold the hulls of the tasks of these epochs
abbrev pub HoldHulls : {B C P G : Type 0} → Setup B C P G → Nest → C → (ℕ → Claims) → ℕ → List (Row G) → List (Epoch B) → Type 0
HoldHulls m nest start claims size rows epochs = (e u : ℕ) → e < length rows → u < m.width → sign_in m.kind.blank rows e u ≡ hull m nest start claims size epochs (record { epoch = e; worker = u })
