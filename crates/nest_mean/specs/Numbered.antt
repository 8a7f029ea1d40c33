-- No caller of `run_plain` needs this. The bodies of a program by their numbers. They depend neither on its arrays nor
-- on its words.
use Rattle.std.specs.Prelude.{ℕ, zero, suc, Result, Ok, Err, List, [], ◌∷◌}
use Rattle.std.specs.List.{flat_map}
use Rattle.nest_syntax.specs.declared.tree.Arm.{Arm}
use Rattle.nest_syntax.specs.declared.tree.Loop.{Loop}
use Rattle.nest_syntax.specs.declared.tree.Stmt.{Stmt}
use Rattle.nest_syntax.specs.Course.{Setting, item_of, region_of, tested_of}

-- no arrays and no words
abbrev pub bare : Setting
bare = record { arrays = []; words = [] }

-- what stands at a number of a list, or what is left of the number behind the list
abbrev pub at_number : {A : Type 0} → List A → ℕ → Result A ℕ
at_number [] number = Err number
at_number (x ∷ xs) zero = Ok x
at_number (x ∷ xs) (suc number) = at_number xs number

abbrev pub bodies_in_item : Stmt → List (List Stmt)
bodies_in_item item = (item_of bare item).bodies

abbrev pub bodies_in_items : List Stmt → List (List Stmt)
bodies_in_items items = flat_map bodies_in_item items

abbrev pub bodies_in_arm : Arm → List (List Stmt)
bodies_in_arm arm = (tested_of bare arm).bodies

abbrev pub bodies_in_region : Loop → List (List Stmt)
bodies_in_region region = (region_of bare region).bodies
