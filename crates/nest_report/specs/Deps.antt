-- The text of `deps`: a line for each loop that invokes a body, in textual order.
use Rattle.std.specs.Prelude.{ℕ, Bool, true, false, Option, Some, None, List, [], ◌∷◌, ◌++◌, codes, decimal, slice_index_or}
use Rattle.std.specs.List.{flat_map}
use Rattle.nest_syntax.specs.declared.tree.Loop.{Loop}
use Rattle.nest_syntax.specs.declared.tree.Stmt.{Stmt}
use Rattle.nest_syntax.specs.declared.tree.Program.{Program}
use Rattle.nest_syntax.specs.Shape.{Body, items, invoked_in, invoked_by}
use Rattle.dep_graph.specs.declared.accesses.AccessAt.{AccessAt}
use Rattle.dep_graph.specs.declared.kinds.LoopKind.{LoopKind}
use Rattle.dep_graph.specs.declared.kinds.LoopKind.TheVariants as kind
use Rattle.dep_graph.specs.Kinds.{kind_of}

abbrev pub write_text : Bool → List ℕ
write_text true = codes " write"
write_text false = codes " read"

-- ` write line L` or ` read line L`
abbrev pub access_text : AccessAt → List ℕ
access_text at = write_text at.write ++ codes " line " ++ decimal at.line.0

-- ` doall`, or ` plain ARRAY` and two accesses to it
abbrev pub kind_text : List (List ℕ) → LoopKind → List ℕ
kind_text names kind.DoAll = codes " doall"
kind_text names (kind.Plain first second) = codes " plain " ++ slice_index_or names first.array [] ++ access_text first ++ access_text second

-- `loop line L`, and the kind of the loop
abbrev pub loop_line : Program → Loop → List ℕ
loop_line program nest = codes "loop line " ++ decimal nest.line.0 ++ kind_text program.names (kind_of program nest) ++ 10 ∷ []

-- an array statement among the items is a body without a loop, and has no line
abbrev pub header_line : Program → Option Loop → List ℕ
header_line program None = []
header_line program (Some nest) = loop_line program nest

abbrev pub body_line : Program → Body → List ℕ
body_line program body = header_line program body.header

abbrev pub deps_text : Program → List ℕ
deps_text program = flat_map (body_line program) (invoked_by program)

-- No caller needs these: the lines of a statement of a region, and of a region.
abbrev pub item_lines : Program → Stmt → List ℕ
item_lines program s = flat_map (body_line program) (invoked_in (items s))

abbrev pub region_lines : Program → Loop → List ℕ
region_lines program region = flat_map (item_lines program) region.body
