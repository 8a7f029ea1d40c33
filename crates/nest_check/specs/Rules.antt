-- Rules of the checker. Each is the list of the lines that break it; the program keeps it where that list is empty.
use Rattle.std.specs.Prelude.{ℕ, ◌+◌, Bool, false, ◌||◌, if◌then◌else◌, nat_lt, ◌==◌, List, [], ◌∷◌, ◌++◌, map, take, drop, length}
use Rattle.std.specs.Option.{option_map_or}
use Rattle.nest_syntax.specs.declared.names.Line.{Line}
use Rattle.nest_syntax.specs.declared.tree.Decl.{Decl}
use Rattle.nest_syntax.specs.declared.tree.Decl.TheVariants as decl
use Rattle.nest_syntax.specs.declared.tree.Loop.{Loop}
use Rattle.nest_syntax.specs.declared.tree.Program.{Program}
use Rattle.nest_syntax.specs.Lowest.{lines_where}
use Rattle.data_local.specs.Loops.{line_of}
use Rattle.nest_syntax.specs.Shape.{Declaration, Body, items_of, declarations_in, invoked_by}
use Rattle.nest_check.specs.Declarations.{first_of_each, lines_of}
use Rattle.nest_check.specs.Entries.{statements_of, scheduler_scalars}
use Rattle.nest_check.specs.Parts.{Part, ALoop, AnExpression, depth, all_at, parts_in_loop}

-- the first behind so many lines, where there are more
abbrev pub first_behind : ℕ → List Line → List Line
first_behind many lines = take 1 (drop many lines)

abbrev pub array_lines : List Decl → List Line
array_lines [] = []
array_lines (decl.Array line name length fixed ∷ decls) = line ∷ array_lines decls
array_lines (decl.Scalar line name value ∷ decls) = array_lines decls

abbrev pub region_lines : List Loop → List Line
region_lines regions = map line_of regions

-- There are at most 64 arrays and at most 64 regions: broken by the 65th of each.
abbrev pub beyond_64 : Program → List Line
beyond_64 program = first_behind 64 (array_lines program.decls) ++ first_behind 64 (region_lines program.regions)

-- the most words of all arrays
abbrev pub most_words : ℕ
most_words = 1048576

-- whether a number is outside 1 to a bound
abbrev pub is_outside : ℕ → ℕ → Bool
is_outside most n = n == 0 || nat_lt most n

abbrev pub lengths_outside : List Decl → List Line
lengths_outside [] = []
lengths_outside (decl.Array line name length fixed ∷ decls) = if is_outside most_words length then line ∷ lengths_outside decls else lengths_outside decls
lengths_outside (decl.Scalar line name value ∷ decls) = lengths_outside decls

-- the first declaration with which the sum of the lengths passes the bound, from the sum of those before
abbrev pub sum_passes : ℕ → List Decl → List Line
sum_passes sum [] = []
sum_passes sum (decl.Array line name length fixed ∷ decls) = if nat_lt most_words (sum + length) then line ∷ [] else sum_passes (sum + length) decls
sum_passes sum (decl.Scalar line name value ∷ decls) = sum_passes sum decls

-- Each length is 1 to 1,048,576, and so is their sum.
abbrev pub wrong_lengths : Program → List Line
wrong_lengths program = lengths_outside program.decls ++ sum_passes 0 program.decls

-- the line of a part
abbrev pub part_line : Part → Line
part_line (ALoop line step at) = line
part_line (AnExpression line e) = line

-- the loops and expressions of a program, whose regions are loops at depth 1
abbrev pub parts_of : Program → List Part
parts_of program = all_at (map parts_in_loop program.regions) 1

abbrev pub has_wrong_step : Part → Bool
has_wrong_step (ALoop line step at) = is_outside 65536 step
has_wrong_step (AnExpression line e) = false

-- A step is 1 to 65,536.
abbrev pub wrong_steps : Program → List Line
wrong_steps program = lines_where part_line has_wrong_step (parts_of program)

abbrev pub is_deep_loop : Part → Bool
is_deep_loop (ALoop line step at) = nat_lt 4 at
is_deep_loop (AnExpression line e) = false

-- Loops stand at depth 1 to 4.
abbrev pub deep_loops : Program → List Line
deep_loops program = lines_where part_line is_deep_loop (parts_of program)

abbrev pub has_many_items : Loop → Bool
has_many_items region = nat_lt 64 (length (items_of region.body))

-- A region has at most 64 items, an `if` and its inner items counted each.
abbrev pub large_regions : Program → List Line
large_regions program = lines_where line_of has_many_items program.regions

-- the variable of the loop that invokes a body, where one does
abbrev pub variable_of : Body → List Declaration
variable_of body = option_map_or (λ (l : Loop). (l.name, l.line) ∷ []) body.header []

-- the locals of a body, the variable of its loop among them: the first declaration of each name
abbrev pub locals_of : Body → List Declaration
locals_of body = first_of_each (variable_of body ++ declarations_in (statements_of body.stmts))

abbrev pub is_large_body : Body → Bool
is_large_body body = nat_lt 1024 (length (statements_of body.stmts)) || nat_lt 16 (length (locals_of body))

abbrev pub line_of_body : Body → Line
line_of_body body = body.line

-- A body has at most 1,024 statements and at most 16 names of locals.
abbrev pub large_bodies : Program → List Line
large_bodies program = lines_where line_of_body is_large_body (invoked_by program)

abbrev pub is_deep : Part → Bool
is_deep (ALoop line step at) = false
is_deep (AnExpression line e) = nat_lt 16 (depth e)

-- An expression has depth at most 16, and a program has at most 32 names of scheduler scalars.
abbrev pub deep_expressions : Program → List Line
deep_expressions program = lines_where part_line is_deep (parts_of program) ++ first_behind 32 (lines_of (first_of_each (scheduler_scalars program)))
