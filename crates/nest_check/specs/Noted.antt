-- No caller of `check` needs this. What the walks over a program note, part by part and entry by entry, and what is
-- made of it.
use Rattle.std.specs.Prelude.{ℕ, ◌-◌, min, ◌==◌, if◌then◌else◌, nat_lt, Option, Some, None, List, [], ◌∷◌, length}
use Rattle.nest_syntax.specs.declared.names.Line.{Line}
use Rattle.nest_syntax.specs.declared.tree.Loop.{Loop}
use Rattle.nest_syntax.specs.Lowest.{lower_if}
use Rattle.nest_check.specs.declared.parts.Breaches.{Breaches}
use Rattle.nest_check.specs.declared.entries.Tally.{Tally}
use Rattle.nest_check.specs.declared.items.Sizes.{Sizes}
use Rattle.nest_check.specs.Through.{through}
use Rattle.nest_syntax.specs.Shape.{Declaration, Entry, Plain, Declares, Invokes, items_of}
use Rattle.nest_check.specs.Declarations.{with_declaration}
use Rattle.nest_check.specs.Parts.{Part}
use Rattle.nest_check.specs.Rules.{part_line, has_wrong_step, is_deep_loop, is_deep, is_large_body}

-- the lowest lines so far, and one part more
abbrev pub noted : Breaches → Part → Breaches
noted found part = record {
  steps = lower_if (has_wrong_step part) found.steps (part_line part);
  levels = lower_if (is_deep_loop part) found.levels (part_line part);
  depths = lower_if (is_deep part) found.depths (part_line part);
}

-- a depth as it is counted: a number of 32 bits that stops at the greatest
abbrev pub counted_depth : ℕ → ℕ
counted_depth at = min at 4294967295

-- declarations that are kept up to a number of names
abbrev pub added : ℕ → List Declaration → Declaration → List Declaration
added most found d = if nat_lt (length found) most then with_declaration found d else found

-- one entry more: less room
abbrev pub counted : Tally → Tally
counted tally = record { room = tally.room - 1; names = tally.names }

-- one entry more, and perhaps a name
abbrev pub entered : ℕ → Tally → Entry → Tally
entered most tally Plain = counted tally
entered most tally (Declares d) = record { room = tally.room - 1; names = added most tally.names d }
entered most tally (Invokes b) = counted tally

abbrev pub body_noted : Option Line → Entry → Option Line
body_noted found Plain = found
body_noted found (Declares d) = found
body_noted found (Invokes b) = lower_if (is_large_body b) found b.line

-- one item more
abbrev pub passed : Sizes → Entry → Sizes
passed sizes entry = record {
  tally = entered 33 sizes.tally entry;
  bodies = body_noted sizes.bodies entry;
  regions = sizes.regions;
}

-- a region as it begins: its variable is declared, and there is room for one item more than is allowed
abbrev pub region_begun : Sizes → Loop → Sizes
region_begun sizes region = record {
  tally = record { room = 65; names = added 33 sizes.tally.names (region.name, region.line) };
  bodies = sizes.bodies;
  regions = sizes.regions;
}

-- a region as it ends
abbrev pub region_ended : Sizes → Loop → Sizes
region_ended sizes region = record {
  tally = sizes.tally;
  bodies = sizes.bodies;
  regions = lower_if (sizes.tally.room == 0) sizes.regions region.line;
}

abbrev pub region_passed : Sizes → Loop → Sizes
region_passed sizes region = region_ended (through passed (region_begun sizes region) (items_of region.body)) region

-- a rule by its number, with the lowest line that breaks it, none where it is kept
abbrev pub Judged : Type 0
Judged = ℕ × Option Line

-- the first rule of a list that is broken
abbrev pub first_broken : List Judged → Option (ℕ × Line)
first_broken [] = None
first_broken ((rule, None) ∷ rules) = first_broken rules
first_broken ((rule, Some line) ∷ rules) = Some (rule, line)
