-- The bodies of a program as they are compiled: how they are found, and their locals in order.
use Rattle.std.specs.Prelude.{◌≡◌, ◌≤◌, ℕ, if◌then◌else◌, is_some, Option, Some, None, IsTrue, List, [], ◌∷◌, ◌++◌, length}
use Rattle.std.specs.Option.{option_map, option_map_or}
use Rattle.nest_syntax.specs.declared.tree.Loop.{Loop}
use Rattle.nest_syntax.specs.declared.tree.Program.{Program}
use Rattle.nest_syntax.specs.Shape.{Body, Entry, Plain, Declares, Invokes}
use Rattle.nest_check.specs.Declarations.{names_of, index_of_name}
use Rattle.nest_check.specs.Rules.{locals_of}
use Rattle.task_code.specs.declared.bodies.Body.{Body as Found}

-- a body that was found in the tree
abbrev pub told : Found → Body
told b = record { line = b.line; header = option_map (λ l. l.now) b.header; stmts = b.stmts.now }

-- one item more: a body that it invokes
abbrev pub with_invoked : List Body → Entry → List Body
with_invoked found Plain = found
with_invoked found (Declares d) = found
with_invoked found (Invokes b) = found ++ b ∷ []

-- the names of the locals of a body, in the order of their registers
abbrev pub layout_of : Body → List ℕ
layout_of body = names_of (locals_of body)

-- one name more, where it is new
abbrev pub with_name : List ℕ → ℕ → List ℕ
with_name names name = if is_some (index_of_name names name) then names else names ++ name ∷ []

abbrev pub with_variable : Option Loop → List ℕ → List ℕ
with_variable header names = option_map_or (λ (l : Loop). with_name names l.name) header names

abbrev pub with_entry : List ℕ → Entry → List ℕ
with_entry names Plain = names
with_entry names (Declares d) = with_name names d.0
with_entry names (Invokes b) = names

-- the local that is the variable of a body's invocation: the first, where there is an invocation
abbrev pub slot_of : Option Loop → Option ℕ
slot_of header = option_map (λ (l : Loop). 0) header
