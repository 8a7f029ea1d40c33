-- What a name is that a body uses as a scalar.
use Rattle.std.specs.Prelude.{◌≡◌, ℕ, Bool, true, false, ◌==◌, if◌then◌else◌, Option, List, []}
use Rattle.std.specs.List.{list_any}
use Rattle.std.specs.Option.{option_map_or}
use Rattle.nest_syntax.specs.declared.tree.Loop.{Loop}
use Rattle.nest_syntax.specs.declared.tree.Stmt.{Stmt}
use Rattle.nest_syntax.specs.declared.tree.Program.{Program}
use Rattle.nest_syntax.specs.Among.{Each, is_among}
use Rattle.nest_syntax.specs.Shape.{bodies_of}
use Rattle.nest_syntax.specs.Locals.{names_given, locals_of}
use Rattle.nest_scope.specs.declared.occurrences.Binding.{Binding}
use Rattle.nest_scope.specs.declared.occurrences.Binding.TheVariants as binding
use Rattle.nest_scope.specs.declared.occurrences.Level.{Level}
use Rattle.nest_scope.specs.declared.occurrences.Occurrence.{Occurrence}
use Rattle.nest_scope.specs.Occurrences.{Scope, bound, in_block}
use Rattle.nest_scope.specs.Rules.{redeclares, uses_unknown, is_no_scalar, lines_redeclared, lines_unknown, lines_loop_variable_assigned, lines_scheduler_scalar_assigned}
use Rattle.nest_scope.specs.Entered.{Entered, entered_of, is_schedulers}
use Rattle.body_names.specs.Uses.{names_used}

-- no occurrence declares a name that is in scope, and none uses a name that isn't
pub record KeepsNames (occurrences : List Occurrence) : Type 0 where
  pub once : list_any redeclares occurrences ≡ false
  pub known : list_any uses_unknown occurrences ≡ false

-- A name in a body that begins in this scope: a local of the body is bound to nothing outside, so each use of it is of
-- the local; any other name that it uses as a scalar is bound to a scalar outside, and stays bound to that.
pub record IsLocalOrOutside (body : List Stmt) (scope : Scope) (name : ℕ) : Type 0 where
  pub local : is_among (locals_of body) name ≡ true → bound scope name ≡ binding.Unbound
  pub outside : is_among (locals_of body) name ≡ false → is_among (names_used body) name ≡ true → is_no_scalar (bound scope name) ≡ false

-- Each name is so in each body whose occurrences keep the rules on names.
abbrev pub NamesAreLocalOrOutside : Type 0
NamesAreLocalOrOutside = (body : List Stmt) (at : Level) (scope : Scope) → KeepsNames (in_block body at scope) → (name : ℕ) → IsLocalOrOutside body scope name

abbrev pub is_variable : Binding → Bool
is_variable binding.LoopVariable = true
is_variable to = false

-- Whether a name that is bound to this where a body is entered is a scalar from outside: the variable of the loop that
-- invokes the body or, under any other name, a scalar of the scheduler. A local is neither.
abbrev pub is_from_outside : Option Loop → ℕ → Binding → Bool
is_from_outside header name to = option_map_or (λ (l : Loop). if name == l.name then is_variable to else is_schedulers to) header (is_schedulers to)

-- A name in a body of a program, from the scope in which the body is entered: a local of the body is bound to nothing
-- there, and any other name that it uses as a scalar is one from outside.
pub record IsLocalOrFromOutside (e : Entered) (name : ℕ) : Type 0 where
  pub local : is_among (locals_of e.body.stmts) name ≡ true → bound e.scope name ≡ binding.Unbound
  pub outside : is_among (locals_of e.body.stmts) name ≡ false → is_among (names_used e.body.stmts) name ≡ true → is_from_outside e.body.header name (bound e.scope name) ≡ true

abbrev pub HasNamesFromOutside : Entered → Type 0
HasNamesFromOutside e = (name : ℕ) → IsLocalOrFromOutside e name

-- Where a program declares no name in the scope of another of the same name, and uses only names that are in scope, each
-- name is so in each of its bodies.
abbrev pub ProgramsNameLocalsOrOutside : Type 0
ProgramsNameLocalsOrOutside = (program : Program) → lines_redeclared program ≡ [] → lines_unknown program ≡ [] → Each HasNamesFromOutside (entered_of program)

-- Each name that a body assigns is a local of it, as those are that it declares and the variables of its loops.
abbrev pub AssignsLocals : List Stmt → Type 0
AssignsLocals body = (name : ℕ) → is_among (locals_of body) name ≡ false → is_among (names_given true body) name ≡ false

-- Where a program uses only names that are in scope, assigns no loop's variable in its loop, and no scalar of the
-- scheduler in a body, each of its bodies assigns locals alone.
abbrev pub BodiesAssignLocals : Type 0
BodiesAssignLocals = (program : Program) → lines_unknown program ≡ [] → lines_loop_variable_assigned program ≡ [] → lines_scheduler_scalar_assigned program ≡ [] → Each AssignsLocals (bodies_of program)
