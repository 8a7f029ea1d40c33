-- Five rules on names: of each, the occurrences that break it, and the lines of these in the order of the text.
use Rattle.std.specs.Prelude.{Bool, true, false, List}
use Rattle.nest_syntax.specs.declared.names.Line.{Line}
use Rattle.nest_syntax.specs.declared.tree.Program.{Program}
use Rattle.nest_syntax.specs.Lowest.{lines_where}
use Rattle.nest_scope.specs.declared.occurrences.Binding.{Binding}
use Rattle.nest_scope.specs.declared.occurrences.Binding.TheVariants as binding
use Rattle.nest_scope.specs.declared.occurrences.Level.{Level}
use Rattle.nest_scope.specs.declared.occurrences.Level.TheVariants as level
use Rattle.nest_scope.specs.declared.occurrences.Action.{Action}
use Rattle.nest_scope.specs.declared.occurrences.Action.TheVariants as action
use Rattle.nest_scope.specs.declared.occurrences.Occurrence.{Occurrence}
use Rattle.nest_scope.specs.Occurrences.{occurrences_of}

-- whether a name is declared while a declaration of it is in scope
abbrev pub is_redeclared : Action → Binding → Bool
is_redeclared action.Declared binding.Unbound = false
is_redeclared action.Declared to = true
is_redeclared does to = false

-- whether a binding isn't that of a scalar, and whether it isn't that of an array: both hold of `Unbound`
abbrev pub is_no_scalar : Binding → Bool
is_no_scalar binding.Unbound = true
is_no_scalar binding.Array = true
is_no_scalar binding.ConstArray = true
is_no_scalar to = false

abbrev pub is_no_array : Binding → Bool
is_no_array binding.Array = false
is_no_array binding.ConstArray = false
is_no_array to = true

-- whether a used name isn't in scope, or is no array where it has a subscript, or no scalar where it has none
abbrev pub is_unknown : Action → Binding → Bool
is_unknown action.Declared to = false
is_unknown action.ScalarRead to = is_no_scalar to
is_unknown action.Assigned to = is_no_scalar to
is_unknown action.WordRead to = is_no_array to
is_unknown action.WordWritten to = is_no_array to

-- whether a word of a `const` array is written
abbrev pub is_const_written : Action → Binding → Bool
is_const_written action.WordWritten binding.ConstArray = true
is_const_written does to = false

-- whether the variable of a loop is assigned in that loop
abbrev pub is_loop_variable_assigned : Action → Binding → Bool
is_loop_variable_assigned action.Assigned binding.RegionVariable = true
is_loop_variable_assigned action.Assigned binding.LoopVariable = true
is_loop_variable_assigned does to = false

-- whether a body assigns a scalar of the scheduler, the variable of a region among them
abbrev pub is_scheduler_scalar_assigned : Level → Action → Binding → Bool
is_scheduler_scalar_assigned level.Body action.Assigned binding.SchedulerScalar = true
is_scheduler_scalar_assigned level.Body action.Assigned binding.RegionVariable = true
is_scheduler_scalar_assigned at does to = false

-- the line of an occurrence
abbrev pub line_of : Occurrence → Line
line_of o = o.line

-- whether an occurrence breaks a rule, for each of the five
abbrev pub redeclares : Occurrence → Bool
redeclares o = is_redeclared o.action o.binding

abbrev pub uses_unknown : Occurrence → Bool
uses_unknown o = is_unknown o.action o.binding

abbrev pub writes_const : Occurrence → Bool
writes_const o = is_const_written o.action o.binding

abbrev pub assigns_loop_variable : Occurrence → Bool
assigns_loop_variable o = is_loop_variable_assigned o.action o.binding

abbrev pub assigns_scheduler_scalar : Occurrence → Bool
assigns_scheduler_scalar o = is_scheduler_scalar_assigned o.level o.action o.binding

-- for each of the five rules, the lines that break it, in the order of the text
abbrev pub lines_redeclared : Program → List Line
lines_redeclared program = lines_where line_of redeclares (occurrences_of program)

abbrev pub lines_unknown : Program → List Line
lines_unknown program = lines_where line_of uses_unknown (occurrences_of program)

abbrev pub lines_const_written : Program → List Line
lines_const_written program = lines_where line_of writes_const (occurrences_of program)

abbrev pub lines_loop_variable_assigned : Program → List Line
lines_loop_variable_assigned program = lines_where line_of assigns_loop_variable (occurrences_of program)

abbrev pub lines_scheduler_scalar_assigned : Program → List Line
lines_scheduler_scalar_assigned program = lines_where line_of assigns_scheduler_scalar (occurrences_of program)
