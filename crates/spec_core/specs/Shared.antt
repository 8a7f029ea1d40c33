-- Of the bodies of a program, in their order, whether the turns of their invocations are shared out.
use Rattle.std.specs.Prelude.{Bool, true, List, map}
use Rattle.std.specs.Option.{option_map_or}
use Rattle.nest_syntax.specs.declared.tree.Loop.{Loop}
use Rattle.nest_syntax.specs.declared.tree.Program.{Program}
use Rattle.nest_syntax.specs.Shape.{Body, invoked_by}
use Rattle.dep_graph.specs.Kinds.{kind_of}
use Rattle.spec_setup.specs.Setups.{is_all}

abbrev pub is_shared : Program → Body → Bool
is_shared program body = option_map_or (λ (l : Loop). is_all (kind_of program l)) body.header true

abbrev pub shared_in : Program → List Bool
shared_in program = map (is_shared program) (invoked_by program)
