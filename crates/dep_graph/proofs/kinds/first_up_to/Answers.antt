use Rattle.std.proofs.Common.{ap, ◌∙◌}
use Rattle.std.specs.Option.{option_map}
use Rattle.dep_graph.specs.declared.accesses.Access.{Access}
use Rattle.dep_graph.specs.Kinds.{may_depend, first_where}
use Rattle.dep_graph.proofs.Firsts.{writes_enough}
use Rattle.dep_graph.proofs.kinds.first_up_to.Goals as goal

pub returns-else-second : goal.returns-else-second
returns-else-second c =
    c.first_of_writes.ensures
    ∙ ap (λ l. option_map (λ (a : Access). a.at) (first_where (may_depend c.args.step c.args.second.now) l)) (c.requires.writes c.if-second.false)
    ∙ ap (option_map (λ (a : Access). a.at)) (writes_enough c.args.step c.args.second.now c.if-second.false c.args.accesses.now)
