use Rattle.std.proofs.Common.{arith, ap, ◌∙◌}
use Rattle.spec_core.specs.Engine.{Engine, number_by}
use Rattle.spec_core.proofs.Working.{number_there}
use Rattle.spec_core.proofs.spec.Spec.number.Goals as goal

pub returns-then-actor-self : goal.returns-then-actor-self
returns-then-actor-self g c =
    number_there c.self.inside.plan c.self.inside.table c.args.actor c.from.result c.self.invariant.sound.seats (omega (arith, c.if-actor-self.true)) (c.from.ensures ∙ c.done.ensures)
    ∙ ap (λ (e : Engine g.row.G.Denot). number_by e.state e.options.workers c.args.actor) c.self.view_is
