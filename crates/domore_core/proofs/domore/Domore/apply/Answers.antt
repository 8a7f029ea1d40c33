use Rattle.std.proofs.Common.{sym, ap, ◌∙◌}
use Rattle.std.specs.Option.{option_map}
use Rattle.domore_core.specs.Moves.{told}
use Rattle.domore_core.specs.Engine.{Engine, Stand, move_of, step}
use Rattle.domore_core.specs.Tables.{engine_of}
use Rattle.domore_core.proofs.Going.{goes_on, kept_step}
use Rattle.domore_core.proofs.domore.Domore.apply.Goals as goal

pub apply-requires-clause-goes : goal.apply-requires-clause-goes
apply-requires-clause-goes c = goes_on _ c.self.invariant.legal

pub apply-requires-clause-enabled : goal.apply-requires-clause-enabled
apply-requires-clause-enabled c = ap (λ (e : Engine). option_map told (move_of e c.args.actor)) c.self.view_is ∙ c.requires

pub invariant_of-self : goal.invariant_of-self
invariant_of-self c = kept_step c.self.inside.plan c.self.inside.table c.apply.new.self c.args.actor c.self.invariant c.apply.ensures.state c.apply.ensures.sound

pub returns : goal.returns
returns c =
    ap (λ (e : Engine). step e c.args.actor) (sym c.self.view_is)
    ∙ ap (λ o. option_map (λ (s : Stand). let g : Engine = record (engine_of c.self.inside.plan c.self.inside.table) { state = s } in g) o) c.apply.ensures.state
