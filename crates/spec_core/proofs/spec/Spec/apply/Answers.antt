use Rattle.std.proofs.Common.{sym, ap, ◌∙◌}
use Rattle.std.specs.Option.{option_map}
use Rattle.spec_core.specs.Signatures.{signs}
use Rattle.spec_core.specs.Engine.{Engine, Stand, told_of, step}
use Rattle.spec_core.specs.Kept.{engine_of}
use Rattle.spec_core.proofs.Going.{legal_goes_on, kept_step}
use Rattle.spec_core.proofs.spec.Spec.apply.Goals as goal

pub apply-requires-clause-goes : goal.apply-requires-clause-goes
apply-requires-clause-goes g c = legal_goes_on (signs g.G.Signature.EXACT g.G.Signature.holds g.G.Signature.nothing g.G.Signature.with_note) g.met.G.Signature.holds_what_is_noted _ c.self.invariant.legal

pub apply-requires-clause-enabled : goal.apply-requires-clause-enabled
apply-requires-clause-enabled g c = ap (λ (e : Engine g.row.G.Denot). told_of (signs g.G.Signature.EXACT g.G.Signature.holds g.G.Signature.nothing g.G.Signature.with_note) e c.args.actor) c.self.view_is ∙ c.requires

pub invariant_of-self : goal.invariant_of-self
invariant_of-self g c = kept_step (signs g.G.Signature.EXACT g.G.Signature.holds g.G.Signature.nothing g.G.Signature.with_note) c.self.inside.plan c.self.inside.table c.apply.new.self c.args.actor c.self.invariant c.apply.ensures.state c.apply.ensures.sound

pub returns : goal.returns
returns g c =
    ap (λ (e : Engine g.row.G.Denot). step (signs g.G.Signature.EXACT g.G.Signature.holds g.G.Signature.nothing g.G.Signature.with_note) e c.args.actor) (sym c.self.view_is)
    ∙ ap (λ o. option_map (λ (s : Stand g.row.G.Denot). let f : Engine g.row.G.Denot = record (engine_of c.self.inside.plan c.self.inside.table) { state = s } in f) o) c.apply.ensures.state
