use Rattle.std.proofs.Common.{sym, ap, ◌∙◌}
use Rattle.std.specs.Option.{option_map}
use Rattle.spec_core.specs.Signatures.{signs}
use Rattle.spec_core.specs.Engine.{Engine, Stand, asked, step}
use Rattle.spec_core.specs.Tables.{state_of}
use Rattle.spec_core.specs.Kept.{engine_of}
use Rattle.spec_core.proofs.Going.{legal_goes_on, kept_step}
use Rattle.spec_core.proofs.Working.{hop_for, hop_steps}
use Rattle.spec_core.proofs.spec.Spec.hop.Goals as goal

pub hop-requires-clause-goes : goal.hop-requires-clause-goes
hop-requires-clause-goes g c = legal_goes_on (signs g.G.Signature.EXACT g.G.Signature.holds g.G.Signature.nothing g.G.Signature.with_note) g.met.G.Signature.holds_what_is_noted _ c.self.invariant.legal

pub hop-requires-clause-calm : goal.hop-requires-clause-calm
hop-requires-clause-calm g c = (hop_for (signs g.G.Signature.EXACT g.G.Signature.holds g.G.Signature.nothing g.G.Signature.with_note) _ c.self.inside.plan c.self.inside.table c.self.invariant c.args.actor c.args.worked.now (ap (λ (e : Engine g.row.G.Denot). asked (signs g.G.Signature.EXACT g.G.Signature.holds g.G.Signature.nothing g.G.Signature.with_note) e c.args.actor) c.self.view_is ∙ c.requires)).calm

pub hop-requires-clause-own : goal.hop-requires-clause-own
hop-requires-clause-own g c = (hop_for (signs g.G.Signature.EXACT g.G.Signature.holds g.G.Signature.nothing g.G.Signature.with_note) _ c.self.inside.plan c.self.inside.table c.self.invariant c.args.actor c.args.worked.now (ap (λ (e : Engine g.row.G.Denot). asked (signs g.G.Signature.EXACT g.G.Signature.holds g.G.Signature.nothing g.G.Signature.with_note) e c.args.actor) c.self.view_is ∙ c.requires)).own

pub hop-requires-clause-stands : goal.hop-requires-clause-stands
hop-requires-clause-stands g c =
    let h = hop_for (signs g.G.Signature.EXACT g.G.Signature.holds g.G.Signature.nothing g.G.Signature.with_note) _ c.self.inside.plan c.self.inside.table c.self.invariant c.args.actor c.args.worked.now (ap (λ (e : Engine g.row.G.Denot). asked (signs g.G.Signature.EXACT g.G.Signature.holds g.G.Signature.nothing g.G.Signature.with_note) e c.args.actor) c.self.view_is ∙ c.requires) in
    (h.number, h.bench_is)

pub invariant_of-self : goal.invariant_of-self
invariant_of-self g c =
    let h = hop_for (signs g.G.Signature.EXACT g.G.Signature.holds g.G.Signature.nothing g.G.Signature.with_note) _ c.self.inside.plan c.self.inside.table c.self.invariant c.args.actor c.args.worked.now (ap (λ (e : Engine g.row.G.Denot). asked (signs g.G.Signature.EXACT g.G.Signature.holds g.G.Signature.nothing g.G.Signature.with_note) e c.args.actor) c.self.view_is ∙ c.requires) in
    kept_step (signs g.G.Signature.EXACT g.G.Signature.holds g.G.Signature.nothing g.G.Signature.with_note) c.self.inside.plan c.self.inside.table c.hop.new.self c.args.actor c.self.invariant
    (hop_steps (signs g.G.Signature.EXACT g.G.Signature.holds g.G.Signature.nothing g.G.Signature.with_note) _ c.self.inside.plan c.self.inside.table c.self.invariant c.args.actor c.args.worked.now h (state_of c.hop.new.self) (c.hop.ensures.state h.number h.bench_is)) c.hop.ensures.sound

pub returns : goal.returns
returns g c =
    let h = hop_for (signs g.G.Signature.EXACT g.G.Signature.holds g.G.Signature.nothing g.G.Signature.with_note) _ c.self.inside.plan c.self.inside.table c.self.invariant c.args.actor c.args.worked.now (ap (λ (e : Engine g.row.G.Denot). asked (signs g.G.Signature.EXACT g.G.Signature.holds g.G.Signature.nothing g.G.Signature.with_note) e c.args.actor) c.self.view_is ∙ c.requires) in
    ap (λ (e : Engine g.row.G.Denot). step (signs g.G.Signature.EXACT g.G.Signature.holds g.G.Signature.nothing g.G.Signature.with_note) e c.args.actor) (sym c.self.view_is)
    ∙ ap (λ o. option_map (λ (s : Stand g.row.G.Denot). let f : Engine g.row.G.Denot = record (engine_of c.self.inside.plan c.self.inside.table) { state = s } in f) o)
    (hop_steps (signs g.G.Signature.EXACT g.G.Signature.holds g.G.Signature.nothing g.G.Signature.with_note) _ c.self.inside.plan c.self.inside.table c.self.invariant c.args.actor c.args.worked.now h (state_of c.hop.new.self) (c.hop.ensures.state h.number h.bench_is))
