use Rattle.std.proofs.Common.{◌≡◌, Some, sym, ap, ◌∙◌}
use Rattle.progress_board.specs.declared.actors.Ask.TheVariants.{Ready}
use Rattle.progress_board.specs.declared.actors.Work.TheVariants as work
use Rattle.spec_core.specs.Signatures.{signs}
use Rattle.spec_core.specs.Engine.{Engine, told_of, asked}
use Rattle.spec_core.proofs.Working.{hops, asks_hop}
use Rattle.spec_core.proofs.spec.Spec.is_asked_for.Goals as goal

pub returns-in-Some-Hop : goal.returns-in-Some-Hop
returns-in-Some-Hop g c =
    let u = c.args.actor in
    let is = ap (λ (e : Engine g.row.G.Denot). told_of (signs g.G.Signature.EXACT g.G.Signature.holds g.G.Signature.nothing g.G.Signature.with_note) e u) c.self.view_is ∙ sym c.in-Some-Hop.ensures.is ∙ ap Some c.in-Some-Hop.field-0-is in
    let h = hops (signs g.G.Signature.EXACT g.G.Signature.holds g.G.Signature.nothing g.G.Signature.with_note) _ c.self.inside.plan c.self.inside.table c.self.invariant u is in
    let asks = ap (λ (e : Engine g.row.G.Denot). asked (signs g.G.Signature.EXACT g.G.Signature.holds g.G.Signature.nothing g.G.Signature.with_note) e u) (sym c.self.view_is) ∙ asks_hop (signs g.G.Signature.EXACT g.G.Signature.holds g.G.Signature.nothing g.G.Signature.with_note) _ c.self.inside.plan c.self.inside.table c.self.invariant u h is in
    let both = c.is_at.ensures h.there.number h.piece h.there.bench_is in
    ((λ holds. asks ∙ ap (λ p. Ready (work.Hop p)) (both.0 holds)), λ asked_so. both.1 (let same : Ready (work.Hop h.piece) ≡ Ready (work.Hop c.args.piece.now) = sym asks ∙ asked_so in cc))
